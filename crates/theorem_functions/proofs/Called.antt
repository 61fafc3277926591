-- What `write_and_read` answers and leaves, from the contracts of the functions that it calls.
use Rattle.reflection.specs.Outcome.{Outcome}
use Rattle.reflection.specs.declared.refusal.Refusal.{Refusal}
use Rattle.std.specs.Prelude.{Ok, Err}
use Rattle.read.specs.Answer.{Parsed}
use mathlib.Core.Path.{◌≡◌, refl, sym, ap, ◌∙◌}
use mathlib.Core.List.{List}
use Prim.Native.Nat.{ℕ}
use native.Mathlib.Omega.{arith}
use lib.ListN.{length, replicate}
use Rattle.words.specs.Parts.{part}
use Rattle.reflection.specs.Limits.{binding_table, buffer_table, variable_table, type_table}
use Rattle.tables.specs.Tables.{table, binding_rows, buffer_rows, variable_rows, type_rows}
use Rattle.reflection.specs.Contents.{Bytes}
use Rattle.read_spec.specs.Step.{room_of, full_room}
use Rattle.read_spec.specs.Read.{read}
use Rattle.read.specs.Parsed.{parsed_of, read_into}
use Rattle.text_output.specs.Written.{written_of, output_of, Written}
use Rattle.theorem_functions.specs.Calls.{Lent, Left, reflection_in, form, read_back, written_and_read, WroteAndRead, wrote}
use Rattle.theorem_functions.proofs.Written.{written_form, written_part}

-- The tables have document 01's whole room.
whole_room : {b f v t : ℕ} → b ≡ binding_table → f ≡ buffer_table → v ≡ variable_table → t ≡ type_table → room_of b f v t ≡ full_room
unfolding room_of
whole_room {b} {f} {v} {t} nb nf nv nt = λ i. room_of (nb i) (nf i) (nv i) (nt i)

module _ (l : Lent) (after : Left) (written : Written) (answered : written ≡ written_of (form l)) (out : after.out ≡ output_of (form l) l.out)
    (scratch : after.scratch ≡ replicate (length l.scratch) 0) where
  -- The writer refused, and the tables were cleared.
  pub called_refused : (e : Refusal) → written ≡ Err e → after.found_bindings ≡ replicate binding_table 0 → after.found_buffers ≡ replicate buffer_table 0
      → after.found_variables ≡ replicate variable_table 0 → after.found_types ≡ replicate type_table 0 → WroteAndRead l after (Err e)
  unfolding written_of written_and_read read_back table
  called_refused e is bindings buffers variables types = go (form l) refl (sym is ∙ answered)
    where
      go : (o : Outcome Bytes) → form l ≡ o → Err e ≡ written_of o → WroteAndRead l after (Err e)
      go (Ok bytes) formed same = absurd (let apart : ◌≡◌ {A = ℕ} 0 1 = cc in omega arith)
      go (Err d) formed same =
          let d-is : e ≡ d = cc in
          record {
            answer_is = ap Err d-is ∙ sym (ap written_and_read formed);
            out-is = out;
            scratch_is = scratch;
            bindings_are = bindings ∙ sym (ap (λ (o : Outcome Bytes). table binding_rows (read_back o) binding_table) formed);
            buffers_are = buffers ∙ sym (ap (λ (o : Outcome Bytes). table buffer_rows (read_back o) buffer_table) formed);
            variables_are = variables ∙ sym (ap (λ (o : Outcome Bytes). table variable_rows (read_back o) variable_table) formed);
            types_are = types ∙ sym (ap (λ (o : Outcome Bytes). table type_rows (read_back o) type_table) formed);
          }

  module _ (b f v t : List ℕ) (nb : length b ≡ binding_table) (nf : length f ≡ buffer_table) (nv : length v ≡ variable_table)
      (nt : length t ≡ type_table) where
    -- n bytes were written, and read.
    pub called_written : (n : ℕ) → written ≡ Ok n → (parsed : Parsed) (chunk : Bytes) → chunk ≡ part after.out 0 n
        → parsed ≡ parsed_of (read_into chunk b f v t)
        → after.found_bindings ≡ table binding_rows (read_into chunk b f v t) (length b)
        → after.found_buffers ≡ table buffer_rows (read_into chunk b f v t) (length f)
        → after.found_variables ≡ table variable_rows (read_into chunk b f v t) (length v)
        → after.found_types ≡ table type_rows (read_into chunk b f v t) (length t)
        → WroteAndRead l after (wrote n parsed)
    unfolding written_of output_of written_and_read read_back read_into
    called_written n is parsed chunk chunk-is read_as bindings buffers variables types = go (form l) refl (sym is ∙ answered)
      where
        go : (o : Outcome Bytes) → form l ≡ o → Ok n ≡ written_of o → WroteAndRead l after (wrote n parsed)
        go (Ok bytes) formed same =
            let n-is : n ≡ length bytes = cc in
            let fits = (written_form (length l.scratch) (length l.out) (reflection_in l) bytes formed).fits in
            let out-is = out ∙ ap (λ (o : Outcome Bytes). output_of o l.out) formed in
            let whole : chunk ≡ bytes = chunk-is ∙ (λ i. part (out-is i) 0 (n-is i)) ∙ written_part bytes l.out (omega (arith, fits)) in
            let reads : read_into chunk b f v t ≡ read_back (form l) = (λ i. read (whole_room nb nf nv nt i) (whole i)) ∙ sym (ap read_back formed) in
            record {
              answer_is = (λ i. wrote (n-is i) ((read_as ∙ (λ j. parsed_of (read (whole_room nb nf nv nt j) (whole j)))) i)) ∙ sym (ap written_and_read formed);
              out-is = out;
              scratch_is = scratch;
              bindings_are = bindings ∙ (λ i. table binding_rows (reads i) (nb i));
              buffers_are = buffers ∙ (λ i. table buffer_rows (reads i) (nf i));
              variables_are = variables ∙ (λ i. table variable_rows (reads i) (nv i));
              types_are = types ∙ (λ i. table type_rows (reads i) (nt i));
            }
        go (Err d) formed same = absurd (let apart : ◌≡◌ {A = ℕ} 0 1 = cc in omega arith)
