-- What reading one binding appends: each law follows the steps of `read_binding` up to the first that ends the walk.
use Rattle.reflection.specs.Outcome.{Outcome}
use Rattle.reflection.specs.declared.refusal.Refusal.{Refusal}
use Rattle.std.specs.Prelude.{None, Some, Ok, Err}
use Rattle.reflection.specs.declared.refusal.Refusal.TheVariants.{RecordPastEnd, BadName, NoRoom}
use mathlib.Core.Path.{◌≡◌, refl, sym, ap, ◌∙◌}
use mathlib.Core.Bool.{Bool, true, false}
use mathlib.Core.List.{List, ◌++◌}
use Prim.Native.Nat.{ℕ, ◌≤◌, ◌<◌}
use lib.ListN.{length}
use Rattle.words.specs.Words.{word_at}
use Rattle.words.specs.Parts.{inside}
use Rattle.text.specs.Strings.{span}
use Rattle.text.specs.Strings.{cstring_at}
use Rattle.reflection.specs.Limits.{binding_width}
use Rattle.reflection.specs.declared.Text.{Text}
use Rattle.reflection.specs.declared.ResourceBinding.{ResourceBinding as BindingRecord}
use Rattle.reflection.specs.Reflection.{ResourceBinding}
use Rattle.reflection.specs.Texts.{in_chunk}
use Rattle.tables.specs.Records.{binding_words_in_table, put_record}
use Rattle.tables.specs.Tables.{binding_record}
use Rattle.read_spec.specs.declared.Counts.{Counts}
use Rattle.read_spec.specs.Step.{Room, return}
use Rattle.read_spec.specs.Read.{read_binding, binding_stride, binding_from_chunk}
use Rattle.read_spec.proofs.Steps.{check_holds, check_fails, text_found, text_bad}
use Rattle.read_types.specs.Progress.{Progress, stopped, reached, progress}
use Rattle.read_types.specs.Walked.{HasRoom, room_left}
use Rattle.read_tables.specs.Bindings.{append_binding, code_check, bindings_in}
use Rattle.read_tables.proofs.Put.{record_put}
use Rattle.read_tables.proofs.Taking.{with_binding, no_binding, one_binding_lem}
use Rattle.read_tables.proofs.Codes.{codes_hold, codes_fail}

module _ (s : List ℕ) (wide : Bool) (at : ℕ) (capacity n : Counts) (w : List ℕ) where
  abbrev appended : Outcome (ResourceBinding Text × Room) → Progress (List ℕ)
  appended x = progress append_binding x w

  abbrev one : Progress (List ℕ)
  one = appended (read_binding s wide at (room_left capacity n))

  pub binding_full : capacity.bindings ≤ n.bindings → one ≡ stopped NoRoom
  unfolding read_binding
  binding_full full = ap appended (no_binding capacity n _ full)

  module _ (free : n.bindings < capacity.bindings) where
    pub binding_short : inside (length s) at (binding_stride wide) ≡ false → one ≡ stopped RecordPastEnd
    unfolding read_binding
    binding_short short = ap appended (one_binding_lem capacity n _ free ∙ check_fails _ _ _ _ short)

    module _ (fits : inside (length s) at (binding_stride wide) ≡ true) where
      pub binding_coded_wrong : (e : Refusal) → code_check s at ≡ Err e → one ≡ stopped e
      unfolding read_binding
      binding_coded_wrong e is = ap appended (one_binding_lem capacity n _ free ∙ check_holds _ _ _ _ fits ∙ codes_fail _ _ _ _ e is)

      module _ (none : code_check s at ≡ Ok tt) where
        pub binding_named_badly : cstring_at s (word_at s at) ≡ None → one ≡ stopped BadName
        unfolding read_binding
        binding_named_badly bad =
            ap appended (one_binding_lem capacity n _ free ∙ check_holds _ _ _ _ fits ∙ codes_hold _ _ _ _ none ∙ text_bad _ _ _ _ bad)

        pub binding_read : (place k : ℕ) → cstring_at s (word_at s at) ≡ Some (span place k)
            → one ≡ reached (w ++ binding_words_in_table (binding_record (binding_from_chunk s wide at (in_chunk place k)))) (room_left capacity (with_binding n))
        unfolding read_binding append_binding return
        binding_read place k name =
            ap appended (one_binding_lem capacity n _ free ∙ check_holds _ _ _ _ fits ∙ codes_hold _ _ _ _ none ∙ text_found _ _ _ _ place k name)

-- What was read stands in the table, once it is written.
module _ (s : List ℕ) (wide : Bool) (at : ℕ) (capacity n : Counts) (bindings : List ℕ)
    (room : HasRoom binding_width capacity.bindings n.bindings bindings) (free : n.bindings < capacity.bindings)
    (fits : inside (length s) at (binding_stride wide) ≡ true)
    (none : code_check s at ≡ Ok tt) where
  pub binding_written : {place k : ℕ} → cstring_at s (word_at s at) ≡ Some (span place k) → {name : Text} → name ≡ in_chunk place k
      → {binding : BindingRecord} → binding ≡ binding_record (binding_from_chunk s wide at name)
      → {bindings₁ : List ℕ} → bindings₁ ≡ put_record binding_width bindings n.bindings (binding_words_in_table binding)
      → progress append_binding (read_binding s wide at (room_left capacity n)) (bindings_in bindings n)
      ≡ reached (bindings_in bindings₁ (with_binding n)) (room_left capacity (with_binding n))
  unfolding binding_words_in_table
  binding_written {place} {k} found {name} is_name {binding} is {bindings₁} put =
      let words : Text → List ℕ = λ (x : Text). binding_words_in_table (binding_record (binding_from_chunk s wide at x)) in
      let is-record : binding ≡ binding_record (binding_from_chunk s wide at (in_chunk place k)) =
      is ∙ ap (λ (x : Text). binding_record (binding_from_chunk s wide at x)) is_name in
      binding_read s wide at capacity n (bindings_in bindings n) free fits none place k found
      ∙ ap (λ (x : List ℕ). reached x (room_left capacity (with_binding n)))
      (sym (record_put n.bindings bindings (words (in_chunk place k)) room free put (ap binding_words_in_table is-record) refl))
