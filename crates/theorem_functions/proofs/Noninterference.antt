-- NONINTERFERENCE (specs/Noninterference.antt), proved over the definitions that the contracts cite: by noninterference (crate theorem_noninterference),
-- since tables of words hold reflections whose numbers are words (crate theorem_round_trip), and since what was written stands at the output's start, where
-- `parse_rdef` finds it.
use Rattle.reflection.specs.Outcome.{Outcome}
use Rattle.reflection.specs.declared.refusal.Refusal.TheVariants.{NotReadable, NoRoom}
use Rattle.reflection.specs.declared.refusal.Refusal.{Refusal}
use Rattle.std.specs.Prelude.{Ok, Err, Option, None, Some}
use mathlib.Core.Path.{◌≡◌, refl, sym, ap, subst, ◌∙◌}
use mathlib.Core.Bool.{Bool, true, false, cond}
use mathlib.Core.List.{[], map}
use Prim.Native.Nat.{ℕ, ◌<◌, ◌≤◌}
use native.Mathlib.Omega.{arith}
use lib.Dec.{leb}
use lib.ListN.{length, get_or, take, drop}
use lib.Seq.{get_or-take}
use Rattle.words.specs.Splice.{splice}
use Rattle.words.proofs.Splice.{length_splice}
use Rattle.reflection.specs.declared.Text.{Text}
use Rattle.reflection.specs.Limits.{variable_table}
use Rattle.reflection.specs.Reflection.{ResourceDef}
use Rattle.tables.specs.Tables.{table, variable_rows, header_of}
use Rattle.reflection.specs.Texts.{text_bytes}
use Rattle.reflection.specs.Contents.{Bytes, defaults_of}
use Rattle.read_spec.specs.Step.{full_room}
use Rattle.read_spec.specs.Read.{read}
use Rattle.read.specs.Parsed.{parsed_of}
use Rattle.text_output.specs.Written.{fitting, output_of}
use Rattle.write_spec.specs.Canonical.{canonical}
use Rattle.write_spec.specs.Outcome.{scratch_size, canonical_or16, write}
use Rattle.theorem_round_trip.specs.RoundTrip.{NumbersAreWords}
use Rattle.theorem_round_trip.proofs.HeldWords.{held_words}
use Rattle.theorem_noninterference.specs.Noninterference.{SameButDefaults, Covered, Alike as FormsAlike, Indistinguishable}
use Rattle.theorem_noninterference.specs.Noninterference.{both_refused as forms-refused, both_written as forms-written}
use Rattle.theorem_noninterference.proofs.Noninterference.{canonical_noninterference}
use Rattle.theorem_functions.specs.declared.WrittenAndRead.{WrittenAndRead}
use Rattle.theorem_functions.specs.declared.WrittenPair.{WrittenPair}
use Rattle.theorem_functions.specs.Calls.{Lent, Left, reflection_in, form, read_back, written_and_read, WroteAndRead, wrote}
use Rattle.theorem_functions.specs.Noninterference.{SharedButDefaults, Shared, places_found, defaults_held, RefusedSide, WrittenSide}
use Rattle.theorem_functions.specs.Noninterference.{SameAnswers, both_refused, both_written}
use Rattle.theorem_functions.specs.Words.{LentWords}
use Rattle.theorem_functions.proofs.Written.{WrittenForm, written_form, written_start, written_rest}
use Rattle.theorem_functions.proofs.Found.{places_read}

pub numbers_are_words : (l : Lent) → LentWords l → (r : ResourceDef Bytes Bytes) → reflection_in l ≡ Some r → NumbersAreWords r
numbers_are_words l w r is =
    held_words l.chunk l.edits l.header l.bindings l.buffers l.variables l.types w.header w.bindings w.buffers
    w.variables w.types r is

-- One side's call.
module _ (l : Lent) (after : Left) (answer : Outcome WrittenAndRead) (calls : WroteAndRead l after answer) where
  -- It was refused.
  pub refused_side : (e : Refusal) → form l ≡ Err e → (answer ≡ Err e) × RefusedSide l after
  unfolding written_and_read output_of
  refused_side e is = (
    calls.answer_is ∙ ap written_and_read is,
    record { out_zero = calls.out-is ∙ ap (λ (o : Outcome Bytes). output_of o l.out) is; scratch_zero = calls.scratch_is },
  )

  -- It was written.
  module _ (bytes : Bytes) (is : form l ≡ Ok bytes) where
    is_form : WrittenForm (length l.scratch) (length l.out) (reflection_in l) bytes
    is_form = written_form (length l.scratch) (length l.out) (reflection_in l) bytes is

    room : length bytes ≤ length l.out
    room = omega (arith, is_form.fits)

    out_after : after.out ≡ splice l.out 0 bytes
    unfolding output_of
    out_after = calls.out-is ∙ ap (λ (o : Outcome Bytes). output_of o l.out) is

    pub written_bytes : take (length bytes) after.out ≡ bytes
    written_bytes = ap (take (length bytes)) out_after ∙ written_start bytes l.out room

    -- What reading found, of which this is the header.
    module _ (found : ResourceDef Text Text) (reads : read full_room bytes ≡ Ok found) where
      pub written_answer_lem : answer ≡ wrote (length bytes) (Ok (header_of found))
      unfolding written_and_read parsed_of
      written_answer_lem = calls.answer_is ∙ ap written_and_read is ∙ ap (λ (o : Outcome (ResourceDef Text Text)). wrote (length bytes) (parsed_of o)) reads

      pub read_outcome : read_back (form l) ≡ Ok found
      unfolding read_back
      read_outcome = ap read_back is ∙ reads

      pub places_found_lem : places_found (header_of found).variable_count after ≡ defaults_of found
      unfolding header_of table
      places_found_lem =
          places_read found variable_table after (calls.variables_are ∙ ap
          (λ (o : Outcome (ResourceDef Text Text)). table variable_rows o variable_table) read_outcome)

      pub written_side : (r : ResourceDef Bytes Bytes) → reflection_in l ≡ Some r → map (text_bytes bytes []) (defaults_of found) ≡ defaults_of r
          → WrittenSide l after (length bytes) (places_found (header_of found).variable_count after)
      written_side r held own = record {
        fits = omega (arith, room, ap length out_after, length_splice l.out 0 bytes);
        own_bytes = (λ i. map (text_bytes (written_bytes i) []) (places_found_lem i)) ∙ own ∙ sym (ap defaults_held held);
        past_as_before = ap (drop (length bytes)) out_after ∙ written_rest bytes l.out room;
        scratch_zero = calls.scratch_is;
      }

-- Where the tables hold nothing, the refusal hangs on the scratch alone.
nothing_refused : (enough : Bool) (room : ℕ) → (e : Refusal) × (cond enough (fitting room (canonical_or16 None)) (Err NoRoom) ≡ Err e)
unfolding canonical_or16 fitting
nothing_refused true room = (NotReadable, refl)
nothing_refused false room = (NoRoom, refl)

-- A byte of the written part is the form's.
byte_of_form : (out bytes : Bytes) (p : ℕ) → p < length bytes → take (length bytes) out ≡ bytes → get_or out p 0 ≡ get_or bytes p 0
byte_of_form out bytes p inside is = sym (get_or-take (length bytes) out p 0 inside) ∙ ap (λ (l : Bytes). get_or l p 0) is

module _
    (a b : Lent)
    (after-a after-b : Left)
    (answer : WrittenPair)
    (words-a : LentWords a)
    (calls_a : WroteAndRead a after-a answer.a)
    (calls_b : WroteAndRead b after-b answer.b)
    (same-scratch : length a.scratch ≡ length b.scratch)
    (same_room : length a.out ≡ length b.out) where
  -- B's form, by A's room.
  form_b : {o : Outcome Bytes} → write (length a.scratch) (length a.out) (reflection_in b) ≡ o → form b ≡ o
  form_b e = (λ i. write (sym same-scratch i) (sym same_room i) (reflection_in b)) ∙ e

  refused_both : (e : Refusal) → form a ≡ Err e → form b ≡ Err e → SameAnswers a b after-a after-b answer
  refused_both e is-a is_b =
      let (answer-a, side_a) = refused_side a after-a answer.a calls_a e is-a in
      let (answer-b, side_b) = refused_side b after-b answer.b calls_b e is_b in
      both_refused e answer-a answer-b side_a side_b

  module _ (r s : ResourceDef Bytes Bytes) (held-a : reflection_in a ≡ Some r) (held-b : reflection_in b ≡ Some s) where
    written_both : form a ≡ Ok (canonical r) → form b ≡ Ok (canonical s) → FormsAlike r s → SameAnswers a b after-a after-b answer
    written_both is-a is_b alike =
        let in-a = alike.in-a in
        let in_b = alike.in_b in
        let places-a = places_found_lem a after-a answer.a calls_a (canonical r) is-a in-a.found in-a.reads in
        let places-b = places_found_lem b after-b answer.b calls_b (canonical s) is_b in_b.found in_b.reads in
        let n-b : length (canonical s) ≡ length (canonical r) = sym alike.same_length in
        let own-a = ap (map (text_bytes (canonical r) [])) in-a.at_places ∙ in-a.own_bytes in
        let own-b = ap (map (text_bytes (canonical s) [])) in_b.at_places ∙ in_b.own_bytes in
        let found-in-a = written_bytes a after-a answer.a calls_a (canonical r) is-a in
        let found-in-b = written_bytes b after-b answer.b calls_b (canonical s) is_b in
        both_written (length (canonical r)) (header_of in-a.found) (header_of in_b.found)
        (written_answer_lem a after-a answer.a calls_a (canonical r) is-a in-a.found in-a.reads)
        (written_answer_lem b after-b answer.b calls_b (canonical s) is_b in_b.found in_b.reads
        ∙ ap (λ (n : ℕ). wrote n (Ok (header_of in_b.found))) n-b)
        (record {
          same_places = places-a ∙ in-a.at_places ∙ sym in_b.at_places ∙ sym places-b;
          same_outside = λ p inside outside.
              (byte_of_form after-a.out (canonical r) p inside found-in-a
              ∙ alike.same_outside p (λ covered. outside (subst (Covered p) (sym (places-a ∙ in-a.at_places)) covered))
              ∙ sym (byte_of_form after-b.out (canonical s) p (omega (arith, inside, n-b)) found-in-b));
          side_a = written_side a after-a answer.a calls_a (canonical r) is-a in-a.found in-a.reads r held-a own-a;
          side_b =
              subst (λ (n : ℕ). WrittenSide b after-b n (places_found (header_of in_b.found).variable_count after-b)) n-b
              (written_side b after-b answer.b calls_b (canonical s) is_b in_b.found in_b.reads s held-b own-b);
        })

    held_both : SameButDefaults r s → SameAnswers a b after-a after-b answer
    held_both same = go (canonical_noninterference (length a.scratch) (length a.out) r s (numbers_are_words a words-a r held-a) same)
      where
        as_a : {o : Outcome Bytes} → write (length a.scratch) (length a.out) (Some r) ≡ o → form a ≡ o
        as_a e = ap (write (length a.scratch) (length a.out)) held-a ∙ e

        as_b : {o : Outcome Bytes} → write (length a.scratch) (length a.out) (Some s) ≡ o → form b ≡ o
        as_b e = form_b (ap (write (length a.scratch) (length a.out)) held-b ∙ e)

        go : Indistinguishable (length a.scratch) (length a.out) r s → SameAnswers a b after-a after-b answer
        go (forms-refused e in-a in_b) = refused_both e (as_a in-a) (as_b in_b)
        go (forms-written in-a in_b alike) = written_both (as_a in-a) (as_b in_b) alike

  -- Neither side's tables hold a reflection.
  held_neither : reflection_in a ≡ None → reflection_in b ≡ None → SameAnswers a b after-a after-b answer
  unfolding write
  held_neither none-a none-b =
      let (e, is) = nothing_refused (leb scratch_size (length a.scratch)) (length a.out) in
      refused_both e (ap (write (length a.scratch) (length a.out)) none-a ∙ is) (form_b (ap (write (length a.scratch) (length a.out)) none-b ∙ is))

  pub same_answers : SharedButDefaults (reflection_in a) (reflection_in b) → SameAnswers a b after-a after-b answer
  same_answers shared = go (reflection_in a) refl (reflection_in b) refl shared
    where
      go : (o : Option (ResourceDef Bytes Bytes)) → reflection_in a ≡ o → (q : Option (ResourceDef Bytes Bytes)) → reflection_in b ≡ q
          → SharedButDefaults o q → SameAnswers a b after-a after-b answer
      go None is-a None is_b same = held_neither is-a is_b
      go (Some r) is-a (Some s) is_b same = held_both r s is-a is_b same
      go None is-a (Some s) is_b same = absurd same
      go (Some r) is-a None is_b same = absurd same

pub noninterference : (a b : Lent) (after-a after-b : Left) (answer : WrittenPair) → LentWords a → WroteAndRead a after-a answer.a
    → WroteAndRead b after-b answer.b
    → Shared a b → SameAnswers a b after-a after-b answer
noninterference a b after-a after-b answer words-a calls_a calls_b shared =
    same_answers a b after-a after-b answer words-a calls_a calls_b shared.scratch shared.output shared.reflections
