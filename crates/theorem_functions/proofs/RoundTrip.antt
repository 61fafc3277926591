-- ROUND TRIP (specs/RoundTrip.antt), proved over the definitions that the contracts cite: by the round trip of the canonical form (crate theorem_round_trip),
-- since tables of words hold reflections whose numbers are words, and since what reading leaves in tables is held there whole (crate readable).
use Rattle.reflection.specs.Outcome.{Outcome}
use Rattle.theorem_functions.proofs.Wrote.{same_length, same_parsed}
use Rattle.reflection.specs.declared.refusal.Refusal.TheVariants.{OutputTooSmall}
use Rattle.reflection.specs.declared.refusal.Refusal.{Refusal}
use Rattle.std.specs.Prelude.{Ok, Err, Some}
use mathlib.Core.Path.{◌≡◌, refl, sym, ap, subst, ◌∙◌}
use mathlib.Core.Bool.{Bool, true, false}
use mathlib.Core.List.{List, [], ◌∷◌}
use Prim.Native.Nat.{ℕ, zero, suc, ◌<◌, ◌≤◌, min}
use native.Mathlib.Omega.{arith}
use borrow.Author.Tests.{le-leb, lt-leb}
use lib.ListN.{length, get_or, take, drop, replicate, length-replicate}
use Rattle.words.specs.Parts.{inside, part}
use Rattle.words.specs.Splice.{splice}
use Rattle.reflection.specs.declared.Text.{Text}
use Rattle.reflection.specs.declared.ResourceDef.{ResourceDef as Header}
use Rattle.reflection.specs.Limits.{binding_table, buffer_table, variable_table, type_table, chunk_limit}
use Rattle.reflection.specs.Reflection.{ResourceDef}
use Rattle.tables.specs.Tables.{table, binding_rows, buffer_rows, variable_rows, type_rows, header_of}
use Rattle.reflection.specs.Contents.{Bytes, contents}
use Rattle.read_spec.specs.Step.{full_room}
use Rattle.read_spec.specs.Read.{read}
use Rattle.read.specs.Answer.{Parsed}
use Rattle.read.specs.Parsed.{parsed_of}
use Rattle.readable.specs.Readable.{table_contents, readable_contents}
use Rattle.readable.proofs.Reading.{AtMostFull, read_held}
use Rattle.text_output.specs.Written.{fitting, written_of, output_of}
use Rattle.write_spec.specs.Canonical.{canonical}
use Rattle.write_spec.specs.Outcome.{write}
use Rattle.write.proofs.Answers.{readable_written}
use Rattle.theorem_round_trip.specs.RoundTrip.{Restored as FormRestored}
use Rattle.theorem_round_trip.proofs.RoundTrip.{round_trip}
use Rattle.theorem_functions.specs.declared.WrittenAndRead.{WrittenAndRead}
use Rattle.theorem_functions.specs.declared.WrittenTwice.{WrittenTwice}
use Rattle.theorem_functions.specs.Calls.{Lent, Left, reflection_in, form, read_back, written_and_read, WroteAndRead, wrote, with_length, what_was_read}
use Rattle.theorem_functions.specs.RoundTrip.{written_again, again, SameAgain, FieldsRestored, refused_first, restored, RoundTrip}
use Rattle.theorem_functions.proofs.Written.{WrittenForm, written_form, written_start, written_rest, written_part}
use Rattle.theorem_functions.specs.Words.{LentWords}
use Rattle.theorem_functions.proofs.Noninterference.{numbers_are_words, refused_side, written_bytes, written_answer_lem, read_outcome}

-- A list whose elements are bytes.
abbrev pub ByteList : Bytes → Type 0
ByteList l = (i : ℕ) → get_or l i 0 < 256

take_bytes : (n : ℕ) (l : Bytes) → ByteList l → ByteList (take n l)
take_bytes zero l are i = omega arith
take_bytes (suc n) [] are i = omega arith
take_bytes (suc n) (x ∷ xs) are zero = are 0
take_bytes (suc n) (x ∷ xs) are (suc i) = take_bytes n xs (λ j. are (suc j)) i

part_bytes : (l : Bytes) (n : ℕ) → ByteList l → ByteList (part l 0 n)
unfolding part
part_bytes l n are = go (inside (length l) 0 n)
  where
    go : (holds : Bool) → ByteList (elim holds [ true ↦ take n (drop 0 l) | false ↦ [] ])
    go true = take_bytes n l are
    go false = λ i. omega arith

full : AtMostFull full_room
full = record { bindings = omega arith; buffers = omega arith; variables = omega arith; types = omega arith }

-- What reading left in tables of the whole room is held there.
module _ (l : Lent) (after : Left) (answer : Outcome WrittenAndRead) (calls : WroteAndRead l after answer) where
  pub found_held : (bytes : Bytes) → ByteList bytes → (found : ResourceDef Text Text) → read full_room bytes ≡ Ok found → read_back (form l) ≡ Ok found
      → table_contents bytes [] (header_of found) after.found_bindings after.found_buffers after.found_variables after.found_types
      ≡ Some (contents bytes [] found)
  unfolding table
  found_held bytes are-bytes found reads is =
      (λ i.
      table_contents bytes [] (header_of found)
      ((calls.bindings_are ∙ ap (λ (o : Outcome (ResourceDef Text Text)). table binding_rows o binding_table) is) i)
      ((calls.buffers_are ∙ ap (λ (o : Outcome (ResourceDef Text Text)). table buffer_rows o buffer_table) is) i)
      ((calls.variables_are ∙ ap (λ (o : Outcome (ResourceDef Text Text)). table variable_rows o variable_table) is) i)
      ((calls.types_are ∙ ap (λ (o : Outcome (ResourceDef Text Text)). table type_rows o type_table) is) i))
      ∙ read_held bytes [] are-bytes full_room full found reads (omega arith) binding_table buffer_table variable_table type_table

-- The second writing's outcome, by the first answer.
module _ (l : Lent) (after : Left) (answer : Outcome WrittenAndRead) (calls : WroteAndRead l after answer) (scratch room : ℕ) where
  pub again_refused : (e : Refusal) → answer ≡ Err e → again scratch room (form l) ≡ Err e
  unfolding again written_and_read
  again_refused e is = go (form l) (sym is ∙ calls.answer_is)
    where
      go : (o : Outcome Bytes) → Err e ≡ written_and_read o → again scratch room o ≡ Err e
      go (Ok bytes) same = absurd (let apart : ◌≡◌ {A = ℕ} 0 1 = cc in omega arith)
      go (Err d) same = cc

  pub again_unread : (n : ℕ) (e : Refusal) → answer ≡ wrote n (Err e) → again scratch room (form l) ≡ Err e
  unfolding again written_and_read parsed_of
  again_unread n e is = go (form l) (sym is ∙ calls.answer_is)
    where
      by_read : (bytes : Bytes) (o : Outcome (ResourceDef Text Text)) → wrote n (Err e) ≡ wrote (length bytes) (parsed_of o)
          → written_again scratch room bytes o ≡ Err e
      by_read bytes (Ok found) same = let parsed = same_parsed same in absurd (let apart : ◌≡◌ {A = ℕ} 0 1 = cc in omega arith)
      by_read bytes (Err d) same = let parsed = same_parsed same in cc

      go : (o : Outcome Bytes) → wrote n (Err e) ≡ written_and_read o → again scratch room o ≡ Err e
      go (Ok bytes) same = by_read bytes (read full_room bytes) same
      go (Err d) same = absurd (let apart : ◌≡◌ {A = ℕ} 0 1 = cc in omega arith)

  pub again_none : (e : Refusal) → what_was_read answer ≡ Err e → again scratch room (form l) ≡ Err e
  unfolding what_was_read with_length
  again_none e none = go answer refl none
    where
      by_read : (w : WrittenAndRead) → answer ≡ Ok w → (p : Parsed) → w.parsed ≡ p → with_length w.length p ≡ Err e
          → again scratch room (form l) ≡ Err e
      by_read w is (Ok h) parsed same = absurd (let apart : ◌≡◌ {A = ℕ} 0 1 = cc in omega arith)
      by_read w is (Err d) parsed same =
          let d-is : d ≡ e = cc in
          again_unread w.length d (is ∙ ap (wrote w.length) parsed) ∙ ap Err d-is

      go : (a : Outcome WrittenAndRead) → answer ≡ a → what_was_read a ≡ Err e → again scratch room (form l) ≡ Err e
      go (Ok w) is same = by_read w is w.parsed refl same
      go (Err d) is same =
          let d-is : d ≡ e = cc in
          again_refused d is ∙ ap Err d-is

  pub again_written : (n : ℕ) (h : Header) → answer ≡ wrote n (Ok h) → ByteList after.out
      → again scratch room (form l)
      ≡ write scratch room (table_contents (part after.out 0 n) [] h after.found_bindings after.found_buffers after.found_variables
      after.found_types)
  unfolding again written_and_read parsed_of read_back output_of
  again_written n h is are-bytes = go (form l) refl (sym is ∙ calls.answer_is)
    where
      second : Bytes → Header → Outcome Bytes
      second chunk header = write scratch room (table_contents chunk [] header after.found_bindings after.found_buffers after.found_variables
          after.found_types)

      by_read : (bytes : Bytes) → form l ≡ Ok bytes → (o : Outcome (ResourceDef Text Text)) → read full_room bytes ≡ o
          → wrote n (Ok h) ≡ wrote (length bytes) (parsed_of o)
          → written_again scratch room bytes o ≡ second (part after.out 0 n) h
      by_read bytes formed (Ok found) reads same =
          let fits = (written_form (length l.scratch) (length l.out) (reflection_in l) bytes formed).fits in
          let out : after.out ≡ splice l.out 0 bytes = calls.out-is ∙ ap (λ (o : Outcome Bytes). output_of o l.out) formed in
          let n-is : n ≡ length bytes = same_length same in
          let h-is : h ≡ header_of found = let parsed = same_parsed same in cc in
          let chunk : part after.out 0 n ≡ bytes = (λ i. part (out i) 0 (n-is i)) ∙ written_part bytes l.out (omega (arith, fits)) in
          let are : ByteList bytes = subst ByteList chunk (part_bytes after.out n are-bytes) in
          sym (ap (write scratch room) (found_held l after answer calls bytes are found reads (ap read_back formed ∙ reads)))
          ∙ sym (λ i. second (chunk i) (h-is i))
      by_read bytes formed (Err d) reads same = let parsed = same_parsed same in absurd (let apart : ◌≡◌ {A = ℕ} 0 1 = cc in omega arith)

      go : (o : Outcome Bytes) → form l ≡ o → wrote n (Ok h) ≡ written_and_read o → again scratch room o ≡ second (part after.out 0 n) h
      go (Ok bytes) formed same = by_read bytes formed (read full_room bytes) refl same
      go (Err d) formed same = absurd (let apart : ◌≡◌ {A = ℕ} 0 1 = cc in omega arith)

-- The second call of the writer: its chunk is the written part, its text of edits is empty, and its scratch is the first call's.
-- What was read, by its parts.
length_of : Outcome (ℕ × Header) → ℕ
length_of (Ok p) = p.0
length_of (Err e) = 0

header_or : Header → Outcome (ℕ × Header) → Header
header_or h (Ok p) = p.1
header_or h (Err e) = h

pub as_wrote : (answer : Outcome WrittenAndRead) (n : ℕ) (h : Header) → what_was_read answer ≡ Ok (n, h) → answer ≡ wrote n (Ok h)
unfolding what_was_read with_length length_of header_or
as_wrote (Ok w) n h same = by_read w.parsed refl same
  where
    by_read : (p : Parsed) → w.parsed ≡ p → with_length w.length p ≡ Ok (n, h) → Ok w ≡ wrote n (Ok h)
    by_read (Ok g) parsed same =
        let n-is : w.length ≡ n = ap length_of same in
        let h-is : g ≡ h = ap (header_or h) same in
        ap (wrote w.length) parsed ∙ (λ i. wrote (n-is i) (Ok (h-is i)))
    by_read (Err d) parsed same = absurd (let apart : ◌≡◌ {A = ℕ} 0 1 = cc in omega arith)
as_wrote (Err d) n h same = absurd (let apart : ◌≡◌ {A = ℕ} 0 1 = cc in omega arith)

pub second_call : (l : Lent) (after : Left) (first : Outcome WrittenAndRead) → WroteAndRead l after first → ByteList after.out → (n : ℕ) (h : Header)
    → first ≡ wrote n (Ok h)
    → (room : ℕ) {chunk edits : Bytes} {def : Header} {b f v t : List ℕ} → chunk ≡ part after.out 0 n → edits ≡ [] → def ≡ h
    → b ≡ after.found_bindings → f ≡ after.found_buffers → v ≡ after.found_variables → t ≡ after.found_types
    → again (length l.scratch) room (form l) ≡ write (length after.scratch) room (table_contents chunk edits def b f v t)
second_call l after first calls are-bytes n h is room chunk-is edits-is def-is b-is f-is v-is t-is =
    let scratch_is : length after.scratch ≡ length l.scratch = ap length calls.scratch_is ∙ length-replicate (length l.scratch) 0 in
    again_written l after first calls (length l.scratch) room n h is are-bytes
    ∙ sym
    (λ i. write (scratch_is i) room (table_contents (chunk-is i) (edits-is i) (def-is i) (b-is i) (f-is i) (v-is i) (t-is i)))

-- The scratch that the second call zeroes is as long as the first call's.
pub rescratched : (l : Lent) (after : Left) (first : Outcome WrittenAndRead) → WroteAndRead l after first → (scratch : List ℕ)
    → scratch ≡ replicate (length after.scratch) 0
    → WroteAndRead l
    (record {
      scratch = scratch;
      out = after.out;
      found_bindings = after.found_bindings;
      found_buffers = after.found_buffers;
      found_variables = after.found_variables;
      found_types = after.found_types;
    })
    first
rescratched l after first calls scratch is = record {
  answer_is = calls.answer_is;
  out-is = calls.out-is;
  scratch_is = is ∙ ap (λ (n : ℕ). replicate n 0) (ap length calls.scratch_is ∙ length-replicate (length l.scratch) 0);
  bindings_are = calls.bindings_are;
  buffers_are = calls.buffers_are;
  variables_are = calls.variables_are;
  types_are = calls.types_are;
}

-- What fits, and what does not.
module _ (room : ℕ) (bytes : Bytes) (short : length bytes ≤ chunk_limit) where
  fits : length bytes ≤ room → fitting room (Ok bytes) ≡ Ok bytes
  unfolding fitting
  fits enough = rw (le-leb (length bytes) (min room chunk_limit) (omega arith))

  too_long : room < length bytes → fitting room (Ok bytes) ≡ Err OutputTooSmall
  unfolding fitting
  too_long less = rw (lt-leb (length bytes) (min room chunk_limit) (omega arith))

module _
    (l : Lent)
    (after : Left)
    (second second-after : Bytes)
    (answer : WrittenTwice)
    (lent-words : LentWords l)
    (out-bytes : ByteList after.out)
    (calls : WroteAndRead l after answer.first)
    (answer_again : answer.again ≡ written_of (again (length l.scratch) (length second) (form l)))
    (out_again : second-after ≡ output_of (again (length l.scratch) (length second) (form l)) second) where
  -- The second writing, by its outcome.
  abbrev twice : Outcome Bytes
  twice = again (length l.scratch) (length second) (form l)

  first_refused : (e : Refusal) → form l ≡ Err e → FieldsRestored l after second second-after answer
  unfolding again written_of output_of
  first_refused e is =
      let (answered, side) = refused_side l after answer.first calls e is in
      let second_is : twice ≡ Err e = ap (again (length l.scratch) (length second)) is in
      refused_first e answered (answer_again ∙ ap written_of second_is) side.out_zero (out_again ∙ ap (λ (o : Outcome Bytes). output_of o second) second_is)

  module _ (r : ResourceDef Bytes Bytes) (is_held : reflection_in l ≡ Some r) (is : form l ≡ Ok (canonical r))
      (wrote : WrittenForm (length l.scratch) (length l.out) (reflection_in l) (canonical r)) (readable : readable_contents r ≡ true) where
    short : length (canonical r) ≤ chunk_limit
    short = omega (arith, wrote.fits)

    back : FormRestored r
    back = round_trip r readable (numbers_are_words l lent-words r is_held) short

    taken : take (length (canonical r)) after.out ≡ canonical r
    taken = written_bytes l after answer.first calls (canonical r) is

    held_again : table_contents (take (length (canonical r)) after.out) [] (header_of back.read_back) after.found_bindings
        after.found_buffers after.found_variables after.found_types ≡ reflection_in l
    held_again =
        ap (λ (chunk : Bytes). table_contents chunk [] (header_of back.read_back) after.found_bindings after.found_buffers
        after.found_variables after.found_types) taken
        ∙ found_held l after answer.first calls (canonical r) (subst ByteList taken (take_bytes (length (canonical r)) after.out out-bytes))
        back.read_back back.reads
        (read_outcome l after answer.first calls (canonical r) is back.read_back back.reads)
        ∙ ap Some back.restored
        ∙ sym is_held

    -- What was read is written as what was lent.
    twice_is : twice ≡ fitting (length second) (Ok (canonical r))
    unfolding again
    twice_is =
        ap (again (length l.scratch) (length second)) is
        ∙ ap (written_again (length l.scratch) (length second) (canonical r)) back.reads
        ∙ ap (λ (q : ResourceDef Bytes Bytes). write (length l.scratch) (length second) (Some q)) back.restored
        ∙ readable_written (length l.scratch) (length second) r readable wrote.enough

    same_again : SameAgain (length (canonical r)) after.out second second-after answer
    unfolding written_of output_of
    same_again = record {
      with_room = λ room.
          (let wrote-twice = twice_is ∙ fits (length second) (canonical r) short room in
          let out = out_again ∙ ap (λ (o : Outcome Bytes). output_of o second) wrote-twice in (
            answer_again ∙ ap written_of wrote-twice,
            (
              ap (take (length (canonical r))) out ∙ written_start (canonical r) second room ∙ sym taken,
              ap (drop (length (canonical r))) out ∙ written_rest (canonical r) second room,
            ),
          ));
      without_room = λ less.
          (let refused-twice = twice_is ∙ too_long (length second) (canonical r) short less in
          (answer_again ∙ ap written_of refused-twice, out_again ∙ ap (λ (o : Outcome Bytes). output_of o second) refused-twice));
    }

    written_restored : FieldsRestored l after second second-after answer
    written_restored =
        restored (length (canonical r)) (header_of back.read_back) (written_answer_lem l after answer.first calls (canonical r) is back.read_back
        back.reads) held_again same_again

  pub round_trip_demand : FieldsRestored l after second second-after answer
  round_trip_demand = go (form l) refl
    where
      go : (o : Outcome Bytes) → form l ≡ o → FieldsRestored l after second second-after answer
      go (Ok bytes) is =
          let wrote = written_form (length l.scratch) (length l.out) (reflection_in l) bytes is in
          let bytes-are = sym wrote.is_form in
          written_restored wrote.reflection wrote.is_held (is ∙ ap Ok bytes-are)
          (subst (WrittenForm (length l.scratch) (length l.out) (reflection_in l)) bytes-are wrote) wrote.is_readable
      go (Err e) is = first_refused e is

-- So of an answer by the outcome of the second writing.
pub round_trip_by : (l : Lent) (after : Left) (second second-after : Bytes) (answer : WrittenTwice) → LentWords l → ByteList after.out
    → (first : Outcome WrittenAndRead)
    → WroteAndRead l after first → first ≡ answer.first → (o : Outcome Bytes) → again (length l.scratch) (length second) (form l) ≡ o
    → answer.again ≡ written_of o
    → second-after ≡ output_of o second → RoundTrip l after second second-after answer
round_trip_by l after second second-after answer lent-words out-bytes first calls same o is answered left_out =
    let first-calls = subst (WroteAndRead l after) same calls in
    let answer_again = answered ∙ sym (ap written_of is) in
    let out_again = left_out ∙ sym (ap (λ (q : Outcome Bytes). output_of q second) is) in
    record {
      first = first-calls;
      answer_again = answer_again;
      out_again = out_again;
      demand = round_trip_demand l after second second-after answer lent-words out-bytes first-calls answer_again out_again;
    }
