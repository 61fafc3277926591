-- One side's exported calls, as calls of the functions that they export: `Lent` and `Left` of crate theorem_functions, with the answer that `form` comes to.
use Rattle.reflection.specs.Outcome.{Outcome}
use Rattle.theorem_functions.proofs.Wrote.{same_length, same_parsed}
use Rattle.reflection.specs.Refusals.{refusal_number}
use Rattle.reflection.specs.declared.refusal.Refusal.{Refusal}
use Rattle.std.specs.Prelude.{Ok, Err}
use mathlib.Core.Path.{◌≡◌, refl, sym, ap, ◌∙◌}
use mathlib.Core.List.{List, [], ◌∷◌}
use Prim.Native.Nat.{ℕ}
use native.Mathlib.Omega.{arith}
use lib.ListN.{length as size, get_or, take, replicate}
use Rattle.words.specs.Splice.{splice}
use Rattle.reflection.specs.declared.Text.{Text}
use Rattle.reflection.specs.declared.ResourceDef.{ResourceDef as Header}
use Rattle.reflection.specs.Limits.{binding_table, buffer_table, variable_table, type_table}
use Rattle.reflection.specs.Reflection.{ResourceDef}
use Rattle.tables.specs.Tables.{binding_rows, buffer_rows, variable_rows, type_rows, table, header_of}
use Rattle.reflection.specs.Contents.{Bytes}
use Rattle.read_spec.specs.Step.{room_of, full_room}
use Rattle.read_spec.specs.Read.{read}
use Rattle.read.specs.Parsed.{parsed_of, read_into}
use Rattle.theorem_round_trip.specs.RoundTrip.{EachIsWord}
use Rattle.nontrefalcu.specs.Exports.{number_of, result_table, header_words_in_table, header_at, header_table, one_word, length_table}
use Rattle.nontrefalcu.specs.Writing.{canonical_into}
use Rattle.theorem_functions.specs.Calls.{Left, left, form, read_back, written_and_read, WroteAndRead, wrote}
use Rattle.theorem_functions.specs.Noninterference.{RefusedSide}
use Rattle.theorem_functions.specs.Words.{LentWords}
use Rattle.theorem_functions.proofs.Noninterference.{written_bytes}
use Rattle.theorem_exports.specs.Calls.{WordsLent, WordsLeft, WriteCall, WholeRoom, WordTables, Side, lent_by, left_after}
use Rattle.theorem_exports.specs.Noninterference.{RefusedExport, WrittenExport}

-- What the writer's call leaves, with the tables as reading leaves them.
abbrev pub read_left : Side → Left
read_left s =
    left s.wrote.scratch s.wrote.out (table binding_rows (read_back (form (lent_by s))) binding_table)
    (table buffer_rows (read_back (form (lent_by s))) buffer_table)
    (table variable_rows (read_back (form (lent_by s))) variable_table) (table type_rows (read_back (form (lent_by s))) type_table)

pub side_calls : (s : Side) → WroteAndRead (lent_by s) (read_left s) (written_and_read (form (lent_by s)))
unfolding canonical_into
side_calls s = record {
  answer_is = refl;
  out-is = s.writing.text.out;
  scratch_is = s.writing.scratch;
  bindings_are = refl;
  buffers_are = refl;
  variables_are = refl;
  types_are = refl;
}

pub side_words : (s : Side) → LentWords (lent_by s)
unfolding header_at EachIsWord
side_words s = record {
  header = (s.words.header 0, (s.words.header 1, (s.words.header 5, (s.words.header 6, (s.words.header 7, tt)))));
  bindings = s.words.bindings;
  buffers = s.words.buffers;
  variables = s.words.variables;
  types = s.words.types;
}

-- A writer's call, by what it comes to.
module _ (l : WordsLent) (after : WordsLeft) (writing : WriteCall l after) where
  abbrev comes_to : Outcome Bytes
  comes_to = canonical_into l.chunk l.edits l.header l.bindings l.buffers l.variables l.types l.scratch l.out

  pub number_written : (bytes : Bytes) → comes_to ≡ Ok bytes → after.number ≡ 0
  unfolding number_of
  number_written bytes is = writing.text.answer ∙ ap (λ (o : Outcome Bytes). number_of o) is

  pub length_written : (bytes : Bytes) → comes_to ≡ Ok bytes → size l.length ≡ 1 → after.length ≡ size bytes ∷ []
  unfolding result_table splice
  length_written bytes is one =
      writing.text.length ∙ ap (λ (o : Outcome Bytes). length_table o (size l.length)) is ∙ ap (λ (k : ℕ). splice (replicate k 0) 0 (one_word (size bytes))) one

pub refused_export : (s : Side) (e : Refusal) → written_and_read (form (lent_by s)) ≡ Err e → RefusedSide (lent_by s) (read_left s) → RefusedExport s e
unfolding written_and_read canonical_into number_of result_table
refused_export s e is zeros = go (form (lent_by s)) refl is
  where
    go : (o : Outcome Bytes) → form (lent_by s) ≡ o → written_and_read o ≡ Err e → RefusedExport s e
    go (Ok bytes) formed same = absurd (let apart : ◌≡◌ {A = ℕ} 0 1 = cc in omega arith)
    go (Err d) formed same =
        let d-is : d ≡ e = cc in
        record {
          answer = s.writing.text.answer ∙ ap (λ (o : Outcome Bytes). number_of o) formed ∙ ap refusal_number d-is;
          length_zero = s.writing.text.length ∙ ap (λ (o : Outcome Bytes). length_table o (size s.given.length)) formed;
          zeros = record { out_zero = zeros.out_zero; scratch_zero = zeros.scratch_zero };
        }

whole_room : (t : WordTables) → WholeRoom t → room_of (size t.bindings) (size t.buffers) (size t.variables) (size t.types) ≡ full_room
unfolding room_of
whole_room t room = λ i. room_of (room.bindings i) (room.buffers i) (room.variables i) (room.types i)

header_whole : (h : Header) → splice (replicate 12 0) 0 (header_words_in_table h) ≡ header_words_in_table h
unfolding splice header_words_in_table
header_whole h = refl

-- A side that was written and read.
pub record ReadSide (s : Side) (n : ℕ) (found : Header) (bytes : Bytes) : Type 0 where
  pub formed : form (lent_by s) ≡ Ok bytes
  pub long : size bytes ≡ n
  pub is : WrittenExport s n found
  pub same_left : read_left s ≡ left_after s

pub read_side : (s : Side) (n : ℕ) (found : Header) → written_and_read (form (lent_by s)) ≡ wrote n (Ok found) → (bytes : Bytes) × ReadSide s n found bytes
unfolding written_and_read parsed_of canonical_into number_of read_into read_back result_table
read_side s n found is = go (form (lent_by s)) refl is
  where
    by_read : (bytes : Bytes) → form (lent_by s) ≡ Ok bytes → (o : Outcome (ResourceDef Text Text)) → read full_room bytes ≡ o
        → wrote (size bytes) (parsed_of o) ≡ wrote n (Ok found)
        → ReadSide s n found bytes
    by_read bytes formed (Ok d) reads same =
        let long : size bytes ≡ n = same_length same in
        let header : header_of d ≡ found = let parsed = same_parsed same in cc in
        let number = number_written s.given s.wrote s.writing bytes formed in
        let length_is : s.wrote.length ≡ n ∷ [] = length_written s.given s.wrote s.writing bytes formed s.one_length
        ∙ ap (λ (k : ℕ). k ∷ []) long in
        let parse = s.reading number in
        let lent-chunk : take (get_or s.wrote.length 0 0) s.wrote.out ≡ bytes =
        ap (λ (k : List ℕ). take (get_or k 0 0) s.wrote.out) length_is
        ∙ ap (λ (k : ℕ). take k s.wrote.out) (sym long)
        ∙ written_bytes (lent_by s) (read_left s) (written_and_read (form (lent_by s))) (side_calls s) bytes formed in
        let before = s.found_before in
        let reads_as : read_into (take (get_or s.wrote.length 0 0) s.wrote.out) before.bindings before.buffers before.variables
        before.types ≡ Ok d =
        (λ i. read (whole_room before s.room i) (lent-chunk i)) ∙ reads in
        let back : read_back (form (lent_by s)) ≡ Ok d = ap read_back formed ∙ reads in
        let as-back = reads_as ∙ sym back in
        let b = parse.bindings ∙ (λ i. table binding_rows (as-back i) (s.room.bindings i)) in
        let f = parse.buffers ∙ (λ i. table buffer_rows (as-back i) (s.room.buffers i)) in
        let v = parse.variables ∙ (λ i. table variable_rows (as-back i) (s.room.variables i)) in
        let t = parse.types ∙ (λ i. table type_rows (as-back i) (s.room.types i)) in
        record {
          formed = formed;
          long = long;
          is = record {
            answer = number;
            length_is = length_is;
            read = parse.answer ∙ ap (λ (o : Outcome (ResourceDef Text Text)). number_of o) reads_as;
            header_is =
                parse.header
                ∙ (λ i. header_table (reads_as i) (s.room.header i))
                ∙ header_whole (header_of d)
                ∙ ap header_words_in_table header;
          };
          same_left = sym (λ i. left s.wrote.scratch s.wrote.out (b i) (f i) (v i) (t i));
        }
    by_read bytes formed (Err e) reads same = let parsed = same_parsed same in absurd (let apart : ◌≡◌ {A = ℕ} 0 1 = cc in omega arith)

    go : (o : Outcome Bytes) → form (lent_by s) ≡ o → written_and_read o ≡ wrote n (Ok found) → (bytes : Bytes) × ReadSide s n found bytes
    go (Ok bytes) formed same = (bytes, by_read bytes formed (read full_room bytes) refl same)
    go (Err e) formed same = absurd (let apart : ◌≡◌ {A = ℕ} 0 1 = cc in omega arith)
