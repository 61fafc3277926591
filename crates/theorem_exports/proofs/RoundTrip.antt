-- ROUND TRIP OF THE EXPORTED FUNCTIONS (specs/RoundTrip.antt): by that of the functions that are exported (crate theorem_functions). What was read holds what
-- was lent, so a second call with as much scratch and output comes to the same.
use Rattle.reflection.specs.Outcome.{Outcome}
use Rattle.std.specs.Prelude.{Ok}
use mathlib.Core.Path.{◌≡◌, refl, sym, ap, ◌∙◌}
use mathlib.Core.List.{[], ◌∷◌}
use Prim.Native.Nat.{ℕ}
use native.Mathlib.Omega.{arith}
use lib.ListN.{length as size, take}
use Rattle.words.specs.Splice.{splice}
use Rattle.reflection.specs.declared.ResourceDef.{ResourceDef as Header}
use Rattle.reflection.specs.Contents.{Bytes}
use Rattle.readable.specs.Readable.{table_contents}
use Rattle.text_output.specs.Written.{written_of, output_of}
use Rattle.write_spec.specs.Outcome.{write}
use Rattle.nontrefalcu.specs.Exports.{header_words_in_table, header_at}
use Rattle.nontrefalcu.specs.Writing.{canonical_into}
use Rattle.theorem_functions.specs.declared.WrittenTwice.{WrittenTwice}
use Rattle.theorem_functions.specs.Calls.{reflection_in, form, written_and_read}
use Rattle.theorem_functions.specs.RoundTrip.{again, FieldsRestored, refused_first, restored as first-restored}
use Rattle.theorem_functions.proofs.Written.{written_form, written_start}
use Rattle.theorem_functions.proofs.Noninterference.{written_bytes}
use Rattle.theorem_functions.proofs.RoundTrip.{round_trip_demand}
use Rattle.theorem_exports.specs.Calls.{WordsLent, WordsLeft, WriteCall, Side, lent_by}
use Rattle.theorem_exports.specs.RoundTrip.{LentAgain, SameBytesAgain, RestoredExport, RoundTripOf, refused, restored}
use Rattle.theorem_exports.proofs.Sides.{read_left, side_calls, side_words, number_written, length_written, refused_export, ReadSide, read_side}

header_back : (h : Header) → header_at (header_words_in_table h) ≡ h
unfolding header_at header_words_in_table
header_back h = refl

module _ (s : Side) where
  -- What the functions that are exported come to, with a second output like the first.
  abbrev twice : Outcome Bytes
  twice = again (size s.given.scratch) (size s.given.out) (form (lent_by s))

  abbrev answers : WrittenTwice
  answers = record { first = written_and_read (form (lent_by s)); again = written_of (again (size s.given.scratch) (size s.given.out) (form (lent_by s))) }

  module _ (n : ℕ) (found : Header) (bytes : Bytes) (side : ReadSide s n found bytes)
      (all : table_contents (take n s.wrote.out) [] found (read_left s).found_bindings (read_left s).found_buffers (read_left s).found_variables
      (read_left s).found_types ≡ reflection_in (lent_by s)) where
    all_restored :
        table_contents (take n s.wrote.out) [] (header_at s.found.header) s.found.bindings s.found.buffers s.found.variables
        s.found.types ≡ reflection_in (lent_by s)
    all_restored =
        (λ i.
        table_contents (take n s.wrote.out) [] ((ap header_at side.is.header_is ∙ header_back found) i)
        (sym side.same_left i).found_bindings (sym side.same_left i).found_buffers
        (sym side.same_left i).found_variables (sym side.same_left i).found_types)
        ∙ all

    second : (l : WordsLent) (after : WordsLeft) → WriteCall l after → LentAgain s n l → SameBytesAgain s n after
    unfolding canonical_into output_of
    second l after writing lent =
        let same-held : table_contents l.chunk l.edits (header_at l.header) l.bindings l.buffers l.variables l.types
        ≡ reflection_in (lent_by s) =
        (λ i. table_contents (lent.chunk i) (lent.edits i) (header_at (lent.header i)) (lent.bindings i) (lent.buffers i) (lent.variables i)
        (lent.types i)) ∙ all_restored in
        let formed : canonical_into l.chunk l.edits l.header l.bindings l.buffers l.variables l.types l.scratch l.out ≡ Ok bytes =
        (λ i. write (lent.scratch i) (lent.out i) (same-held i)) ∙ side.formed in
        let fits = (written_form (size s.given.scratch) (size s.given.out) (reflection_in (lent_by s)) bytes side.formed).fits in
        let out : after.out ≡ splice l.out 0 bytes = writing.text.out ∙ ap (λ (o : Outcome Bytes). output_of o l.out) formed in
        let first : take (size bytes) s.wrote.out ≡ bytes = written_bytes (lent_by s) (read_left s) (written_and_read (form (lent_by s)))
        (side_calls s) bytes side.formed in
        record {
          answer = number_written l after writing bytes formed;
          length_is = length_written l after writing bytes formed lent.length ∙ ap (λ (k : ℕ). k ∷ []) side.long;
          same_bytes =
              (λ i. take (sym side.long i) (out i))
              ∙ written_start bytes l.out (omega (arith, fits, lent.out))
              ∙ sym first
              ∙ ap (λ (k : ℕ). take k s.wrote.out) side.long;
        }

    export_restored : RestoredExport s n
    export_restored = record {
      answer = side.is.answer;
      length_is = side.is.length_is;
      read = side.is.read;
      restored = all_restored;
      again = second;
    }

  pub exports_round_trip : RoundTripOf s
  exports_round_trip =
      go
      (round_trip_demand (lent_by s) (read_left s) s.given.out (output_of twice s.given.out) answers (side_words s) s.bytes (side_calls s) refl refl)
    where
      go : FieldsRestored (lent_by s) (read_left s) s.given.out (output_of twice s.given.out) answers → RoundTripOf s
      go (refused_first e is again-is out_zero second-zero) = refused e
          (refused_export s e is (record { out_zero = out_zero; scratch_zero = s.writing.scratch }))
      go (first-restored n found is all same) =
          let (bytes, side) = read_side s n found is in
          restored n (export_restored n found bytes side all)
