-- NONINTERFERENCE OF THE EXPORTED WRITER (specs/Noninterference.antt): by that of the functions that are exported (crate theorem_functions).
use mathlib.Core.Path.{subst}
use Rattle.theorem_functions.specs.declared.WrittenPair.{WrittenPair}
use Rattle.theorem_functions.specs.Calls.{Left, form, written_and_read}
use Rattle.theorem_functions.specs.Noninterference.{Shared, SidesAlike, SameAnswers, both_refused as answers-refused, both_written as answers-written}
use Rattle.theorem_functions.proofs.Noninterference.{noninterference}
use Rattle.theorem_exports.specs.Calls.{Side, lent_by}
use Rattle.theorem_exports.specs.Noninterference.{SameNumbers, both_refused, both_written}
use Rattle.theorem_exports.proofs.Sides.{read_left, side_calls, side_words, refused_export, read_side}

module _ (a b : Side) where
  abbrev answers : WrittenPair
  answers = record { a = written_and_read (form (lent_by a)); b = written_and_read (form (lent_by b)) }

  pub exports_noninterference : Shared (lent_by a) (lent_by b) → SameNumbers a b
  exports_noninterference shared = go (noninterference (lent_by a) (lent_by b) (read_left a) (read_left b) answers (side_words a) (side_calls a)
      (side_calls b) shared)
    where
      go : SameAnswers (lent_by a) (lent_by b) (read_left a) (read_left b) answers → SameNumbers a b
      go (answers-refused e in-a in_b zeros-a zeros-b) = both_refused e (refused_export a e in-a zeros-a) (refused_export b e in_b zeros-b)
      go (answers-written n found-a found-b in-a in_b alike) =
          let side_a = (read_side a n found-a in-a).1 in
          let side_b = (read_side b n found-b in_b).1 in
          both_written n found-a found-b side_a.is side_b.is
          (subst (λ (p : Left × Left). SidesAlike (lent_by a) (lent_by b) p.0 p.1 n found-a.variable_count found-b.variable_count)
          (λ i. (side_a.same_left i, side_b.same_left i)) alike)
