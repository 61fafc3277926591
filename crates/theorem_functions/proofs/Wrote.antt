-- Two answers that are alike wrote alike: their lengths are equal, and so is what was read.
use Rattle.reflection.specs.Outcome.{Outcome}
use Rattle.std.specs.Prelude.{Ok, Err, ℕ}
use mathlib.Core.Path.{◌≡◌, ap}
use Rattle.read.specs.Answer.{Parsed}
use Rattle.theorem_functions.specs.declared.WrittenAndRead.{WrittenAndRead}
use Rattle.theorem_functions.specs.Calls.{wrote}

length_in : Outcome WrittenAndRead → ℕ
length_in (Ok w) = w.length
length_in (Err e) = 0

parsed_in : Outcome WrittenAndRead → Parsed
parsed_in (Ok w) = w.parsed
parsed_in (Err e) = Err e

module _ {n m : ℕ} {p q : Parsed} (e : wrote n p ≡ wrote m q) where
  pub same_length : n ≡ m
  unfolding length_in
  same_length = ap length_in e

  pub same_parsed : p ≡ q
  unfolding parsed_in
  same_parsed = ap parsed_in e
