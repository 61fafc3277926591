-- Whether a part lies in a list, as the facts on numbers that the test stands for.
use mathlib.Core.Path.{◌≡◌}
use mathlib.Core.Bool.{true, false}
use mathlib.Core.List.{List, []}
use Prim.Native.Nat.{ℕ, ◌+◌, ◌≤◌, ◌<◌}
use borrow.Author.Tests.{le-leb, lt-leb, leb-true, leb-false}
use lib.ListN.{length, take, drop}
use Rattle.words.specs.Parts.{inside, part}

module _ (long place n : ℕ) where
  pub inside_fits : inside long place n ≡ true → place + n ≤ long
  unfolding inside
  inside_fits e = leb-true (place + n) long e

  pub outside_exceeds : inside long place n ≡ false → long < place + n
  unfolding inside
  outside_exceeds e = leb-false (place + n) long e

  pub fits_inside : place + n ≤ long → inside long place n ≡ true
  unfolding inside
  fits_inside h = le-leb (place + n) long h

  pub exceeds_outside : long < place + n → inside long place n ≡ false
  unfolding inside
  exceeds_outside h = lt-leb (place + n) long h

module _ (s : List ℕ) (place n : ℕ) where
  pub part_inside : inside (length s) place n ≡ true → part s place n ≡ take n (drop place s)
  unfolding part
  part_inside e = rw (part, e)

  pub part_outside : inside (length s) place n ≡ false → part s place n ≡ []
  unfolding part
  part_outside e = rw (part, e)
