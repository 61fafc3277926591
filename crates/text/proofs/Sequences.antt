-- The numbers by which `short_utf8_ok` goes are those of Table 3-7: one test, computed over every byte from 0x80 on. From it follows what each byte
-- of a sequence does to the run.
use mathlib.Core.Path.{◌≡◌, refl, sym, ap, ◌∙◌}
use mathlib.Core.Bool.{Bool, true, false, ◌&&◌, ◌||◌, cond}
use mathlib.Core.List.{List, [], ◌∷◌}
use mathlib.Core.Logic.{◌⊎◌, inl, inr}
use Prim.Native.Nat.{ℕ, zero, suc, ◌-◌, ◌<◌, ◌≤◌, zero-le}
use native.Mathlib.Omega.{arith}
use borrow.Author.Tests.{le-leb, lt-leb, le-ltb, ne_eqb, eqb-true}
use lib.Dec.{eqb, ltb}
use lib.ListN.{replicate}
use Rattle.std.proofs.lemmas.Bool.{and_parts, agree_below, agree_below_at, cases_lt}
use Rattle.text.specs.Utf8.{Span, Left, holds, tail, table37, begun, run, whole}
use Rattle.text.specs.Sequences.{tails_after, lowest_after, highest_after}
use Rattle.text.proofs.Runs.{run_ill_formed, run_ascii_byte}

-- `left` bytes of a sequence are still to come, the next of them from `low` to `high`
abbrev pub awaits : ℕ → ℕ → ℕ → Left
awaits zero low high = Left.columns []
awaits (suc left) low high = Left.columns (record { low = low; high = high } ∷ replicate left tail)

-- whether two are equal, as a test that computes
abbrev same_spans : List Span → List Span → Bool
same_spans [] [] = true
same_spans [] (y ∷ ys) = false
same_spans (x ∷ xs) [] = false
same_spans (x ∷ xs) (y ∷ ys) = eqb x.low y.low && (eqb x.high y.high && same_spans xs ys)

abbrev same_left : Left → Left → Bool
same_left Left.ill_formed Left.ill_formed = true
same_left Left.ill_formed (Left.columns ys) = false
same_left (Left.columns xs) Left.ill_formed = false
same_left (Left.columns xs) (Left.columns ys) = same_spans xs ys

abbrev span : ℕ → ℕ → Span
span low high = record { low = low; high = high }

spans_equal : (xs ys : List Span) → same_spans xs ys ≡ true → xs ≡ ys
spans_equal [] [] t = refl
spans_equal [] (y ∷ ys) t = cc
spans_equal (x ∷ xs) [] t = cc
spans_equal (x ∷ xs) (y ∷ ys) t =
    let (low, later) = and_parts (eqb x.low y.low) (eqb x.high y.high && same_spans xs ys) t in
    let (high, others) = and_parts (eqb x.high y.high) (same_spans xs ys) later in
    let p : x ≡ y = ap (λ (n : ℕ). span n x.high) (eqb-true x.low y.low low) ∙ ap (span y.low) (eqb-true x.high y.high high) in
    let q : xs ≡ ys = spans_equal xs ys others in
    cc

lefts_equal : (x y : Left) → same_left x y ≡ true → x ≡ y
lefts_equal Left.ill_formed Left.ill_formed t = refl
lefts_equal Left.ill_formed (Left.columns ys) t = cc
lefts_equal (Left.columns xs) Left.ill_formed t = cc
lefts_equal (Left.columns xs) (Left.columns ys) t = ap Left.columns (spans_equal xs ys t)

-- what the numbers say of a first byte
abbrev pub awaits_after : ℕ → Left
awaits_after b = awaits (tails_after b) (lowest_after b) (highest_after b)

unfoldable pub by_numbers : ℕ → Left
by_numbers b = cond (eqb (tails_after b) 0) Left.ill_formed (awaits_after b)

agrees : ℕ → Bool
agrees b = ltb b 0x80 || same_left (begun table37 b) (by_numbers b)

-- computed at each byte
table_agrees : agree_below agrees (λ b. true) 256 ≡ true
unfolding agrees by_numbers tails_after lowest_after highest_after
table_agrees = refl

-- no row of the table has a byte from 256 on
begun_past : (b : ℕ) → 256 ≤ b → begun table37 b ≡ Left.ill_formed
begun_past b h =
    rw (
      le-leb 0 b zero-le,
      lt-leb b 0x7f (omega arith),
      le-leb 0xc2 b (omega arith),
      lt-leb b 0xdf (omega arith),
      le-leb 0xe0 b (omega arith),
      lt-leb b 0xe0 (omega arith),
      le-leb 0xe1 b (omega arith),
      lt-leb b 0xec (omega arith),
      le-leb 0xed b (omega arith),
      lt-leb b 0xed (omega arith),
      le-leb 0xee b (omega arith),
      lt-leb b 0xef (omega arith),
      le-leb 0xf0 b (omega arith),
      lt-leb b 0xf0 (omega arith),
      le-leb 0xf1 b (omega arith),
      lt-leb b 0xf3 (omega arith),
      le-leb 0xf4 b (omega arith),
      lt-leb b 0xf4 (omega arith),
    )

numbers_past : (b : ℕ) → 256 ≤ b → by_numbers b ≡ Left.ill_formed
unfolding by_numbers tails_after
numbers_past b h = rw (le-ltb b 0xc2 (omega arith), le-ltb b 0xe0 (omega arith), le-ltb b 0xf0 (omega arith), le-ltb b 0xf5 (omega arith))

begun_by_numbers : (b : ℕ) → 0x80 ≤ b → begun table37 b ≡ by_numbers b
unfolding agrees
begun_by_numbers b h = go (cases_lt b 256)
  where
    go : (b < 256) ⊎ (256 ≤ b) → begun table37 b ≡ by_numbers b
    go (inl g) =
        lefts_equal (begun table37 b) (by_numbers b)
        (sym (ap (λ (t : Bool). t || same_left (begun table37 b) (by_numbers b)) (le-ltb b 0x80 h)) ∙ agree_below_at agrees (λ b. true) 256 b table_agrees g)
    go (inr g) = begun_past b g ∙ sym (numbers_past b g)

-- A first byte from 0x80 on: none, or one after which so many bytes are to come.
module _ (b : ℕ) (from_80 : 0x80 ≤ b) where
  pub no_tails : tails_after b ≡ 0 → begun table37 b ≡ Left.ill_formed
  unfolding by_numbers
  no_tails e = begun_by_numbers b from_80 ∙ rw e

  pub some_tails : (tails_after b ≡ 0 → ⊥) → begun table37 b ≡ awaits_after b
  unfolding by_numbers
  some_tails e = begun_by_numbers b from_80 ∙ rw (ne_eqb (tails_after b) 0 e)

  pub run_no_first : (bs : List ℕ) → tails_after b ≡ 0 → whole (run (Left.columns []) (b ∷ bs)) ≡ false
  unfolding run
  run_no_first bs e = ap whole (ap (λ (l : Left). run l bs) (no_tails e) ∙ run_ill_formed bs)

  pub run_first : (bs : List ℕ) → (tails_after b ≡ 0 → ⊥) → run (Left.columns []) (b ∷ bs) ≡ run (awaits_after b) bs
  unfolding run
  run_first bs e = ap (λ (l : Left). run l bs) (some_tails e)

-- after one byte of a sequence the rest are tails
pub awaits_tails : (left : ℕ) → Left.columns (replicate left tail) ≡ awaits left 0x80 0xbf
awaits_tails zero = refl
awaits_tails (suc left) = refl

pub awaits_not_whole : (left low high : ℕ) → 0 < left → whole (awaits left low high) ≡ false
awaits_not_whole zero low high h = absurd (omega arith)
awaits_not_whole (suc left) low high h = refl

-- Inside a sequence.
module _ (left low high : ℕ) (more : 0 < left) where
  pub run_cut_short : whole (run (awaits left low high) []) ≡ false
  unfolding run
  run_cut_short = awaits_not_whole left low high more

module _ (b : ℕ) (bs : List ℕ) (low high : ℕ) where
  run_span : (left : ℕ) (fits : Bool) → holds (span low high) b ≡ fits
      → run (awaits (suc left) low high) (b ∷ bs) ≡ run (cond fits (Left.columns (replicate left tail)) Left.ill_formed) bs
  unfolding run
  run_span left fits e = ap (λ (t : Bool). run (cond t (Left.columns (replicate left tail)) Left.ill_formed) bs) e

  not_held : (b < low) ⊎ ((low ≤ b) × (high < b)) → holds (span low high) b ≡ false
  not_held (inl below) = rw (lt-leb low b below)
  not_held (inr above) = rw (le-leb low b above.0, lt-leb b high above.1)

  pub run_outside : (left : ℕ) → 0 < left → (b < low) ⊎ ((low ≤ b) × (high < b)) → whole (run (awaits left low high) (b ∷ bs)) ≡ false
  run_outside zero h e = absurd (omega arith)
  run_outside (suc left) h e = ap whole (run_span left false (not_held e) ∙ run_ill_formed bs)

  pub run_tail : (left : ℕ) → 0 < left → low ≤ b → b ≤ high → run (awaits left low high) (b ∷ bs) ≡ run (awaits (left - 1) 0x80 0xbf) bs
  run_tail zero h l e = absurd (omega arith)
  run_tail (suc left) h l e =
      let less : left ≡ suc left - 1 = omega arith in
      run_span left true (rw (le-leb low b l, le-leb b high e))
      ∙ ap (λ (l : Left). run l bs) (awaits_tails left)
      ∙ ap (λ (n : ℕ). run (awaits n 0x80 0xbf) bs) less

-- the turns of the loops of `short_utf8_ok`
pub ruleset turns = (run_ascii_byte, run_no_first, run_first, run_outside, run_tail)
