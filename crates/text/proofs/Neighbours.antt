-- Each byte fits after the three before it exactly where the bytes are Table 3-7's: the three say how many bytes of a sequence are still to come.
use mathlib.Core.Path.{◌≡◌, refl, sym, ap, ◌∙◌}
use mathlib.Core.Bool.{Bool, true, false, not, ◌&&◌, ◌||◌, cond, and_assoc}
use mathlib.Core.List.{List, [], ◌∷◌}
use mathlib.Core.Logic.{◌⊎◌, inl, inr, ⊎_elim}
use Prim.Native.Nat.{ℕ, zero, suc, ◌+◌, ◌-◌, ◌<◌, ◌≤◌}
use native.Mathlib.Numerals.{add-one}
use native.Mathlib.Omega.{arith}
use borrow.Author.Tests.{le-leb, lt-leb, lt-ltb, le-ltb, ne_eqb, leb-true, ltb-true, ltb-false}
use lib.Dec.{eqb, leb, ltb}
use lib.ListN.{length, get_or, replicate, drop, drop_of_length-le}
use lib.Seq.{drop-cons}
use Rattle.text.specs.Utf8.{Left, tail, table37, begun, run, whole, well_formed}
use Rattle.text.specs.Sequences.{tails_after, lowest_after, highest_after}
use Rattle.text.specs.Neighbours.{tail_due, may_follow, may_begin, fits, fits_from}
use Rattle.std.proofs.lemmas.Bool.{and_parts}
use Rattle.text.proofs.Runs.{begun_ascii, run_ill_formed}
use Rattle.text.proofs.Sequences.{awaits, awaits_tails, awaits_not_whole, no_tails, some_tails}

or-true : (a : Bool) → (a || true) ≡ true
or-true true = refl
or-true false = refl

-- What the three bytes say of a sequence.
module _ (p3 p2 p1 : ℕ) where
  none_due : p1 < 0xc0 → p2 < 0xe0 → p3 < 0xf0 → tail_due p3 p2 p1 ≡ false
  none_due h1 h2 h3 = rw (lt-leb 0xc0 p1 h1, lt-leb 0xe0 p2 h2, lt-leb 0xf0 p3 h3)

  due_first : 0xc0 ≤ p1 → tail_due p3 p2 p1 ≡ true
  due_first h = rw (le-leb 0xc0 p1 h)

  due_second : 0xe0 ≤ p2 → tail_due p3 p2 p1 ≡ true
  due_second h = rw (le-leb 0xe0 p2 h, or-true (leb 0xc0 p1))

  due_third : 0xf0 ≤ p3 → tail_due p3 p2 p1 ≡ true
  due_third h = rw (le-leb 0xf0 p3 h, or-true (leb 0xc0 p1 || leb 0xe0 p2))

-- After these three, n bytes of a sequence are to come.
abbrev ToCome : ℕ → ℕ → ℕ → ℕ → Type 0
ToCome zero p3 p2 p1 = (p1 < 0xc0) × (p2 < 0xe0) × (p3 < 0xf0)
ToCome (suc zero) p3 p2 p1 = (tail_due p3 p2 p1 ≡ true) × (p1 < 0xe0) × (p2 < 0xf0)
ToCome (suc (suc zero)) p3 p2 p1 = ((0xe0 ≤ p1) ⊎ (0xf0 ≤ p2)) × (p1 < 0xf0)
ToCome (suc (suc (suc zero))) p3 p2 p1 = 0xf0 ≤ p1
ToCome (suc (suc (suc (suc n)))) p3 p2 p1 = ⊥

is_due : (n p3 p2 p1 : ℕ) → ToCome (suc n) p3 p2 p1 → tail_due p3 p2 p1 ≡ true
is_due zero p3 p2 p1 h = h.0
is_due (suc zero) p3 p2 p1 h = ⊎_elim (λ g. due_first p3 p2 p1 (omega arith)) (λ g. due_second p3 p2 p1 (omega arith)) h.0
is_due (suc (suc zero)) p3 p2 p1 h = due_first p3 p2 p1 (omega arith)
is_due (suc (suc (suc n))) p3 p2 p1 h = absurd h

-- One of them comes.
one_fewer : (n p3 p2 p1 b : ℕ) → b < 0xc0 → ToCome (suc n) p3 p2 p1 → ToCome n p2 p1 b
one_fewer zero p3 p2 p1 b low h = (low, h.1, h.2)
one_fewer (suc zero) p3 p2 p1 b low h = (⊎_elim (λ g. due_second p2 p1 b g) (λ g. due_third p2 p1 b g) h.0, omega arith, h.1)
one_fewer (suc (suc zero)) p3 p2 p1 b low h = (inr h, omega arith)
one_fewer (suc (suc (suc n))) p3 p2 p1 b low h = absurd h

-- After a byte that begins no sequence of two bytes or more, a byte inside one is any tail.
module _ (b : ℕ) (low : b < 0xc0) where
  plain_lowest : lowest_after b ≡ 0x80
  unfolding lowest_after
  plain_lowest = rw (ne_eqb b 0xe0 (λ e. omega arith), ne_eqb b 0xf0 (λ e. omega arith))

  plain_highest : highest_after b ≡ 0xbf
  unfolding highest_after
  plain_highest = rw (ne_eqb b 0xed (λ e. omega arith), ne_eqb b 0xf4 (λ e. omega arith))

  tails_left : (n : ℕ) → Left.columns (replicate n tail) ≡ awaits n (lowest_after b) (highest_after b)
  tails_left n = awaits_tails n ∙ rw (plain_lowest, plain_highest)

highest_is_tail : (p : ℕ) → highest_after p ≤ 0xbf
unfolding highest_after
highest_is_tail p = go (eqb p 0xed) (eqb p 0xf4)
  where
    go : (x y : Bool) → cond x 0x9f (cond y 0x8f 0xbf) ≤ 0xbf
    go true y = omega arith
    go false true = omega arith
    go false false = omega arith

-- A first byte: none of Table 3-7's, or one after which so many bytes are to come.
abbrev First : ℕ → Type 0
First b =
    ((may_begin b ≡ false) × (begun table37 b ≡ Left.ill_formed))
    ⊎ ((may_begin b ≡ true) × ((n : ℕ) × (begun table37 b ≡ awaits n (lowest_after b) (highest_after b)) × ((p2 p1 : ℕ) → p1 < 0xc0 → p2 < 0xe0
    → ToCome n p2 p1 b)))

module _ (b : ℕ) where
  ascii_first : b < 0x80 → First b
  ascii_first h = inr (rw (lt-ltb b 0x80 h), (0, begun_ascii b h, λ p2 p1 h1 h2. (omega arith, omega arith, omega arith)))

  -- from 0x80 on, by the number of bytes that follow
  begins : 0xc2 ≤ b → b < 0xf5 → may_begin b ≡ true
  begins h g = rw (le-ltb b 0x80 (omega arith), le-leb 0xc2 b h, lt-ltb b 0xf5 g)

  so_many : (n : ℕ) → tails_after b ≡ suc n → 0x80 ≤ b → begun table37 b ≡ awaits (suc n) (lowest_after b) (highest_after b)
  so_many n e h = some_tails b h (λ z. omega arith) ∙ ap (λ (k : ℕ). awaits k (lowest_after b) (highest_after b)) e

  from_80 : (is-low is-two is-three is-four : Bool) → ltb b 0xc2 ≡ is-low → ltb b 0xe0 ≡ is-two → ltb b 0xf0 ≡ is-three → ltb b 0xf5 ≡ is-four
      → 0x80 ≤ b → First b
  unfolding tails_after
  from_80 true is-two is-three is-four l t r f h =
      let low = ltb-true b 0xc2 l in
      inl (rw (le-ltb b 0x80 h, lt-leb 0xc2 b low), no_tails b h (rw l))
  from_80 false true is-three is-four l t r f h =
      let low = ltb-false b 0xc2 l in
      let high = ltb-true b 0xe0 t in
      inr (begins low (omega arith), (1, so_many 0 (rw (l, t)) h, λ p2 p1 h1 h2. (due_first p2 p1 b (omega arith), high, omega arith)))
  from_80 false false true is-four l t r f h =
      let low = ltb-false b 0xe0 t in
      let high = ltb-true b 0xf0 r in
      inr (begins (omega arith) (omega arith), (2, so_many 1 (rw (l, t, r)) h, λ p2 p1 h1 h2. (inl low, high)))
  from_80 false false false true l t r f h =
      let low = ltb-false b 0xf0 r in
      let high = ltb-true b 0xf5 f in
      inr (begins (omega arith) high, (3, so_many 2 (rw (l, t, r, f)) h, λ p2 p1 h1 h2. low))
  from_80 false false false false l t r f h =
      let low = ltb-false b 0xf5 f in
      inl (rw (le-ltb b 0x80 h, le-leb 0xc2 b (omega arith), f), no_tails b h (rw (l, t, r, f)))

first : (b : ℕ) → First b
first b = go (ltb b 0x80) refl
  where
    go : (is_ascii : Bool) → ltb b 0x80 ≡ is_ascii → First b
    go true e = ascii_first b (ltb-true b 0x80 e)
    go false e = from_80 b (ltb b 0xc2) (ltb b 0xe0) (ltb b 0xf0) (ltb b 0xf5) refl refl refl refl (ltb-false b 0x80 e)

-- Where n bytes of a sequence are to come, the bytes fit exactly where the table's run from there ends whole.
fits_run : (bs : List ℕ) (n p3 p2 p1 : ℕ) → ToCome n p3 p2 p1 → fits_from p3 p2 p1 bs ≡ whole (run (awaits n (lowest_after p1) (highest_after p1)) bs)
unfolding fits_from fits run
fits_run [] zero p3 p2 p1 h = ap not (none_due p3 p2 p1 h.0 h.1 h.2)
fits_run [] (suc n) p3 p2 p1 h = ap not (is_due n p3 p2 p1 h) ∙ sym (awaits_not_whole (suc n) (lowest_after p1) (highest_after p1) (omega arith))
fits_run (b ∷ bs) zero p3 p2 p1 h =
    ap (λ d. cond d (may_follow p1 b) (may_begin b) && fits_from p2 p1 b bs) (none_due p3 p2 p1 h.0 h.1 h.2) ∙ ⊎_elim
    (λ no. ap (λ t. t && fits_from p2 p1 b bs) no.0 ∙ sym (ap whole (ap (λ l. run l bs) no.1 ∙ run_ill_formed bs)))
    (λ yes. ap (λ t. t && fits_from p2 p1 b bs) yes.0
    ∙ fits_run bs yes.1.0 p2 p1 b (yes.1.2 p2 p1 h.0 h.1) ∙ sym (ap (λ l. whole (run l bs)) yes.1.1))
    (first b)
fits_run (b ∷ bs) (suc n) p3 p2 p1 h =
    ap (λ d. cond d (may_follow p1 b) (may_begin b) && fits_from p2 p1 b bs) (is_due n p3 p2 p1 h)
    ∙ go (may_follow p1 b) refl (λ low. fits_run bs n p2 p1 b (one_fewer n p3 p2 p1 b low h))
  where
    go : (follows : Bool) → may_follow p1 b ≡ follows
        → (b < 0xc0 → fits_from p2 p1 b bs ≡ whole (run (awaits n (lowest_after b) (highest_after b)) bs))
        → (may_follow p1 b && fits_from p2 p1 b bs) ≡ whole (run (cond (may_follow p1 b) (Left.columns (replicate n tail)) Left.ill_formed) bs)
    go true e others =
        let high = leb-true b (highest_after p1) (and_parts (leb (lowest_after p1) b) (leb b (highest_after p1)) e).1 in
        let low : b < 0xc0 = omega (arith, highest_is_tail p1) in
        rw e (others low ∙ sym (ap (λ l. whole (run l bs)) (tails_left b low n)))
    go false e others = rw e (sym (ap whole (run_ill_formed bs)))

-- The rule by neighbours is Table 3-7: before a text nothing is to come.
pub fits_well_formed : (bs : List ℕ) → well_formed bs ≡ fits_from 0 0 0 bs
unfolding well_formed
fits_well_formed bs = sym (fits_run bs 0 0 0 0 (omega arith, omega arith, omega arith))

-- the bytes from i on: the one at i, then those from i + 1 on; past the end there are none
module _ (s : List ℕ) (i p3 p2 p1 : ℕ) where
  pub fits_here : i < length s → fits_from p3 p2 p1 (drop i s) ≡ (fits p3 p2 p1 (get_or s i 0) && fits_from p2 p1 (get_or s i 0) (drop (i + 1) s))
  unfolding fits_from
  fits_here h = rw (drop-cons s i 0 h, add-one i)

  pub fits_past : length s ≤ i → fits_from p3 p2 p1 (drop i s) ≡ not (tail_due p3 p2 p1)
  unfolding fits_from
  fits_past h = rw (drop_of_length-le s h)

-- A text of three bytes and more, from its fourth byte on, and from one byte to the next.
module _ (s : List ℕ) where
  pub fits_start : 3 ≤ length s
      → well_formed s ≡ (((fits 0 0 0 (get_or s 0 0) && fits 0 0 (get_or s 0 0) (get_or s 1 0)) && fits 0 (get_or s 0 0) (get_or s 1 0) (get_or s 2 0))
      && fits_from (get_or s 0 0) (get_or s 1 0) (get_or s 2 0) (drop 3 s))
  fits_start h =
      let one = fits 0 0 0 (get_or s 0 0) in
      let two = fits 0 0 (get_or s 0 0) (get_or s 1 0) in
      let three = fits 0 (get_or s 0 0) (get_or s 1 0) (get_or s 2 0) in
      let others = fits_from (get_or s 0 0) (get_or s 1 0) (get_or s 2 0) (drop 3 s) in
      fits_well_formed s ∙ fits_here s 0 0 0 0 (omega arith)
      ∙ ap (λ t. one && t) (fits_here s 1 0 0 (get_or s 0 0) (omega arith))
      ∙ ap (λ t. one && (two && t)) (fits_here s 2 0 (get_or s 0 0) (get_or s 1 0) h)
      ∙ sym (and_assoc one two (three && others)) ∙ sym (and_assoc (one && two) three others)

  pub fits_next : (i : ℕ) → 3 ≤ i → i < length s
      → fits_from (get_or s (i - 3) 0) (get_or s (i - 2) 0) (get_or s (i - 1) 0) (drop i s)
      ≡ (fits (get_or s (i - 3) 0) (get_or s (i - 2) 0) (get_or s (i - 1) 0) (get_or s i 0)
      && fits_from (get_or s (i + 1 - 3) 0) (get_or s (i + 1 - 2) 0) (get_or s (i + 1 - 1) 0) (drop (i + 1) s))
  fits_next i h g =
      let e3 : i - 2 ≡ i + 1 - 3 = omega arith in
      let e2 : i - 1 ≡ i + 1 - 2 = omega arith in
      let e1 : i ≡ i + 1 - 1 = omega arith in
      fits_here s i (get_or s (i - 3) 0) (get_or s (i - 2) 0) (get_or s (i - 1) 0) g
      ∙ (λ k. fits (get_or s (i - 3) 0) (get_or s (i - 2) 0) (get_or s (i - 1) 0) (get_or s i 0) && fits_from (get_or s (e3 k) 0) (get_or s (e2 k) 0)
      (get_or s (e1 k) 0) (drop (i + 1) s))
