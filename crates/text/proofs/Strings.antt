-- The scan for a NUL, byte by byte, and what its end says of the string.
use mathlib.Core.Path.{◌≡◌, refl, sym, ap, ◌∙◌}
use mathlib.Core.Bool.{Bool, true, false, not, ◌&&◌, ◌||◌}
use mathlib.Core.List.{List, [], ◌∷◌}
use Prim.Native.Nat.{ℕ, ◌+◌, ◌-◌, ◌<◌, ◌≤◌}
use native.Mathlib.Numerals.{add-one}
use native.Mathlib.Omega.{arith}
use borrow.Author.Tests.{eq-eqb, ne_eqb}
use lib.Dec.{eqb}
use lib.ListN.{length, get_or, take, drop, drop_of_length-le, length-drop}
use lib.Seq.{take_all, drop-cons, get_or-take, length-take-le}
use Rattle.std.specs.Prelude.{Some, None}
use Rattle.std.specs.List.{list_any, slice_range}
use Rattle.text.specs.Utf8.{well_formed}
use Rattle.text.specs.Strings.{span, until_nul, if_well_formed, cstring_at, without_nul}
use Rattle.text.proofs.Runs.{well_formed_ascii}

-- The scan of a list's bytes from index i on, which stand i bytes after the string's place.
module _ (s : List ℕ) (place i : ℕ) where
  pub until_nul_end : length s ≤ i → until_nul (drop i s) place i ≡ None
  unfolding until_nul
  until_nul_end h = rw (drop_of_length-le s h)

  pub until_nul_here : i < length s → get_or s i 0 ≡ 0 → until_nul (drop i s) place i ≡ Some (span place i)
  unfolding until_nul
  until_nul_here h z = rw (drop-cons s i 0 h, eq-eqb (get_or s i 0) 0 z, until_nul)

  pub until_nul_more : i < length s → (get_or s i 0 ≡ 0 → ⊥) → until_nul (drop i s) place i ≡ until_nul (drop (i + 1) s) place (i + 1)
  unfolding until_nul
  until_nul_more h z = rw (drop-cons s i 0 h, ne_eqb (get_or s i 0) 0 z, add-one i, until_nul)

-- The scan is over.
module _ (s : List ℕ) (place : ℕ) where
  pub cstring_no_nul : until_nul (drop place s) place 0 ≡ None → cstring_at s place ≡ None
  unfolding cstring_at if_well_formed
  cstring_no_nul e = ap (if_well_formed s) e

  pub cstring_ends : (n : ℕ) (ok : Bool) → until_nul (drop place s) place 0 ≡ Some (span place n) → well_formed (take n (drop place s)) ≡ ok
      → cstring_at s place ≡ elim ok [ true ↦ Some (span place n) | false ↦ None ]
  unfolding cstring_at if_well_formed
  cstring_ends n ok e w = ap (if_well_formed s) e ∙ ap (λ (t : Bool). elim t [ true ↦ Some (span place n) | false ↦ None ]) w

-- The scan over the bytes from a place on has passed n of them.
module _ (s rest : List ℕ) (place n : ℕ) (is : rest ≡ slice_range s place (length s))
    (scan : until_nul rest place 0 ≡ until_nul (drop n rest) place n) where
  from_place : rest ≡ drop place s
  from_place = is ∙ take_all (length s - place) (drop place s) (omega (arith, length-drop place s))

  scan_from : until_nul (drop place s) place 0 ≡ until_nul (drop n rest) place n
  scan_from = sym (ap (λ (l : List ℕ). until_nul l place 0) from_place) ∙ scan

  pub string_here : (ok : Bool) → n < length rest → get_or rest n 0 ≡ 0 → well_formed (take n rest) ≡ ok
      → cstring_at s place ≡ elim ok [ true ↦ Some (span place n) | false ↦ None ]
  string_here ok h z w =
      cstring_ends s place n ok (scan_from ∙ until_nul_here rest place n h z)
      (ap (λ (l : List ℕ). well_formed (take n l)) (sym from_place) ∙ w)

  pub string_nowhere : length rest ≤ n → cstring_at s place ≡ None
  string_nowhere h = cstring_no_nul s place (scan_from ∙ until_nul_end rest place n h)

-- The first n bytes are all below 0x80.
abbrev pub AsciiBelow : List ℕ → ℕ → Type 0
AsciiBelow s n = (k : ℕ) → k < n → get_or s k 0 < 0x80

-- then they are well-formed
pub part_ascii : (s : List ℕ) (n : ℕ) → n ≤ length s → AsciiBelow s n → well_formed (take n s) ≡ true
part_ascii s n h below =
    let long : length (take n s) ≡ n = length-take-le n s h in
    well_formed_ascii (take n s) (λ k in-part. rw (get_or-take n s k 0 (omega arith)) (below k (omega arith)))

-- No byte is NUL where a search for one finds none.
pub without_nul_found : (s : List ℕ) (found : Bool) → found ≡ list_any (λ b. eqb b 0) s → not found ≡ without_nul s
unfolding without_nul
without_nul_found [] found e = rw e refl
without_nul_found (b ∷ bs) found e = rw e (go (eqb b 0) (without_nul_found bs (list_any (λ b. eqb b 0) bs) refl))
  where
    go : (nul : Bool) → not (list_any (λ b. eqb b 0) bs) ≡ without_nul bs → not (nul || list_any (λ b. eqb b 0) bs) ≡ (not nul && without_nul bs)
    go true others = refl
    go false others = others
