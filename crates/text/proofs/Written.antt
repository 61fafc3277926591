-- A string that was written with its NUL is found again, and what is found at an offset is such a string.
use mathlib.Core.Path.{◌≡◌, refl, sym, ap, subst, ◌∙◌}
use mathlib.Core.Bool.{Bool, true, false, not}
use mathlib.Core.List.{List, [], ◌∷◌, ◌++◌}
use Prim.Native.Nat.{ℕ, suc, ◌+◌, ◌<◌}
use native.Mathlib.Nat.{add-zero, zero-add, add-suc, suc-add}
use native.Mathlib.Omega.{arith}
use borrow.Author.Tests.{not-true}
use lib.Dec.{eqb}
use lib.ListN.{length, take, drop, length-drop}
use lib.Seq.{take-append_seam}
use Rattle.std.specs.Prelude.{Option, Some, None}
use Rattle.std.proofs.lemmas.Option.{same_Some}
use Rattle.text.specs.declared.Span.{Span}
use Rattle.text.specs.Utf8.{well_formed}
use Rattle.text.specs.Strings.{span, until_nul, if_well_formed, cstring_at, without_nul}
use Rattle.text.proofs.Strings.{cstring_ends}
use Rattle.std.proofs.lemmas.Bool.{and_parts}

-- the scan over a name without NUL ends at the NUL after it
until_nul_written : (name after : List ℕ) (place n : ℕ) → without_nul name ≡ true
    → until_nul (name ++ (0 ∷ after)) place n ≡ Some (span place (n + length name))
unfolding until_nul without_nul
until_nul_written [] after place n e = ap (λ (k : ℕ). Some (span place k)) (sym (add-zero n))
until_nul_written (b ∷ bs) after place n e =
    let (here, later) = and_parts (not (eqb b 0)) (without_nul bs) e in
    rw (not-true (eqb b 0) here, until_nul)
    (until_nul_written bs after place (suc n) later ∙ ap (λ (k : ℕ). Some (span place k)) (suc-add n (length bs) ∙ sym (add-suc n (length bs))))

-- a string with its NUL, wherever it stands
pub cstring_of_string : (s name after : List ℕ) (place : ℕ) → drop place s ≡ name ++ (0 ∷ after)
    → without_nul name ≡ true → well_formed name ≡ true → cstring_at s place ≡ Some (span place (length name))
cstring_of_string s name after place is e f =
    cstring_ends s place (length name) true
    (ap (λ (l : List ℕ). until_nul l place 0) is ∙ until_nul_written name after place 0 e ∙ ap (λ (k : ℕ). Some (span place k)) (zero-add (length name)))
    (ap (λ (l : List ℕ). well_formed (take (length name) l)) is ∙ ap well_formed (take-append_seam name (0 ∷ after)) ∙ f)

-- what was found is one thing: its place and its length are
pub span_parts : {p k q n : ℕ} → Some (span p k) ≡ Some (span q n) → (p ≡ q) × (k ≡ n)
span_parts e = let same = same_Some (span _ _) (span _ _) e in (ap (λ (w : Span). w.place) same, ap (λ (w : Span). w.length) same)

-- What the scan has found: `more` bytes, none of them NUL, and then the NUL.
record Scanned (bs : List ℕ) (place n p k : ℕ) : Type 0 where
  is_place : p ≡ place
  more : ℕ
  long : k ≡ n + more
  inside : more < length bs
  no_nul : without_nul (take more bs) ≡ true

until_nul_found : (bs : List ℕ) (place n p k : ℕ) → until_nul bs place n ≡ Some (span p k) → Scanned bs place n p k
unfolding until_nul without_nul
until_nul_found [] place n p k e = absurd (let z : ◌≡◌ {A = ℕ} 0 1 = cc in omega arith)
until_nul_found (b ∷ bs) place n p k e = go (eqb b 0) refl e (until_nul_found bs place (suc n) p k)
  where
    go : (t : Bool) → eqb b 0 ≡ t → elim t [ true ↦ Some (span place n) | false ↦ until_nul bs place (suc n) ] ≡ Some (span p k)
        → (until_nul bs place (suc n) ≡ Some (span p k) → Scanned bs place (suc n) p k) → Scanned (b ∷ bs) place n p k
    go true z f again =
        let (same_place, same_length) = span_parts f in
        record { is_place = sym same_place; more = 0; long = omega arith; inside = omega arith; no_nul = refl }
    go false z f again =
        let found = again f in
        record {
          is_place = found.is_place;
          more = suc found.more;
          long = omega (arith, found.long);
          inside = omega (arith, found.inside);
          no_nul = rw z found.no_nul;
        }

-- A string at an offset: it begins there, it has no NUL, it is UTF-8, and the bytes have room for its NUL.
pub record StringAt (s : List ℕ) (at place n : ℕ) : Type 0 where
  pub is_place : place ≡ at
  pub ends : place + n < length s
  pub no_nul : without_nul (take n (drop place s)) ≡ true
  pub formed : well_formed (take n (drop place s)) ≡ true

if_well_formed_found : (s : List ℕ) (found : Option Span) (place n : ℕ) → if_well_formed s found ≡ Some (span place n)
    → (found ≡ Some (span place n)) × (well_formed (take n (drop place s)) ≡ true)
unfolding if_well_formed
if_well_formed_found s None place n e = (e, cc)
if_well_formed_found s (Some w) place n e = go (well_formed (take w.length (drop w.place s))) refl e
  where
    go : (ok : Bool) → well_formed (take w.length (drop w.place s)) ≡ ok → elim ok [ true ↦ Some w | false ↦ None ] ≡ Some (span place n)
        → (Some w ≡ Some (span place n)) × (well_formed (take n (drop place s)) ≡ true)
    go true z f = (f, cc)
    go false z f = (cc, cc)

pub cstring_found : (s : List ℕ) (at place n : ℕ) → cstring_at s at ≡ Some (span place n) → StringAt s at place n
unfolding cstring_at
cstring_found s at place n e =
    let (found, formed) = if_well_formed_found s (until_nul (drop at s) at 0) place n e in
    let scanned = until_nul_found (drop at s) at 0 place n found in
    let long : scanned.more ≡ n = omega arith in
    let from_at : take scanned.more (drop at s) ≡ take n (drop place s) = cc in
    record {
      is_place = scanned.is_place;
      ends = omega (arith, length-drop at s);
      no_nul = subst (λ (l : List ℕ). without_nul l ≡ true) from_at scanned.no_nul;
      formed = formed;
    }
