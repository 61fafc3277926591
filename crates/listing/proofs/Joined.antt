-- The names of flags, joined from the left as the code writes them and from the right as the definition has them: joining is associative.
use mathlib.Core.Path.{◌≡◌, refl, ap, sym, ◌∙◌}
use mathlib.Core.Bool.{Bool, false, cond}
use mathlib.Core.List.{List, [], ◌∷◌, ◌++◌, append_assoc}
use Prim.Native.Nat.{ℕ, suc, ◌+◌, ◌<◌}
use native.Mathlib.Omega.{arith}
use borrow.Author.Tests.{eq-eqb, ne_eqb}
use lib.Dec.{eqb}
use lib.ListN.{length, drop, get_or}
use lib.Seq.{drop-cons}
use Rattle.std.proofs.Common.{Bor}
use Rattle.codes.specs.Microsoft.{D3D_SIF_USERPACKED, D3D_SIF_COMPARISON_SAMPLER, D3D_SIF_TEXTURE_COMPONENT_0, D3D_SIF_TEXTURE_COMPONENT_1}
use Rattle.codes.specs.Microsoft.{D3D_SIF_UNUSED}
use Rattle.flags.specs.Flags.{flag}
use Rattle.text_output.specs.Digits.{hex}
use Rattle.text_output.specs.Ascii.{ascii}
use Rattle.text_output.specs.declared.output.Output.{Output}
use Rattle.text_output.specs.Output.{Appended}
use Rattle.text_output.proofs.Appended.{appended_then}
use Rattle.listing.specs.Names.{flag_names}
use Rattle.listing.specs.Listing.{joined_by, set_names, or_hex, flags_part}

pub joined_nil : (c : ℕ) (a : List ℕ) → joined_by c a [] ≡ a
joined_nil c [] = refl
joined_nil c (x ∷ xs) = refl

joined_assoc : (c : ℕ) (a b d : List ℕ) → joined_by c (joined_by c a b) d ≡ joined_by c a (joined_by c b d)
joined_assoc c [] b d = refl
joined_assoc c (x ∷ xs) [] d = refl
joined_assoc c (x ∷ xs) (y ∷ ys) [] = refl
joined_assoc c (x ∷ xs) (y ∷ ys) (z ∷ zs) = append_assoc (x ∷ xs) (c ∷ y ∷ ys) (c ∷ z ∷ zs)

-- one name more: the first stands alone, another after a `;`
module _ {lent out out' : Output} where
  pub put_joined : (before name : List ℕ) → 0 < length name → Appended lent out before
      → Appended out out' (cond (eqb out.at lent.at) [] (59 ∷ []) ++ name) → Appended lent out' (joined_by 59 before name)
  put_joined [] name some p q = let first : out.at ≡ lent.at = omega (arith, p.text.next) in appended_then p (rw (eq-eqb out.at lent.at first) at q)
  put_joined (x ∷ xs) [] some p q = let none : ⊥ = omega arith in absurd none
  put_joined (x ∷ xs) (y ∷ ys) some p q =
      let later : out.at ≡ lent.at → ⊥ = λ e. omega (arith, p.text.next) in appended_then p (rw (ne_eqb out.at lent.at later) at q)

-- a name joined to those before it where its flag is set; and so for each row of a table of flags
abbrev pub joined_where : List ℕ → Bool → List ℕ → List ℕ
joined_where before set name = joined_by 59 before (cond set name [])

abbrev from_left : List ℕ → List (ℕ × List ℕ) → ℕ → List ℕ
from_left before [] w = before
from_left before (row ∷ rows) w = from_left (joined_where before (flag row.0 w) row.1) rows w

from_left_lem : (before : List ℕ) (rows : List (ℕ × List ℕ)) (w : ℕ) → from_left before rows w ≡ joined_by 59 before (set_names rows w)
unfolding set_names
from_left_lem before [] w = sym (joined_nil 59 before)
from_left_lem before (row ∷ rows) w =
    from_left_lem (joined_where before (flag row.0 w) row.1) rows w ∙ joined_assoc 59 before (cond (flag row.0 w) row.1 []) (set_names rows w)

pub five_joined : (w : ℕ) {a b c d e : Bool} → a ≡ flag D3D_SIF_USERPACKED w → b ≡ flag D3D_SIF_COMPARISON_SAMPLER w
    → c ≡ flag D3D_SIF_TEXTURE_COMPONENT_0 w → d ≡ flag D3D_SIF_TEXTURE_COMPONENT_1 w → e ≡ flag D3D_SIF_UNUSED w
    → joined_where (joined_where (joined_where (joined_where (joined_where [] a (ascii "userPacked")) b (ascii "comparisonSampler")) c (ascii "texComp0"))
    d (ascii "texComp1")) e (ascii "unused")
    ≡ set_names flag_names w
five_joined w pa pb pc pd pe = rw (pa, pb, pc, pd, pe) (from_left_lem [] flag_names w)

-- pairs of whether a flag is set and its name: the names that are set, joined to those before them, the room that they take, and that none is empty
abbrev Pairs : Type 0
Pairs = List (Bool × Bor (List ℕ))

abbrev pub left_joined : List ℕ → Pairs → List ℕ
left_joined before [] = before
left_joined before (x ∷ xs) = left_joined (joined_where before x.0 x.1.now) xs

abbrev pub room_of : Pairs → ℕ
room_of [] = 0
room_of (x ∷ xs) = (1 + length x.1.now) + room_of xs

abbrev pub AllNamed : Pairs → Type 0
AllNamed [] = Unit
AllNamed (x ∷ xs) = (0 < length x.1.now) × AllNamed xs

pub pair_first : (xs : Pairs) (i : ℕ) → i < length xs → drop i xs ≡ get_or xs i (false, record { ref_ptr = (0, 0); now = [] }) ∷ drop (i + 1) xs
pair_first xs i some = let e : suc i ≡ i + 1 = omega arith in rw (← e) (drop-cons xs i _ some)

-- the flags by whether any name was written
or_hex_some : (w : ℕ) (names : List ℕ) → 0 < length names → or_hex w names ≡ names
or_hex_some w [] some = let none : ⊥ = omega arith in absurd none
or_hex_some w (x ∷ xs) some = refl

or_hex_none : (w : ℕ) (names : List ℕ) → length names ≡ 0 → or_hex w names ≡ names ++ (ascii "0x" ++ hex w)
or_hex_none w [] e = refl
or_hex_none w (x ∷ xs) e = let none : ⊥ = omega arith in absurd none

module _ (w : ℕ) where
  pub no_flags : w ≡ 0 → flags_part w ≡ []
  unfolding flags_part
  no_flags e = rw (flags_part, eq-eqb w 0 e)

  pub named_flags : (w ≡ 0 → ⊥) → 0 < length (set_names flag_names w) → flags_part w ≡ 32 ∷ set_names flag_names w
  unfolding flags_part
  named_flags n some = rw (flags_part, ne_eqb w 0 n) (ap (λ (l : List ℕ). 32 ∷ l) (or_hex_some w (set_names flag_names w) some))

  pub nameless_flags : (w ≡ 0 → ⊥) → length (set_names flag_names w) ≡ 0 → flags_part w ≡ 32 ∷ (set_names flag_names w ++ (ascii "0x" ++ hex w))
  unfolding flags_part
  nameless_flags n none = rw (flags_part, ne_eqb w 0 n) (ap (λ (l : List ℕ). 32 ∷ l) (or_hex_none w (set_names flag_names w) none))
