-- The path that led to a type: the code keeps it root first and looks through it from the root, the definition has the nearest descriptor first.
-- Which way round makes no difference to what is on it.
use mathlib.Core.Path.{◌≡◌, refl, sym, ap, ◌∙◌}
use mathlib.Core.Bool.{Bool, true, false, ◌||◌}
use mathlib.Core.List.{List, [], ◌∷◌, ◌++◌}
use Prim.Native.Nat.{ℕ, ◌≤◌}
use borrow.Author.Tests.{eq-eqb, ne_eqb, eqb-true, eqb-false}
use lib.Dec.{eqb}
use lib.ListN.{take}
use lib.Seq.{take-take}
use Rattle.std.specs.List.{list_any}
use Rattle.read_spec.specs.Read.{on_path}
use Rattle.read_types.specs.Walk.{turned_onto}

eqb_turn : (a b : ℕ) → eqb a b ≡ eqb b a
eqb_turn a b = go (eqb a b) refl
  where
    go : (r : Bool) → eqb a b ≡ r → eqb a b ≡ eqb b a
    go true e = e ∙ sym (eq-eqb b a (sym (eqb-true a b e)))
    go false e = e ∙ sym (ne_eqb b a (λ q. eqb-false a b e (sym q)))

-- The slice's own search for an offset among those of a path.
pub on_path_by_search : (at : ℕ) (path : List ℕ) → list_any (λ x. eqb x at) path ≡ on_path at path
unfolding on_path
on_path_by_search at [] = refl
on_path_by_search at (x ∷ xs) = λ i. eqb_turn x at i || on_path_by_search at xs i

or_turn : (a b c : Bool) → (b || (a || c)) ≡ ((a || b) || c)
or_turn true true c = refl
or_turn true false c = refl
or_turn false true c = refl
or_turn false false c = refl

on_turned_onto : (at : ℕ) (path onto : List ℕ) → on_path at (turned_onto path onto) ≡ (on_path at path || on_path at onto)
unfolding on_path turned_onto
on_turned_onto at [] onto = refl
on_turned_onto at (x ∷ xs) onto = on_turned_onto at xs (x ∷ onto) ∙ or_turn (eqb at x) (on_path at xs) (on_path at onto)

or-false : (a : Bool) → (a || false) ≡ a
or-false true = refl
or-false false = refl

pub on_turned : (at : ℕ) (path : List ℕ) → on_path at (turned_onto path []) ≡ on_path at path
unfolding on_path
on_turned at path = on_turned_onto at path [] ∙ or-false (on_path at path)

pub turned_longer : (path onto : List ℕ) (at : ℕ) → turned_onto (path ++ (at ∷ [])) onto ≡ at ∷ turned_onto path onto
unfolding turned_onto
turned_longer [] onto at = refl
turned_longer (x ∷ xs) onto at = turned_longer xs (x ∷ onto) at

-- Lists that agree up to b agree up to a, where a ≤ b.
pub take_less : (a b : ℕ) (x y : List ℕ) → a ≤ b → take b x ≡ take b y → take a x ≡ take a y
take_less a b x y h e = sym (take-take a b x h) ∙ ap (take a) e ∙ take-take a b y h
