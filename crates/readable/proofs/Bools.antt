-- Tests of options and of lists: how they go through each step of a definition. Each law is by cases.
use Rattle.std.specs.Prelude.{Option, None, Some}
use mathlib.Core.Path.{◌≡◌, refl, sym, ap, ◌∙◌}
use mathlib.Core.Bool.{Bool, true, false, ◌&&◌, ◌||◌, and_assoc, and_comm}
use mathlib.Core.List.{List, [], ◌∷◌, ◌++◌, map}
use Rattle.tables.specs.Nodes.{◌>>=◌}
use Rattle.tables.specs.Decode.{guard}
use Rattle.readable.specs.Readable.{every}
use Rattle.readable.specs.Checks.{passes}

pub and_swap : (a b c : Bool) → (a && (b && c)) ≡ (b && (a && c))
and_swap true b c = refl
and_swap false true c = refl
and_swap false false c = refl

-- Conjunctions of the same tests are equal, in whatever order they stand.
pub ruleset tests-in-order = (and_assoc, and_comm, and_swap)

module _ {A : Type 0} where
  pub holds_check : (k : A → Bool) (b : Bool) (f : Unit {0} → Option A) → passes k (guard b >>= f) ≡ (b && passes k (f tt))
  unfolding guard ◌>>=◌
  holds_check k true f = refl
  holds_check k false f = refl

  pub holds_and : (b : Bool) (k : A → Bool) (m : Option A) → passes (λ a. b && k a) m ≡ (b && passes k m)
  holds_and true k None = refl
  holds_and false k None = refl
  holds_and b k (Some a) = refl

  pub holds_same : (k l : A → Bool) (m : Option A) → ((a : A) → m ≡ Some a → k a ≡ l a) → passes k m ≡ passes l m
  holds_same k l None e = refl
  holds_same k l (Some a) e = e a refl

module _ {A B : Type 0} where
  pub holds_then : (k : B → Bool) (m : Option A) (f : A → Option B) → passes k (m >>= f) ≡ passes (λ a. passes k (f a)) m
  unfolding ◌>>=◌
  holds_then k None f = refl
  holds_then k (Some a) f = refl

  pub then_same : (m : Option A) (f g : A → Option B) → ((a : A) → m ≡ Some a → f a ≡ g a) → (m >>= f) ≡ (m >>= g)
  unfolding ◌>>=◌
  then_same None f g e = refl
  then_same (Some a) f g e = e a refl

-- A test that holds whatever step gives something, and its test.
pub check_first : {A B : Type 0} (b : Bool) (m : Option A) (k : A → Bool) (g : A → B)
    → (guard b >>= λ _. (m >>= λ a. guard (k a) >>= λ _. Some (g a))) ≡ (m >>= λ a. guard (b && k a) >>= λ _. Some (g a))
unfolding guard ◌>>=◌
check_first true m k g = refl
check_first false None k g = refl
check_first false (Some a) k g = refl

pub check_then : {A B : Type 0} (b : Bool) (a : A) (f : A → Option B) → ((guard b >>= λ _. Some a) >>= f) ≡ (guard b >>= λ _. f a)
unfolding guard ◌>>=◌
check_then true a f = refl
check_then false a f = refl

pub some_then : {A B C : Type 0} (m : Option A) (g : A → B) (f : B → Option C) → ((m >>= λ a. Some (g a)) >>= f) ≡ (m >>= λ a. f (g a))
unfolding ◌>>=◌
some_then None g f = refl
some_then (Some a) g f = refl

module _ {A : Type 0} (test : A → Bool) where
  pub every_append : (xs ys : List A) → every test (xs ++ ys) ≡ (every test xs && every test ys)
  unfolding every
  every_append [] ys = refl
  every_append (x ∷ xs) ys = ap (λ b. test x && b) (every_append xs ys) ∙ sym (and_assoc (test x) (every test xs) (every test ys))

  pub every_map : {B : Type 0} (f : B → A) (xs : List B) → every test (map f xs) ≡ every (λ x. test (f x)) xs
  unfolding every
  every_map f [] = refl
  every_map f (x ∷ xs) = ap (λ b. test (f x) && b) (every_map f xs)

  pub every_both : (other : A → Bool) (xs : List A) → (every test xs && every other xs) ≡ every (λ x. test x && other x) xs
  unfolding every
  every_both other [] = refl
  every_both other (x ∷ xs) = rw (← (every_both other xs)) (simp tests-in-order)
