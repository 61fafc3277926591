-- General facts about lists, each by induction on the list: the end of a map, what holds of every element, what a test over all elements says, and two or
-- three lists side by side.
use Rattle.std.proofs.lemmas.Option.{none-some, same_Some}
use Rattle.std.specs.Prelude.{Some}
use mathlib.Core.Path.{◌≡◌, refl, ap, subst}
use mathlib.Core.List.{List, [], ◌∷◌, ◌++◌, map}
use mathlib.Core.Bool.{Bool, true, false}
use Prim.Native.Nat.{ℕ, zero, suc}
use lib.ListN.{length, drop}
use Rattle.text.proofs.Bools.{and-true}
use Rattle.readable.specs.Readable.{every}
use Rattle.write_spec.specs.Step.{find, hit}

pub drop-map : {A B : Type 0} (f : A → B) (n : ℕ) (l : List A) → drop n (map f l) ≡ map f (drop n l)
drop-map f zero l = refl
drop-map f (suc n) [] = refl
drop-map f (suc n) (x ∷ xs) = drop-map f n xs

-- What holds of every element.
abbrev pub All : {A : Type 0} → (A → Type 0) → List A → Type 0
All P [] = Unit {0}
All P (x ∷ xs) = P x × All P xs

pub all_weaken : {A : Type 0} {P Q : A → Type 0} → ((a : A) → P a → Q a) → (l : List A) → All P l → All Q l
all_weaken f [] h = tt
all_weaken f (x ∷ xs) h = (f x h.0, all_weaken f xs h.1)

pub all_append : {A : Type 0} (P : A → Type 0) (xs ys : List A) → All P (xs ++ ys) → All P xs × All P ys
all_append P [] ys h = (tt, h)
all_append P (x ∷ xs) ys h = let (a, b) = all_append P xs ys h.1 in ((h.0, a), b)

pub all_to_map : {A B : Type 0} (P : B → Type 0) (f : A → B) (l : List A) → All (λ a. P (f a)) l → All P (map f l)
all_to_map P f [] h = tt
all_to_map P f (x ∷ xs) h = (h.0, all_to_map P f xs h.1)

pub every_all : {A : Type 0} (test : A → Bool) (l : List A) → every test l ≡ true → All (λ a. test a ≡ true) l
unfolding every
every_all test [] e = tt
every_all test (x ∷ xs) e = let (a, b) = and-true (test x) (every test xs) e in (a, every_all test xs b)

-- What the search in a pool gives is an entry that passes the test.
pub found_entry : {K : Type 0} (P : K × ℕ → Type 0) (test : K → Bool) (es : List (K × ℕ)) (o : ℕ) → All P es → find test es ≡ Some o
    → (k : K) × (test k ≡ true) × P (k, o)
unfolding find
found_entry P test [] o all e = absurd (none-some o e)
found_entry {K} P test (x ∷ es) o all e = go (λ e'. found_entry P test es o all.1 e') (test x.0) refl e
  where
    go : (find test es ≡ Some o → (k : K) × (test k ≡ true) × P (k, o)) → (b : Bool) → test x.0 ≡ b → hit b x.1 (find test es) ≡ Some o
        → (k : K) × (test k ≡ true) × P (k, o)
    go next true is e' = (x.0, is, subst (λ (n : ℕ). P (x.0, n)) (same_Some x.1 o e') all.0)
    go next false is e' = next e'

-- Two lists side by side.
abbrev pub Zip : {A B : Type 0} → (A → B → Type 0) → List A → List B → Type 0
Zip Q [] [] = Unit {0}
Zip Q [] (b ∷ bs) = ⊥
Zip Q (a ∷ xs) [] = ⊥
Zip Q (a ∷ xs) (b ∷ bs) = Q a b × Zip Q xs bs

-- Three lists side by side.
abbrev pub Zip3 : {A B P : Type 0} → (A → B → P → Type 0) → List A → List B → List P → Type 0
Zip3 Q [] [] [] = Unit {0}
Zip3 Q [] [] (p ∷ ps) = ⊥
Zip3 Q [] (b ∷ bs) ps = ⊥
Zip3 Q (a ∷ xs) [] ps = ⊥
Zip3 Q (a ∷ xs) (b ∷ bs) [] = ⊥
Zip3 Q (a ∷ xs) (b ∷ bs) (p ∷ ps) = Q a b p × Zip3 Q xs bs ps

pub zip3_weaken : {A B P : Type 0} {Q Q' : A → B → P → Type 0} → ((a : A) (b : B) (p : P) → Q a b p → Q' a b p)
    → (xs : List A) (bs : List B) (ps : List P) → Zip3 Q xs bs ps → Zip3 Q' xs bs ps
zip3_weaken f [] [] [] h = tt
zip3_weaken f [] [] (p ∷ ps) h = h
zip3_weaken f [] (b ∷ bs) ps h = h
zip3_weaken f (x ∷ xs) [] ps h = h
zip3_weaken f (x ∷ xs) (b ∷ bs) [] h = h
zip3_weaken f (x ∷ xs) (b ∷ bs) (p ∷ ps) h = (f x b p h.0, zip3_weaken f xs bs ps h.1)

-- Equal under two maps, element by element, is equal as lists.
pub zip3_map : {A B P C : Type 0} (f : P → C) (g : A → C) (xs : List A) (bs : List B) (ps : List P) → Zip3 (λ a b p. f p ≡ g a) xs bs ps → map f ps ≡ map g xs
zip3_map f g [] [] [] h = refl
zip3_map f g [] [] (p ∷ ps) h = absurd h
zip3_map f g [] (b ∷ bs) ps h = absurd h
zip3_map f g (x ∷ xs) [] ps h = absurd h
zip3_map f g (x ∷ xs) (b ∷ bs) [] h = absurd h
zip3_map f g (x ∷ xs) (b ∷ bs) (p ∷ ps) h = let q = zip3_map f g xs bs ps h.1 in λ i. h.0 i ∷ q i

pub zip_length : {A B : Type 0} (Q : A → B → Type 0) (xs : List A) (bs : List B) → Zip Q xs bs → length bs ≡ length xs
zip_length Q [] [] h = refl
zip_length Q [] (b ∷ bs) h = absurd h
zip_length Q (x ∷ xs) [] h = absurd h
zip_length Q (x ∷ xs) (b ∷ bs) h = ap suc (zip_length Q xs bs h.1)
