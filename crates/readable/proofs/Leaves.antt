-- What holds of a step's result and of the room that it leaves: each law is one case of the step's definition, and a step after another takes what is left.
use Rattle.reflection.specs.Outcome.{Outcome}
use Rattle.reflection.specs.declared.refusal.Refusal.{Refusal}
use Rattle.text.specs.declared.Span.{Span}
use Rattle.std.specs.Prelude.{Option, None, Ok, Err, Some}
use mathlib.Core.Path.{◌≡◌, refl, subst}
use mathlib.Core.Bool.{Bool, true, false}
use mathlib.Core.List.{List, [], ◌∷◌}
use Prim.Native.Nat.{ℕ, zero, suc, ◌+◌}
use native.Mathlib.Omega.{arith}
use Rattle.text.specs.Strings.{span}
use Rattle.reflection.specs.declared.Text.{Text}
use Rattle.reflection.specs.Texts.{in_chunk}
use Rattle.read_spec.specs.Step.{Room, room, ReadStep, and_then, one_less, ◌>>=◌, return, refuse, check, text_or, take_binding, take_buffer}
use Rattle.read_spec.specs.Step.{take_variable, take_type}
use Rattle.read_spec.specs.Read.{read_many, without_room}

-- What holds of a result and the room left; of a refusal nothing.
abbrev pub Leaves : {A : Type 0} → (A → Room → Type 0) → Outcome (A × Room) → Type 0
Leaves P (Ok z) = P z.0 z.1
Leaves P (Err e) = Unit {0}

-- From the first room to the second so many records of each table were taken.
pub record Spent (b f v t : ℕ) (r r' : Room) : Type 0 where
  pub bindings : r.bindings ≡ b + r'.bindings
  pub buffers : r.buffers ≡ f + r'.buffers
  pub variables : r.variables ≡ v + r'.variables
  pub types : r.types ≡ t + r'.types

pub none_spent : (r : Room) → Spent 0 0 0 0 r r
none_spent r = record { bindings = omega arith; buffers = omega arith; variables = omega arith; types = omega arith }

pub then_leaves : {A B : Type 0} (Q : A → Room → Type 0) (P : B → Room → Type 0) (m : ReadStep A) (f : A → ReadStep B) (r : Room)
    → Leaves Q (m r) → ((x : A) (r' : Room) → Q x r' → Leaves P (f x r')) → Leaves P ((m >>= f) r)
unfolding ◌>>=◌
then_leaves {A} {B} Q P m f r h g = go (m r) h
  where
    go : (y : Outcome (A × Room)) → Leaves Q y → Leaves P (and_then y f)
    go (Ok z) q = g z.0 z.1 q
    go (Err e) q = tt

module _ {B : Type 0} (P : B → Room → Type 0) where
  pub check_leaves : (test : Bool) (n : Refusal) (f : Unit {0} → ReadStep B) (r : Room) → (test ≡ true → Leaves P (f tt r)) → Leaves P ((check test n >>= f) r)
  unfolding check ◌>>=◌ return refuse
  check_leaves true n f r h = h refl
  check_leaves false n f r h = tt

  pub text_leaves : (n : Refusal) (x : Option Span) (f : Text → ReadStep B) (r : Room) → ((place k : ℕ) → x ≡ Some (span place k) → Leaves P (f (in_chunk place k) r))
      → Leaves P ((text_or n x >>= f) r)
  unfolding text_or ◌>>=◌ return refuse
  text_leaves n (Some w) f r h = h w.place w.length refl
  text_leaves n None f r h = tt

  module _ (f : Unit {0} → ReadStep B) (r : Room) where
    pub binding_leaves : ((r' : Room) → Spent 1 0 0 0 r r' → Leaves P (f tt r')) → Leaves P ((take_binding >>= f) r)
    unfolding take_binding ◌>>=◌
    binding_leaves h = go r.bindings refl
      where
        go : (n : ℕ) → r.bindings ≡ n → Leaves P (and_then (one_less n (λ k. room k r.buffers r.variables r.types)) f)
        go zero e = tt
        go (suc n) e = h _ (record { bindings = omega arith; buffers = omega arith; variables = omega arith; types = omega arith })

    pub buffer_leaves : ((r' : Room) → Spent 0 1 0 0 r r' → Leaves P (f tt r')) → Leaves P ((take_buffer >>= f) r)
    unfolding take_buffer ◌>>=◌
    buffer_leaves h = go r.buffers refl
      where
        go : (n : ℕ) → r.buffers ≡ n → Leaves P (and_then (one_less n (λ k. room r.bindings k r.variables r.types)) f)
        go zero e = tt
        go (suc n) e = h _ (record { bindings = omega arith; buffers = omega arith; variables = omega arith; types = omega arith })

    pub variable_leaves : ((r' : Room) → Spent 0 0 1 0 r r' → Leaves P (f tt r')) → Leaves P ((take_variable >>= f) r)
    unfolding take_variable ◌>>=◌
    variable_leaves h = go r.variables refl
      where
        go : (n : ℕ) → r.variables ≡ n → Leaves P (and_then (one_less n (λ k. room r.bindings r.buffers k r.types)) f)
        go zero e = tt
        go (suc n) e = h _ (record { bindings = omega arith; buffers = omega arith; variables = omega arith; types = omega arith })

    pub type_leaves : ((r' : Room) → Spent 0 0 0 1 r r' → Leaves P (f tt r')) → Leaves P ((take_type >>= f) r)
    unfolding take_type ◌>>=◌
    type_leaves h = go r.types refl
      where
        go : (n : ℕ) → r.types ≡ n → Leaves P (and_then (one_less n (λ k. room r.bindings r.buffers r.variables k)) f)
        go zero e = tt
        go (suc n) e = h _ (record { bindings = omega arith; buffers = omega arith; variables = omega arith; types = omega arith })

-- Records one after the other.
pub many_leaves : {A : Type 0} (Q : A → Room → Room → Type 0) (P : List A → Room → Room → Type 0)
    → ((r : Room) → P [] r r) → ((x : A) (xs : List A) (r r' r'' : Room) → Q x r r' → P xs r' r'' → P (x ∷ xs) r r'')
    → (read : ℕ → ReadStep A) → ((at : ℕ) (r : Room) → Leaves (λ x r'. Q x r r') (read at r)) → (stride n at : ℕ) (r : Room)
    → Leaves (λ xs r'. P xs r r') (read_many read stride n at r)
unfolding read_many return
many_leaves Q P none more read h stride zero at r = none r
many_leaves Q P none more read h stride (suc n) at r =
    then_leaves (λ x r'. Q x r r') (λ xs r'. P xs r r') _ _ r (h at r) (λ x r' q.
    then_leaves (λ xs r''. P xs r' r'') (λ xs r''. P xs r r'') _ _ r' (many_leaves Q P none more read h stride n (at + stride) r')
    (λ xs r'' p. more x xs r r' r'' q p))

-- What was read.
pub value_left : {A : Type 0} (P : A → Room → Type 0) (x : Outcome (A × Room)) (a : A) → Leaves P x → without_room x ≡ Ok a → (r : Room) × P a r
value_left P (Ok z) a p e = let same : z.0 ≡ a = cc in (z.1, subst (λ y. P y z.1) same p)
value_left P (Err q) a p e = absurd (let apart : ◌≡◌ {A = ℕ} 0 1 = cc in omega arith)
