-- What a step of reading gives where there is room enough, and how much room it takes: `Takes`. Steps one after the other take the sum. Each rule is the
-- definition of its step and a sum.
use Rattle.reflection.specs.Outcome.{Outcome}
use Rattle.reflection.specs.declared.refusal.Refusal.{Refusal}
use Rattle.text.specs.declared.Span.{Span}
use Rattle.std.specs.Prelude.{Option, Ok, Some}
use mathlib.Core.Path.{◌≡◌, refl, ap, sym, ◌∙◌, subst}
use mathlib.Core.List.{List, [], ◌∷◌}
use mathlib.Core.Bool.{Bool, true, false}
use Prim.Native.Nat.{ℕ, zero, suc, ◌+◌, ◌-◌, ◌<◌, ◌≤◌}
use native.Mathlib.Omega.{arith}
use borrow.Author.Tests.{le-leb, ne_eqb}
use lib.Dec.{leb}
use Rattle.text.specs.Strings.{span}
use Rattle.reflection.specs.Texts.{in_chunk}
use Rattle.read_spec.specs.Step.{Room, room, ReadStep, and_then, ◌>>=◌, return, check, text_or, one_less, take_binding, take_buffer, take_variable}
use Rattle.read_spec.specs.Step.{take_type}
use Rattle.read_spec.specs.Read.{on_path}
use Rattle.theorem_round_trip.proofs.Lists.{All}

abbrev pub plus : Room → Room → Room
plus c d = room (c.bindings + d.bindings) (c.buffers + d.buffers) (c.variables + d.variables) (c.types + d.types)

abbrev pub minus : Room → Room → Room
minus c d = room (c.bindings - d.bindings) (c.buffers - d.buffers) (c.variables - d.variables) (c.types - d.types)

abbrev pub no_cost : Room
no_cost = room 0 0 0 0

pub record Enough (c s : Room) : Type 0 where
  pub bindings : c.bindings ≤ s.bindings
  pub buffers : c.buffers ≤ s.buffers
  pub variables : c.variables ≤ s.variables
  pub types : c.types ≤ s.types

-- With room for c, the step gives a and takes c.
pub record Takes {A : Type 0} (m : ReadStep A) (c : Room) (a : A) : Type 0 where
  pub gives : (s : Room) → Enough c s → m s ≡ Ok (a, minus s c)

-- With room for c, the step gives what stands for v by `view`, and takes c.
pub record Reads {P Q : Type 0} (m : ReadStep P) (c : Room) (view : P → Q) (v : Q) : Type 0 where
  pub found : P
  pub takes : Takes m c found
  pub is : view found ≡ v

pub same_room : (c d : Room) → c.bindings ≡ d.bindings → c.buffers ≡ d.buffers → c.variables ≡ d.variables → c.types ≡ d.types → c ≡ d
same_room c d p q r s = λ i. record { bindings = p i; buffers = q i; variables = r i; types = s i }

pub then_takes : {A B : Type 0} {a : A} {b : B} {m : ReadStep A} (f : A → ReadStep B) (c d : Room) → Takes m c a → Takes (f a) d b
    → Takes (m >>= f) (plus c d) b
unfolding ◌>>=◌
then_takes {A} {B} {a} {b} {m} f c d p q = record {
  gives = λ s enough.
      ap (λ (o : Outcome (A × Room)). and_then o f) (p.gives s (record {
        bindings = omega (arith, enough.bindings);
        buffers = omega (arith, enough.buffers);
        variables = omega (arith, enough.variables);
        types = omega (arith, enough.types);
      }))
      ∙ q.gives (minus s c) (record {
        bindings = omega (arith, enough.bindings);
        buffers = omega (arith, enough.buffers);
        variables = omega
            (arith, enough.variables);
        types = omega (arith, enough.types);
      })
      ∙ ap (λ (left : Room). Ok (b, left)) (same_room (minus (minus s c) d) (minus s (plus c d)) (omega arith) (omega arith) (omega arith) (omega arith));
}

-- A step that takes nothing, and then another; a step, and then one that takes nothing.
pub free_then : {A B : Type 0} {a : A} {b : B} {m : ReadStep A} (f : A → ReadStep B) (d : Room) → Takes m no_cost a → Takes (f a) d b → Takes (m >>= f) d b
free_then {a} {b} {m} f d p q =
    subst (λ c. Takes (m >>= f) c b) (same_room (plus no_cost d) d (omega arith) (omega arith) (omega arith) (omega arith)) (then_takes f no_cost d p q)

pub then_free : {A B : Type 0} {a : A} {b : B} {m : ReadStep A} (f : A → ReadStep B) (c : Room) → Takes m c a → Takes (f a) no_cost b → Takes (m >>= f) c b
then_free {a} {b} {m} f c p q =
    subst (λ d. Takes (m >>= f) d b) (same_room (plus c no_cost) c (omega arith) (omega arith) (omega arith) (omega arith)) (then_takes f c no_cost p q)

pub return_takes : {A : Type 0} (a : A) → Takes (return a) no_cost a
unfolding return
return_takes a =
    record {
      gives = λ s enough. ap (λ (left : Room). Ok (a, left)) (same_room s (minus s no_cost) (omega arith) (omega arith) (omega arith)
          (omega arith));
    }

-- The last step of a reading: what was read is what stands there.
pub returns : {A : Type 0} (a b : A) → a ≡ b → Takes (return a) no_cost b
returns a b e = subst (λ x. Takes (return x) no_cost b) (sym e) (return_takes b)

pub check_takes : (t : Bool) (n : Refusal) → t ≡ true → Takes (check t n) no_cost tt
unfolding check
check_takes t n e = subst (λ u. Takes (check u n) no_cost tt) (sym e) (return_takes tt)

pub leb_takes : (a b : ℕ) (n : Refusal) → a ≤ b → Takes (check (leb a b) n) no_cost tt
leb_takes a b n h = check_takes (leb a b) n (le-leb a b h)

pub text_takes : (n : Refusal) (x : Option Span) (place k : ℕ) → x ≡ Some (span place k) → Takes (text_or n x) no_cost (in_chunk place k)
unfolding text_or
text_takes n x place k e = subst (λ y. Takes (text_or n y) no_cost (in_chunk place k)) (sym e) (return_takes (in_chunk place k))

one_taken : (n : ℕ) (left : ℕ → Room) → 1 ≤ n → one_less n left ≡ Ok (tt, left (n - 1))
one_taken zero left h = absurd (omega arith)
one_taken (suc n) left h = ap (λ (k : ℕ). Ok (tt, left k)) (let e : n ≡ suc n - 1 = omega arith in e)

pub binding_takes : Takes take_binding (room 1 0 0 0) tt
unfolding take_binding
binding_takes =
    record {
      gives = λ s enough. one_taken s.bindings _ enough.bindings ∙ ap (λ (x : Room). Ok (tt, x))
          (same_room _ (minus s (room 1 0 0 0)) (omega arith) (omega arith) (omega arith) (omega arith));
    }

pub buffer_takes : Takes take_buffer (room 0 1 0 0) tt
unfolding take_buffer
buffer_takes =
    record {
      gives = λ s enough. one_taken s.buffers _ enough.buffers ∙ ap (λ (x : Room). Ok (tt, x))
          (same_room _ (minus s (room 0 1 0 0)) (omega arith) (omega arith) (omega arith) (omega arith));
    }

pub variable_takes : Takes take_variable (room 0 0 1 0) tt
unfolding take_variable
variable_takes =
    record {
      gives = λ s enough. one_taken s.variables _ enough.variables ∙ ap (λ (x : Room). Ok (tt, x))
          (same_room _ (minus s (room 0 0 1 0)) (omega arith) (omega arith) (omega arith) (omega arith));
    }

pub type_takes : Takes take_type (room 0 0 0 1) tt
unfolding take_type
type_takes =
    record {
      gives = λ s enough. one_taken s.types _ enough.types ∙ ap (λ (x : Room). Ok (tt, x))
          (same_room _ (minus s (room 0 0 0 1)) (omega arith) (omega arith) (omega arith) (omega arith));
    }

-- An offset below all of a path is not on it.
pub below_not_on_path : (o : ℕ) (path : List ℕ) → All (λ q. o < q) path → on_path o path ≡ false
unfolding on_path
below_not_on_path o [] all = refl
below_not_on_path o (q ∷ path) all = rw (ne_eqb o q (λ e. omega (arith, all.0))) (below_not_on_path o path all.1)
