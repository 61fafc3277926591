-- How a step of reading goes on, and that a refusal ends the walk: each law is one case of the step's definition.
use Rattle.reflection.specs.Outcome.{Outcome}
use Rattle.reflection.specs.declared.refusal.Refusal.{Refusal}
use Rattle.text.specs.declared.Span.{Span}
use Rattle.std.specs.Prelude.{Option, None, Ok, Err, Some}
use Rattle.reflection.specs.declared.refusal.Refusal.TheVariants.{NoRoom}
use mathlib.Core.Path.{◌≡◌, refl, ap}
use mathlib.Core.Bool.{Bool, true, false}
use mathlib.Core.List.{List}
use Prim.Native.Nat.{ℕ, zero, suc, ◌+◌}
use lib.ListN.{length}
use Rattle.text.specs.Strings.{span}
use Rattle.reflection.specs.declared.Text.{Text}
use Rattle.reflection.specs.Strides.{member_stride}
use Rattle.reflection.specs.Reflection.{TypeDesc, member_count}
use Rattle.reflection.specs.Texts.{in_chunk}
use Rattle.read_spec.specs.Step.{Room, room, ReadStep, and_then, ◌>>=◌, return, refuse, check, text_or, take_binding, take_buffer, take_variable}
use Rattle.read_spec.specs.Step.{take_type}
use Rattle.read_spec.specs.Read.{read_many, read_members}

pub check_holds : {A : Type 0} (t : Bool) (n : Refusal) (f : Unit {0} → ReadStep A) (room : Room) → t ≡ true → (check t n >>= f) room ≡ f tt room
unfolding check ◌>>=◌ return
check_holds t n f room e = rw e

pub check_fails : {A : Type 0} (t : Bool) (n : Refusal) (f : Unit {0} → ReadStep A) (room : Room) → t ≡ false → (check t n >>= f) room ≡ Err n
unfolding check ◌>>=◌ refuse
check_fails t n f room e = rw e

pub bind_is : {A B : Type 0} (m : ReadStep A) (f : A → ReadStep B) (room : Room) → (m >>= f) room ≡ and_then (m room) f
unfolding ◌>>=◌
bind_is m f room = refl

module _ {A : Type 0} (n : Refusal) (x : Option Span) (f : Text → ReadStep A) (room : Room) where
  pub text_found : (place k : ℕ) → x ≡ Some (span place k) → (text_or n x >>= f) room ≡ f (in_chunk place k) room
  unfolding ◌>>=◌ text_or return
  text_found place k h = ap (λ (y : Option Span). and_then (text_or n y room) f) h

  pub text_bad : x ≡ None → (text_or n x >>= f) room ≡ Err n
  unfolding ◌>>=◌ text_or refuse
  text_bad h = ap (λ (y : Option Span). and_then (text_or n y room) f) h

-- A record is taken where there is room, and refused where there is none.
module _ {A : Type 0} (b f v t : ℕ) (g : Unit {0} → ReadStep A) where
  pub binding_none : (take_binding >>= g) (room 0 f v t) ≡ Err NoRoom
  unfolding take_binding ◌>>=◌
  binding_none = refl

  pub binding_taken : (take_binding >>= g) (room (suc b) f v t) ≡ g tt (room b f v t)
  unfolding take_binding ◌>>=◌
  binding_taken = refl

  pub buffer_none : (take_buffer >>= g) (room b 0 v t) ≡ Err NoRoom
  unfolding take_buffer ◌>>=◌
  buffer_none = refl

  pub buffer_taken : (take_buffer >>= g) (room b (suc f) v t) ≡ g tt (room b f v t)
  unfolding take_buffer ◌>>=◌
  buffer_taken = refl

  pub variable_none : (take_variable >>= g) (room b f 0 t) ≡ Err NoRoom
  unfolding take_variable ◌>>=◌
  variable_none = refl

  pub variable_taken : (take_variable >>= g) (room b f (suc v) t) ≡ g tt (room b f v t)
  unfolding take_variable ◌>>=◌
  variable_taken = refl

  pub type_none : (take_type >>= g) (room b f v 0) ≡ Err NoRoom
  unfolding take_type ◌>>=◌
  type_none = refl

  pub type_taken : (take_type >>= g) (room b f v (suc t)) ≡ g tt (room b f v t)
  unfolding take_type ◌>>=◌
  type_taken = refl

-- What holds of a result, whatever room was left.
abbrev pub Gives : {A : Type 0} → (A → Type 0) → Outcome (A × Room) → Type 0
Gives P (Ok z) = P z.0
Gives P (Err e) = Unit {0}

pub then_gives : {A B : Type 0} (Q : A → Type 0) (P : B → Type 0) (m : ReadStep A) (f : A → ReadStep B)
    → ((r : Room) → Gives Q (m r)) → ((x : A) → Q x → (r : Room) → Gives P (f x r)) → (r : Room) → Gives P ((m >>= f) r)
unfolding ◌>>=◌
then_gives {A} {B} Q P m f h g r = go (m r) (h r)
  where
    go : (y : Outcome (A × Room)) → Gives Q y → Gives P (and_then y f)
    go (Ok z) q = g z.0 q z.1
    go (Err e) q = tt

pub any_gives : {A B : Type 0} (P : B → Type 0) (m : ReadStep A) (f : A → ReadStep B) → ((x : A) (r : Room) → Gives P (f x r)) → (r : Room)
    → Gives P ((m >>= f) r)
any_gives {A} {B} P m f g r = then_gives (λ _. Unit {0}) P m f (λ b. go (m b)) (λ x _. g x) r
  where
    go : (y : Outcome (A × Room)) → Gives (λ _. Unit {0}) y
    go (Ok z) = tt
    go (Err e) = tt

-- As many members and records are read as were asked for.
pub members_count : (read_type : ℕ → ReadStep (TypeDesc Text)) (s : List ℕ) (n at : ℕ) (r : Room)
    → Gives (λ ms. member_count ms ≡ n) (read_members read_type s n at r)
unfolding read_members member_count return
members_count read_type s zero at r = refl
members_count read_type s (suc n) at r =
    any_gives (λ ms. member_count ms ≡ suc n) _ _ (λ _. any_gives (λ ms. member_count ms ≡ suc n) _ _ (λ nm. any_gives (λ ms. member_count ms ≡ suc n) _ _ (λ t.
    then_gives (λ ms. member_count ms ≡ n) (λ ms. member_count ms ≡ suc n) _ _ (members_count read_type s n (at + member_stride)) (λ ms e w. ap suc e)))) r

pub many_length : {A : Type 0} (read : ℕ → ReadStep A) (stride n at : ℕ) (r : Room) → Gives (λ xs. length xs ≡ n) (read_many read stride n at r)
unfolding read_many return
many_length read stride zero at r = refl
many_length read stride (suc n) at r =
    any_gives (λ xs. length xs ≡ suc n) _ _ (λ x.
    then_gives (λ xs. length xs ≡ n) (λ xs. length xs ≡ suc n) _ _ (many_length read stride n (at + stride)) (λ xs e w. ap suc e)) r
