-- The codes of a binding: `code_check` holds where reading checks them all, and else has its refusal.
use Rattle.reflection.specs.Outcome.{Outcome}
use Rattle.reflection.specs.declared.refusal.Refusal.{Refusal}
use Rattle.std.specs.Prelude.{Ok, Err}
use Rattle.reflection.specs.declared.refusal.Refusal.TheVariants.{BadInputType, BadDimension, BadBindingFlags}
use mathlib.Core.Path.{◌≡◌, refl, sym, ap, ◌∙◌}
use mathlib.Core.Bool.{Bool, true, false}
use mathlib.Core.List.{List}
use Prim.Native.Nat.{ℕ, ◌+◌}
use Rattle.words.specs.Words.{word_at}
use Rattle.codes.specs.Table.{known}
use Rattle.codes.specs.Microsoft.{input_types, srv_dimensions}
use Rattle.flags.specs.Flags.{binding_flags_allowed}
use Rattle.read_spec.specs.Step.{Room, ReadStep, ◌>>=◌, check}
use Rattle.read_spec.proofs.Steps.{check_holds, check_fails}
use Rattle.read_tables.specs.Bindings.{code_check}

-- How a test of a word that was read came out.
pub came_out : (test : ℕ → Bool) {w w' : ℕ} {r b : Bool} → w ≡ w' → r ≡ test w → r ≡ b → test w' ≡ b
came_out test is tested came = ap test (sym is) ∙ sym tested ∙ came

module _ (s : List ℕ) (at : ℕ) where
  abbrev input_type_known : Bool
  input_type_known = known input_types (word_at s (at + 4))

  abbrev dimension_known : Bool
  dimension_known = known srv_dimensions (word_at s (at + 12))

  abbrev flags_allowed : Bool
  flags_allowed = binding_flags_allowed (word_at s (at + 28))

  pub fault_in_type : input_type_known ≡ false → code_check s at ≡ Err BadInputType
  unfolding code_check
  fault_in_type i = rw (i, code_check)

  pub fault_in_dimension : input_type_known ≡ true → dimension_known ≡ false → code_check s at ≡ Err BadDimension
  unfolding code_check
  fault_in_dimension i d = rw (i, d, code_check)

  pub fault_in_flags : input_type_known ≡ true → dimension_known ≡ true → flags_allowed ≡ false → code_check s at ≡ Err BadBindingFlags
  unfolding code_check
  fault_in_flags i d f = rw (i, d, f, code_check)

  pub no_fault : input_type_known ≡ true → dimension_known ≡ true → flags_allowed ≡ true → code_check s at ≡ Ok tt
  unfolding code_check
  no_fault i d f = rw (i, d, f, code_check)

-- the three checks of reading, and what is read after them
module _ {A : Type 0} (s : List ℕ) (at : ℕ) (after : Unit {0} → ReadStep A) (r : Room) where
  abbrev checked : Outcome (A × Room)
  checked =
      (check (input_type_known s at) BadInputType >>= λ _. check (dimension_known s at) BadDimension >>= λ _.
      check (flags_allowed s at) BadBindingFlags >>= after) r

  abbrev unless_fault : Outcome (Unit {0}) → Outcome (A × Room)
  unless_fault (Ok u) = after u r
  unless_fault (Err e) = Err e

  checked_is : checked ≡ unless_fault (code_check s at)
  checked_is = go (input_type_known s at) refl (dimension_known s at) refl (flags_allowed s at) refl
    where
      go : (i : Bool) → input_type_known s at ≡ i → (d : Bool) → dimension_known s at ≡ d → (f : Bool) → flags_allowed s at ≡ f
          → checked ≡ unless_fault (code_check s at)
      go false i d _ f _ = check_fails _ _ _ _ i ∙ sym (ap unless_fault (fault_in_type s at i))
      go true i false d f _ = check_holds _ _ _ _ i ∙ check_fails _ _ _ _ d ∙ sym (ap unless_fault (fault_in_dimension s at i d))
      go true i true d false f = check_holds _ _ _ _ i ∙ check_holds _ _ _ _ d ∙ check_fails _ _ _ _ f ∙ sym (ap unless_fault (fault_in_flags s at i d f))
      go true i true d true f = check_holds _ _ _ _ i ∙ check_holds _ _ _ _ d ∙ check_holds _ _ _ _ f ∙ sym (ap unless_fault (no_fault s at i d f))

  pub codes_hold : code_check s at ≡ Ok tt → checked ≡ after tt r
  codes_hold none = checked_is ∙ ap unless_fault none

  pub codes_fail : (e : Refusal) → code_check s at ≡ Err e → checked ≡ Err e
  codes_fail e is = checked_is ∙ ap unless_fault is
