-- What reading members appends, one member at a time: each law follows the steps of `read_members` up to the first that ends the walk.
use Rattle.reflection.specs.Outcome.{Outcome}
use Rattle.std.specs.Prelude.{None, Ok, Err, Some}
use Rattle.reflection.specs.declared.refusal.Refusal.TheVariants.{RecordPastEnd, BadName}
use mathlib.Core.Path.{◌≡◌, refl, ap, ◌∙◌}
use mathlib.Core.Bool.{Bool, true, false}
use mathlib.Core.List.{List}
use Prim.Native.Nat.{ℕ, zero, suc, ◌+◌, ◌-◌, ◌≤◌, ◌<◌}
use native.Mathlib.Omega.{arith}
use lib.ListN.{length}
use Rattle.words.specs.Words.{word_at}
use Rattle.words.specs.Parts.{inside}
use Rattle.text.specs.Strings.{span}
use Rattle.text.specs.Strings.{cstring_at}
use Rattle.reflection.specs.Strides.{member_stride}
use Rattle.reflection.specs.declared.Text.{Text}
use Rattle.reflection.specs.Reflection.{TypeDesc, Members, member}
use Rattle.reflection.specs.Texts.{in_chunk}
use Rattle.read_spec.specs.Step.{Room, and_then, ◌>>=◌, return}
use Rattle.read_spec.specs.Read.{read_members, read_type}
use Rattle.read_spec.proofs.Steps.{check_holds, check_fails, bind_is, text_found, text_bad}
use Rattle.read_types.specs.Progress.{stopped, reached, progress, onward}
use Rattle.read_types.specs.Walk.{append_type, append_members, type_progress, members_progress}

-- The words so far are w, `left` members are left, and the record of the next one lies at `at`.
module _ (s : List ℕ) (sm5 : Bool) (levels : ℕ) (path : List ℕ) (at : ℕ) (w : List ℕ) (room : Room) where
  pub members_none : (left : ℕ) → left ≤ 0 → members_progress s sm5 levels path left at w room ≡ reached w room
  unfolding members_progress read_members append_members return
  members_none zero none = refl
  members_none (suc left) none = absurd (omega arith)

  pub members_short : (left : ℕ) → 0 < left → inside (length s) at member_stride ≡ false
      → members_progress s sm5 levels path left at w room ≡ stopped RecordPastEnd
  unfolding members_progress read_members
  members_short zero some short = absurd (omega arith)
  members_short (suc left) some short = ap (λ (x : Outcome (Members Text × Room)). progress append_members x w) (check_fails _ _ _ _ short)

  pub members_bad : (left : ℕ) → 0 < left → inside (length s) at member_stride ≡ true → cstring_at s (word_at s at) ≡ None
      → members_progress s sm5 levels path left at w room ≡ stopped BadName
  unfolding members_progress read_members
  members_bad zero some fits bad = absurd (omega arith)
  members_bad (suc left) some fits bad =
      ap (λ (x : Outcome (Members Text × Room)). progress append_members x w) (check_holds _ _ _ _ fits ∙ text_bad _ _ _ _ bad)

  pub members_on : (left place n : ℕ) → 0 < left → inside (length s) at member_stride ≡ true → cstring_at s (word_at s at) ≡ Some (span place n)
      → members_progress s sm5 levels path left at w room
      ≡ onward (members_progress s sm5 levels path (left - 1) (at + member_stride))
      (type_progress s sm5 levels path (word_at s (at + 4)) (in_chunk place n) (word_at s (at + 8)) w room)
  unfolding members_progress read_members return append_members type_progress
  members_on zero place n some fits found = absurd (omega arith)
  members_on (suc left) place n some fits found =
      ap (λ (x : Outcome (Members Text × Room)). progress append_members x w) (check_holds _ _ _ _ fits ∙ text_found _ _ _ _ place n found ∙ bind_is _ _ _)
      ∙ after_type_lem (read_type s sm5 levels path (word_at s (at + 4)) room)
      ∙ ap (λ (k : ℕ). onward (members_progress s sm5 levels path k (at + member_stride)) (type_progress s sm5 levels path (word_at s (at + 4)) name offset w room))
      (let d : left ≡ suc left - 1 = omega arith in d)
    where
      name : Text
      name = in_chunk place n

      offset : ℕ
      offset = word_at s (at + 8)

      after_others : (type : TypeDesc Text) (others : Outcome (Members Text × Room))
          → progress append_members (and_then others (λ ms. return (member name offset type ms))) w
          ≡ progress append_members others (append_type name offset type w)
      after_others type (Ok z) = refl
      after_others type (Err e) = refl

      after_type_lem : (type : Outcome (TypeDesc Text × Room))
          → progress append_members
          (and_then type (λ t. read_members (λ below. read_type s sm5 levels path below) s left (at + member_stride) >>= λ ms. return (member name offset t ms))) w
          ≡ onward (members_progress s sm5 levels path left (at + member_stride)) (progress (append_type name offset) type w)
      after_type_lem (Ok z) =
          ap (λ (y : Outcome (Members Text × Room)). progress append_members y w) (bind_is _ _ z.1)
          ∙ after_others z.0 (read_members (λ below. read_type s sm5 levels path below) s left (at + member_stride) z.1)
      after_type_lem (Err e) = refl
