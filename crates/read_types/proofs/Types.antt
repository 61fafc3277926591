-- What reading a type appends: each law follows the steps of `read_type` up to the first that ends the walk.
use Rattle.reflection.specs.Outcome.{Outcome}
use Rattle.text.specs.declared.Span.{Span}
use Rattle.std.specs.Prelude.{Option, None, Ok, Err, Some}
use Rattle.reflection.specs.declared.refusal.Refusal.TheVariants.{RecordPastEnd, BadName, TypeTooDeep, TypeCycle, NoRoom}
use mathlib.Core.Path.{◌≡◌, refl, ap, ◌∙◌}
use mathlib.Core.Bool.{Bool, true, false, not}
use mathlib.Core.List.{List, ◌∷◌, ◌++◌}
use Prim.Native.Nat.{ℕ, zero, suc, ◌+◌, ◌-◌}
use native.Mathlib.Omega.{arith}
use lib.ListN.{length}
use Rattle.words.specs.Words.{word_at, high_at}
use Rattle.words.specs.Parts.{inside}
use Rattle.reflection.specs.declared.Text.{Text}
use Rattle.reflection.specs.Reflection.{TypeDesc, type_desc, Members, member_count}
use Rattle.tables.specs.Records.{type_words_in_table}
use Rattle.tables.specs.Tables.{type_record}
use Rattle.read_spec.specs.Step.{Room, room, and_then, ◌>>=◌, return, refuse, text_or}
use Rattle.read_spec.specs.Read.{read_members, read_type, on_path, type_stride, type_name_at, numbers_from}
use Rattle.read_spec.proofs.Steps.{check_holds, check_fails, bind_is, type_none, type_taken, Gives, members_count}
use Rattle.read_types.specs.Progress.{Progress, stopped, reached, progress}
use Rattle.read_types.specs.Walk.{append_type, append_members, found_text, node_from_chunk, type_progress, members_progress}

-- The type's name is looked at last.
abbrev pub unless_bad : Option Span → Progress (List ℕ) → Progress (List ℕ)
unless_bad name (stopped e) = stopped e
unless_bad (Some found) (reached w r) = reached w r
unless_bad None (reached w r) = stopped BadName

module _ (s : List ℕ) (sm5 : Bool) (path : List ℕ) (at : ℕ) (mn : Text) (mo : ℕ) (w : List ℕ) (b f v : ℕ) where
  pub type_deep : (t levels : ℕ) → levels ≡ 0 → type_progress s sm5 levels path at mn mo w (room b f v t) ≡ stopped TypeTooDeep
  unfolding type_progress read_type refuse
  type_deep t zero deep = refl
  type_deep t (suc levels) deep = absurd (omega arith)

  pub type_cycle_lem : (t levels : ℕ) → (levels ≡ 0 → ⊥) → on_path at path ≡ true
      → type_progress s sm5 levels path at mn mo w (room b f v t) ≡ stopped TypeCycle
  unfolding type_progress read_type
  type_cycle_lem t zero some cycle = absurd (some refl)
  type_cycle_lem t (suc levels) some cycle = ap (λ (x : Outcome (TypeDesc Text × Room)). progress (append_type mn mo) x w) (check_fails _ _ _ _ (ap not cycle))

  pub type_full : (levels : ℕ) → (levels ≡ 0 → ⊥) → on_path at path ≡ false → type_progress s sm5 levels path at mn mo w (room b f v 0) ≡ stopped NoRoom
  unfolding type_progress read_type
  type_full zero some new = absurd (some refl)
  type_full (suc levels) some new =
      ap (λ (x : Outcome (TypeDesc Text × Room)). progress (append_type mn mo) x w) (check_holds _ _ _ _ (ap not new) ∙ type_none b f v 0 _)

  pub type_short : (t levels : ℕ) → (levels ≡ 0 → ⊥) → on_path at path ≡ false → inside (length s) at (type_stride sm5) ≡ false
      → type_progress s sm5 levels path at mn mo w (room b f v (suc t)) ≡ stopped RecordPastEnd
  unfolding type_progress read_type
  type_short t zero some new short = absurd (some refl)
  type_short t (suc levels) some new short =
      ap (λ (x : Outcome (TypeDesc Text × Room)). progress (append_type mn mo) x w)
      (check_holds _ _ _ _ (ap not new) ∙ type_taken b f v t _ ∙ check_fails _ _ _ _ short)

  -- The type's node comes first, then those of its members.
  pub type_in : (t levels : ℕ) → (levels ≡ 0 → ⊥) → on_path at path ≡ false → inside (length s) at (type_stride sm5) ≡ true
      → type_progress s sm5 levels path at mn mo w (room b f v (suc t))
      ≡ unless_bad (type_name_at s sm5 at)
      (members_progress s sm5 (levels - 1) (at ∷ path) (high_at s (at + 8)) (word_at s (at + 12))
      (w ++ type_words_in_table (type_record (node_from_chunk s sm5 at mn mo))) (room b f v t))
  unfolding type_progress members_progress read_type return refuse text_or append_type node_from_chunk
  type_in t zero some new fits = absurd (some refl)
  type_in t (suc levels) some new fits =
      ap (λ (x : Outcome (TypeDesc Text × Room)). progress (append_type mn mo) x w)
      (check_holds _ _ _ _ (ap not new) ∙ type_taken b f v t _ ∙ check_holds _ _ _ _ fits ∙ bind_is _ _ _)
      ∙ after_members_lem (read_members below s count first (room b f v t)) (members_count below s count first (room b f v t))
      ∙ ap (λ (k : ℕ). unless_bad found (members_progress s sm5 k (at ∷ path) count first (w ++ node count found) (room b f v t)))
      (let d : levels ≡ suc levels - 1 = omega arith in d)
    where
      below : ℕ → Room → Outcome (TypeDesc Text × Room)
      below p = read_type s sm5 levels (at ∷ path) p

      count : ℕ
      count = high_at s (at + 8)

      first : ℕ
      first = word_at s (at + 12)

      found : Option Span
      found = type_name_at s sm5 at

      node : ℕ → Option Span → List ℕ
      node k name =
          type_words_in_table (type_record (record {
            numbers = numbers_from s sm5 at;
            member_count = k;
            name = found_text name;
            member_name = mn;
            member_offset = mo;
          }))

      after_name : (name : Option Span) (ms : Members Text) (r : Room) → member_count ms ≡ count
          → progress (append_type mn mo) (and_then (text_or BadName name r) (λ x. return (type_desc (numbers_from s sm5 at) x ms))) w
          ≡ unless_bad name (reached (append_members ms (w ++ node count name)) r)
      after_name (Some t) ms r counted = ap (λ (k : ℕ). reached (append_members ms (w ++ node k (Some t))) r) counted
      after_name None ms r counted = refl

      after_members_lem : (y : Outcome (Members Text × Room)) → Gives (λ ms. member_count ms ≡ count) y
          → progress (append_type mn mo) (and_then y (λ ms. text_or BadName found >>= λ x. return (type_desc (numbers_from s sm5 at) x ms))) w
          ≡ unless_bad found (progress append_members y (w ++ node count found))
      after_members_lem (Ok z) counted =
          ap (λ (y : Outcome (TypeDesc Text × Room)). progress (append_type mn mo) y w) (bind_is _ _ z.1) ∙ after_name found z.0 z.1 counted
      after_members_lem (Err e) counted = refl
