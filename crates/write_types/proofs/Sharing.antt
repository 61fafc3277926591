-- A type is placed: where its pool has an equal one nothing is written, else it is written and, if it may be shared, remembered.
use Rattle.std.proofs.lemmas.Option.{none-some}
use Rattle.std.specs.Prelude.{Option, None, Some}
use mathlib.Core.Path.{◌≡◌, refl, sym, ap, ◌∙◌}
use mathlib.Core.Bool.{Bool, true, false, ◌&&◌}
use mathlib.Core.List.{List}
use Prim.Native.Nat.{ℕ}
use lib.Dec.{eqb}
use Rattle.reflection.specs.declared.Text.{Text}
use Rattle.reflection.specs.Reflection.{TypeDesc, type_desc}
use Rattle.write_spec.specs.Step.{Pools, WriteStep, find, interned, add_type, add_to_pool_if}
use Rattle.write_spec.specs.Same.{same_type}
use Rattle.write_spec.specs.Canonical.{bytes_facts}
use Rattle.write_spec.specs.Through.{through}
use Rattle.write_spec.specs.Layout.{place_type}
use Rattle.write_texts.specs.Simulates.{text_facts, Simulates}
use Rattle.write_texts.specs.Scratch.{types_from}
use Rattle.write_texts.proofs.Runs.{ran_bind, simulates_interned_found, simulates_interned_fresh, simulates_interned_unshared}
use Rattle.tables.specs.Trees.{node_at, type_tree}
use Rattle.compare_types.specs.Same.{same_name}
use Rattle.tables.proofs.Trees.{type_is}
use Rattle.write_types.specs.Writing.{write_tree, only_if}
use Rattle.write_types.specs.TypePlaced.{type_offset, shared_offset}

module _ (chunk edits : List ℕ) where
  once_found : (shared : Bool) (look : Pools Text Text → Option ℕ) (m : WriteStep Text Text ℕ) (offset at : ℕ) (ps : Pools Text Text) (out : List ℕ)
      → only_if shared (look ps) ≡ Some offset → Simulates chunk edits (interned shared look m) at ps out out offset at ps
  once_found true look m offset at ps out e = simulates_interned_found chunk edits look m offset at ps out e
  once_found false look m offset at ps out e = absurd (none-some offset e)

  once_fresh : (shared : Bool) (look : Pools Text Text → Option ℕ) {m : WriteStep Text Text ℕ} {at to offset : ℕ} {ps ps' : Pools Text Text} {out out' : List ℕ}
      → only_if shared (look ps) ≡ None → Simulates chunk edits m at ps out out' offset to ps'
      → Simulates chunk edits (interned shared look m) at ps out out' offset to ps'
  once_fresh true look e p = simulates_interned_fresh chunk edits look e p
  once_fresh false look e p = simulates_interned_unshared chunk edits false look refl p

  -- What is looked up for a type among others.
  abbrev pub looked : Bool → TypeDesc Text → List (TypeDesc Text × ℕ) → Option ℕ
  looked share (type_desc k n ms) types = only_if (share && eqb k.elements 0) (find (same_type (text_facts chunk edits).same_name (type_desc k n ms)) types)

  pub type_found : (sm5 share : Bool) (t : TypeDesc Text) {offset at : ℕ} {ps : Pools Text Text} {out : List ℕ} → looked share t ps.types ≡ Some offset
      → Simulates chunk edits (place_type (text_facts chunk edits) sm5 share t) at ps out out offset at ps
  unfolding place_type
  type_found sm5 share (type_desc k n ms) {offset} {at} {ps} {out} e = once_found (share && eqb k.elements 0) _ _ offset at ps out e

  pub type_fresh : (sm5 share : Bool) (t : TypeDesc Text) {offset at to : ℕ} {ps ps' ps'' : Pools Text Text} {out out' : List ℕ}
      → looked share t ps.types ≡ None → Simulates chunk edits (write_tree (text_facts chunk edits) sm5 t) at ps out out' offset to ps'
      → Simulates chunk edits (add_to_pool_if share (add_type t) offset) to ps' out' out' offset to ps''
      → Simulates chunk edits (place_type (text_facts chunk edits) sm5 share t) at ps out out' offset to ps''
  unfolding place_type write_tree
  type_fresh sm5 share (type_desc k n ms) e written remembered =
      once_fresh (share && eqb k.elements 0) _ e (ran_bind chunk edits _ written remembered)

  -- What the code looks up is what the definition does.
  pub looked_is : (share : Bool) (types : List ℕ) (levels k : ℕ) (s : List ℕ) (start base n : ℕ)
      → looked share (type_tree types levels k) (types_from (type_tree types levels) start s base n) ≡ shared_offset share chunk edits types levels k s start base n
  unfolding shared_offset type_offset same_name text_facts through bytes_facts
  looked_is share types levels k s start base n =
      ap (λ (t : TypeDesc Text). looked share t (types_from (type_tree types levels) start s base n)) (type_is types levels k)
      ∙ ap (λ (t : TypeDesc Text). only_if (share && eqb (node_at types k).numbers.elements 0)
      (find (same_type (text_facts chunk edits).same_name t) (types_from (type_tree types levels) start s base n))) (sym (type_is types levels k))
