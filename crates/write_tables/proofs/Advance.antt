-- Variables that were placed one after the other, and what of the scratch and of the cursor's bounds stays.
use mathlib.Core.Path.{◌≡◌, refl, ap, sym, ◌∙◌}
use mathlib.Core.List.{List}
use Prim.Native.Nat.{ℕ, ◌+◌, ◌*◌, ◌≤◌, ◌<◌}
use native.Mathlib.Nat.{add-zero}
use native.Mathlib.Omega.{arith}
use Rattle.write_texts.specs.Cursor.{WriteCursor}
use Rattle.write_texts.specs.Scratch.{variable_offsets_width, variables_start, PoolsReady}
use Rattle.write_types.specs.Room.{node_bytes}
use Rattle.tables.specs.TableReflection.{root_at}
use Rattle.write_tables.specs.Offsets.{variable_offsets}
use Rattle.write_tables.specs.VariablesPlaced.{CursorBounds, VariablesAdvance}

-- The cursor with the output further on.
abbrev pub moved_to : ℕ → WriteCursor → WriteCursor
moved_to at cursor = record {
  at = at;
  node = cursor.node;
  member_types = cursor.member_types;
  root_types = cursor.root_types;
}

module _ {chunk edits types : List ℕ} where
  pub advance_none : {variable : ℕ} {cursor : WriteCursor} {s : List ℕ} → PoolsReady chunk edits s → cursor.node ≡ root_at types variable
      → VariablesAdvance chunk edits types variable 0 cursor cursor s s
  advance_none {variable} ready root = record {
    ready = ready;
    long = refl;
    earlier = λ i low high. refl;
    next = root ∙ ap (root_at types) (sym (add-zero variable));
    forward = omega arith;
    names = omega arith;
    defaults = omega arith;
    stacked = omega arith;
    rooted = omega arith;
  }

  pub advance_then : {variable count more : ℕ} {from mid to : WriteCursor} {s s₁ s₂ : List ℕ}
      → VariablesAdvance chunk edits types variable count from mid s s₁
      → VariablesAdvance chunk edits types (variable + count) more mid to s₁ s₂ → VariablesAdvance chunk edits types variable (count + more) from to s s₂
  advance_then {variable} {count} {more} p q = record {
    ready = q.ready;
    long = q.long ∙ p.long;
    earlier = λ i low high. q.earlier i low (omega arith) ∙ p.earlier i low high;
    next = q.next ∙ ap (root_at types) (let e : variable + count + more ≡ variable + (count + more) = omega arith in e);
    forward = omega (arith, p.forward, q.forward);
    names = omega (arith, p.names, q.names);
    defaults = omega (arith, p.defaults, q.defaults);
    stacked = omega (arith, p.stacked, q.stacked);
    rooted = omega (arith, p.rooted, q.rooted);
  }

  module _ {variable count : ℕ} {from to : WriteCursor} {s s' : List ℕ} (advance : VariablesAdvance chunk edits types variable count from to s s') where
    -- The offsets of the variables before them stay.
    pub offsets_kept : (x : ℕ) → x < variable → variable_offsets s x ≡ variable_offsets s' x
    unfolding variable_offsets
    offsets_kept x before =
        let name = sym (advance.earlier (variables_start + x * variable_offsets_width) (omega arith) (omega arith)) in
        let type = sym (advance.earlier (variables_start + x * variable_offsets_width + 1) (omega arith) (omega arith)) in
        let default = sym (advance.earlier (variables_start + x * variable_offsets_width + 2) (omega arith) (omega arith)) in
        λ i. record { name = name i; type = type i; default = default i }

    -- What was within bounds stays so.
    pub bounds_after : {spare spare' : ℕ} → CursorBounds variable spare from s
        → to.at + spare' + from.node * node_bytes ≤ from.at + spare + to.node * node_bytes → CursorBounds (variable + count) spare' to s'
    bounds_after bounds near = record {
      output = omega (arith, bounds.output, near);
      names = omega (arith, bounds.names, advance.names);
      defaults = omega (arith, bounds.defaults, advance.defaults);
      stacked = omega (arith, bounds.stacked, advance.stacked);
      rooted = omega (arith, bounds.rooted, advance.rooted);
    }
