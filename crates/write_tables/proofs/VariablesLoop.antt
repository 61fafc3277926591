-- Variables placed in a loop: each turn places one, whose type begins where the one before it ended, and its offsets are stored behind those before it.
use mathlib.Core.Path.{◌≡◌, refl, ap, sym, ◌∙◌, subst}
use mathlib.Core.Bool.{Bool}
use mathlib.Core.List.{List, [], ◌∷◌, ◌++◌}
use Prim.Native.Nat.{ℕ, ◌+◌, ◌*◌, ◌-◌, ◌≤◌, ◌<◌}
use native.Mathlib.Nat.{add-zero}
use native.Mathlib.Omega.{arith}
use lib.ListN.{length, get_or}
use Rattle.tables.specs.Decode.{records_from}
use Rattle.write_spec.specs.Layout.{place_variables}
use Rattle.write_texts.specs.Cursor.{WriteCursor}
use Rattle.write_texts.specs.Simulates.{text_facts}
use Rattle.write_texts.specs.Scratch.{buffers_start}
use Rattle.write_texts.proofs.Runs.{ran_long}
use Rattle.write_types.specs.Room.{node_bytes}
use Rattle.tables.specs.TableReflection.{variable_in_table}
use Rattle.write_tables.specs.Offsets.{variable_offsets}
use Rattle.write_tables.specs.Placed.{pools_at}
use Rattle.write_tables.specs.VariablesPlaced.{VariablesReady, VariablesAdvance, VariablePlaced, VariablesPlaced}
use Rattle.tables.proofs.RecordLists.{records_more, records_left_from, records_done_from}
use Rattle.write_tables.proofs.Many.{SoFar, so_far_none, so_far_like, so_far_more, so_far_all}
use Rattle.write_tables.proofs.Steps.{each_variable}
use Rattle.tables.proofs.TableOrder.{root_below}
use Rattle.write_tables.proofs.Advance.{advance_none, advance_then, offsets_kept, bounds_after}

-- The loop's invariant: the first `done` variables are placed.
pub record VariablesSoFar (chunk edits variables types : List ℕ) (sm5 share : Bool) (variable count : ℕ) (start : WriteCursor) (s₀ out₀ s out : List ℕ)
    (cursor : WriteCursor) (done : ℕ) : Type 0 where
  pub within : done ≤ count
  pub so_far : SoFar chunk edits (place_variables (text_facts chunk edits) sm5 share) (records_from (variable_in_table variables types) variable count)
      start.at (pools_at types s₀ start) out₀
      (records_from (variable_in_table variables types) (variable + done) (count - done))
      cursor.at (pools_at types s cursor) out (records_from (variable_offsets s) variable done)
  pub advance : VariablesAdvance chunk edits types variable done start cursor s₀ s
  pub later : (x : ℕ) → buffers_start ≤ x → get_or s x 0 ≡ get_or s₀ x 0
  pub near : cursor.at + start.node * node_bytes + done * 1900 ≤ start.at + cursor.node * node_bytes
  pub out_long : length out ≡ length out₀

module _ {chunk edits types : List ℕ} {variable count : ℕ} {start : WriteCursor} {s₀ : List ℕ}
    (ready : VariablesReady chunk edits types variable count start s₀) where
  pub variables_none : {variables : List ℕ} {sm5 share : Bool} {out₀ : List ℕ}
      → VariablesSoFar chunk edits variables types sm5 share variable count start s₀ out₀ s₀ out₀ start 0
  unfolding records_from
  variables_none {variables} {sm5} {share} {out₀} =
      let f = variable_in_table variables types in
      let many = place_variables (text_facts chunk edits) sm5 share in
      let whole : records_from f variable count ≡ records_from f (variable + 0) (count - 0)
      = (let a = sym (add-zero variable) in let b : count ≡ count - 0 = omega arith in λ z. records_from f (a z) (b z)) in
      record {
        within = omega arith;
        so_far =
            so_far_like chunk edits many whole refl refl
            (so_far_none chunk edits many (records_from f variable count) start.at (pools_at types s₀ start) out₀);
        advance = advance_none ready.pools ready.root;
        later = λ x low. refl;
        near = omega arith;
        out_long = refl;
      }

  module _ {variables : List ℕ} {sm5 share : Bool} {out₀ s out : List ℕ} {cursor : WriteCursor} {done : ℕ}
      (inv : VariablesSoFar chunk edits variables types sm5 share variable count start s₀ out₀ s out cursor done) (more : done < count) where
    -- There is room for one more.
    pub one_ready : VariablesReady chunk edits types (variable + done) 1 cursor s
    one_ready = record {
      pools = inv.advance.ready;
      bounds = bounds_after inv.advance ready.bounds (omega (arith, inv.near));
      root = inv.advance.next;
      few_nodes =
          omega (arith, root_below types (variable + done + 1) (variable + count) (omega arith), ready.few_nodes);
      few_variables = omega (arith, ready.few_variables);
    }

    pub variables_more : {s₁ out₁ : List ℕ} {to : WriteCursor}
        → VariablePlaced chunk edits variables types sm5 share (variable + done) cursor s s₁ out out₁ to
        → VariablesSoFar chunk edits variables types sm5 share variable count start s₀ out₀ s₁ out₁ to (done + 1)
    variables_more {s₁} {out₁} {to} placed =
        let many = place_variables (text_facts chunk edits) sm5 share in
        let left = records_left_from (variable_in_table variables types) variable done count more in
        record {
          within = omega arith;
          so_far =
              so_far_like chunk edits many refl refl stored
              (so_far_more chunk edits many (each_variable chunk edits sm5 share) (so_far_like chunk edits many left refl refl inv.so_far) placed.ran);
          advance = advance_then inv.advance placed.advance;
          later = λ x low. placed.later x low ∙ inv.later x low;
          near = omega (arith, inv.near, placed.near);
          out_long = ran_long placed.ran ∙ inv.out_long;
        }
      where
        stored : records_from (variable_offsets s) variable done ++ (variable_offsets s₁ (variable + done) ∷ [])
            ≡ records_from (variable_offsets s₁) variable (done + 1)
        stored =
            records_more (variable_offsets s) (variable_offsets s₁) variable done (variable_offsets s₁ (variable + done))
            (λ x low high. offsets_kept placed.advance x high) refl

pub variables_all : {chunk edits variables types : List ℕ} {sm5 share : Bool} {variable count : ℕ} {start : WriteCursor} {s₀ out₀ s out : List ℕ}
    {cursor : WriteCursor} {done : ℕ}
    → VariablesSoFar chunk edits variables types sm5 share variable count start s₀ out₀ s out cursor done → count ≤ done
    → VariablesPlaced chunk edits variables types sm5 share variable count start s₀ s out₀ out cursor
variables_all {chunk} {edits} {variables} {types} {sm5} {share} {variable} {count} {start} {s₀} {s = s} {cursor = cursor} {done} inv all =
    let e : done ≡ count = omega (arith, inv.within) in
    let many = place_variables (text_facts chunk edits) sm5 share in
    let none_left = records_done_from (variable_in_table variables types) variable done count all in
    record {
      ran =
          so_far_all chunk edits many (each_variable chunk edits sm5 share)
          (so_far_like chunk edits many none_left refl (ap (records_from (variable_offsets s) variable) e) inv.so_far);
      advance = subst (λ m. VariablesAdvance chunk edits types variable m start cursor s₀ s) e inv.advance;
      later = inv.later;
      near = omega (arith, inv.near, e);
    }
