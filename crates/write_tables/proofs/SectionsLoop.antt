-- Sections placed in a loop: each turn places one buffer's, whose variables and nodes begin where those of the buffer before it ended.
use mathlib.Core.Path.{◌≡◌, refl, ap, sym, ◌∙◌, subst}
use mathlib.Core.Bool.{Bool}
use mathlib.Core.List.{List, [], ◌∷◌, ◌++◌}
use Prim.Native.Nat.{ℕ, ◌+◌, ◌*◌, ◌-◌, ◌≤◌, ◌<◌}
use native.Mathlib.Nat.{zero-add}
use native.Mathlib.Omega.{arith}
use lib.ListN.{length}
use Rattle.tables.specs.Decode.{records_from}
use Rattle.reflection.specs.Limits.{variable_room}
use Rattle.write_spec.specs.Layout.{place_sections}
use Rattle.write_texts.specs.Cursor.{WriteCursor}
use Rattle.write_texts.specs.Simulates.{text_facts}
use Rattle.write_texts.specs.Scratch.{buffer_offsets_width, buffers_start}
use Rattle.write_texts.proofs.Runs.{ran_long}
use Rattle.write_types.specs.Room.{node_bytes}
use Rattle.tables.specs.TableReflection.{root_at, count_at, first_variable, buffer_in_table}
use Rattle.write_tables.specs.Offsets.{variable_offsets, buffer_name, section_start, buffer_section}
use Rattle.write_tables.specs.Placed.{pools_at}
use Rattle.write_tables.specs.VariablesPlaced.{CursorBounds, VariablesAdvance}
use Rattle.write_tables.specs.BuffersPlaced.{CountsFit, SectionReady, SectionPlaced, SectionsReady, SectionsPlaced, beginning}
use Rattle.tables.proofs.RecordLists.{same_records, records_more, records_left, records_done}
use Rattle.write_tables.proofs.Many.{SoFar, so_far_none, so_far_like, so_far_more, so_far_all}
use Rattle.write_tables.proofs.Steps.{each_section}
use Rattle.tables.proofs.TableOrder.{root_below, first_next, first_below}
use Rattle.write_tables.proofs.Advance.{advance_none, advance_then, offsets_kept, bounds_after}

-- Where the counts of more buffers fit, those of fewer do.
pub counts_fit_below : {buffers types : List ℕ} {count : ℕ} (fewer : ℕ) → fewer ≤ count → CountsFit buffers types count → CountsFit buffers types fewer
counts_fit_below {buffers} {types} {count} fewer h fit = record {
  few_variables = omega (arith, fit.few_variables, first_below buffers fewer count h);
  few_nodes =
      let nodes = root_below types (first_variable buffers fewer) (first_variable buffers count) (first_below buffers fewer count h) in
      omega (arith, fit.few_nodes, nodes);
}

-- The loop's invariant: the sections of the first `buffer` buffers are placed.
pub record SectionsSoFar (chunk edits buffers variables types : List ℕ) (sm5 : Bool) (count at : ℕ) (s₀ out₀ s out : List ℕ)
    (cursor : WriteCursor) (variable buffer : ℕ) : Type 0 where
  pub within : buffer ≤ count
  pub first : variable ≡ first_variable buffers buffer
  pub so_far : SoFar chunk edits (place_sections (text_facts chunk edits) sm5) (records_from (buffer_in_table buffers variables types) 0 count)
      at (pools_at types s₀ (beginning at)) out₀
      (records_from (buffer_in_table buffers variables types) buffer (count - buffer))
      cursor.at (pools_at types s cursor) out (records_from (buffer_section buffers s) 0 buffer)
  pub advance : VariablesAdvance chunk edits types 0 (first_variable buffers buffer) (beginning at) cursor s₀ s
  pub names_kept : (x : ℕ) → buffer_name s x ≡ buffer_name s₀ x
  pub near : cursor.at ≤ at + buffer * 4 + cursor.node * node_bytes
  pub out_long : length out ≡ length out₀

module _ {chunk edits buffers types : List ℕ} {count : ℕ} {begun : WriteCursor} {s₀ : List ℕ}
    (ready : SectionsReady chunk edits buffers types count begun s₀) where
  abbrev at : ℕ
  at = begun.at

  nothing_placed : {variables : List ℕ} {sm5 : Bool} {out₀ : List ℕ}
      → SectionsSoFar chunk edits buffers variables types sm5 count at s₀ out₀ s₀ out₀ (beginning at) 0 0
  unfolding records_from first_variable root_at
  nothing_placed {variables} {sm5} {out₀} =
      let f = buffer_in_table buffers variables types in
      let many = place_sections (text_facts chunk edits) sm5 in
      let whole = ap (records_from f 0) (let e : count ≡ count - 0 = omega arith in e) in
      record {
        within = omega arith;
        first = refl;
        so_far =
            so_far_like chunk edits many whole refl refl
            (so_far_none chunk edits many (records_from f 0 count) at (pools_at types s₀ (beginning at)) out₀);
        advance = advance_none ready.pools refl;
        names_kept = λ x. refl;
        near = omega arith;
        out_long = refl;
      }

  pub sections_none : {variables : List ℕ} {sm5 : Bool} {out₀ : List ℕ} {cursor : WriteCursor} → cursor ≡ beginning at
      → SectionsSoFar chunk edits buffers variables types sm5 count at s₀ out₀ s₀ out₀ cursor 0 0
  sections_none {variables} {sm5} {out₀} is =
      subst (λ x. SectionsSoFar chunk edits buffers variables types sm5 count at s₀ out₀ s₀ out₀ x 0 0) (sym is) nothing_placed

  module _ {variables : List ℕ} {sm5 : Bool} {out₀ s out : List ℕ} {cursor : WriteCursor} {variable buffer : ℕ}
      (inv : SectionsSoFar chunk edits buffers variables types sm5 count at s₀ out₀ s out cursor variable buffer) (more : buffer < count) where
    is_first : 0 + first_variable buffers buffer ≡ variable
    is_first = zero-add (first_variable buffers buffer) ∙ sym inv.first

    -- There is room for one more.
    pub section_ready : SectionReady chunk edits buffers types buffer variable cursor s
    section_ready = record {
      pools = inv.advance.ready;
      bounds =
          subst (λ x. CursorBounds x 100000 cursor s) is_first
          (bounds_after inv.advance ready.bounds (omega (arith, inv.near, ready.few_buffers, more)));
      first = inv.first;
      root = inv.advance.next ∙ ap (root_at types) is_first;
      fit = counts_fit_below (buffer + 1) (omega arith) ready.fit;
      few_buffers = omega (arith, ready.few_buffers);
    }

    next-first : {counted : ℕ} → counted ≡ count_at buffers buffer → variable + counted ≡ first_variable buffers (buffer + 1)
    next-first is = (let first = inv.first in λ z. first z + is z) ∙ first_next buffers buffer

    pub next_below : {counted : ℕ} → counted ≡ count_at buffers buffer → variable + counted ≤ variable_room
    next_below is = omega (arith, next-first is, section_ready.fit.few_variables)

    pub sections_more : {s₁ out₁ : List ℕ} {to : WriteCursor} {counted : ℕ} → counted ≡ count_at buffers buffer
        → SectionPlaced chunk edits buffers variables types sm5 buffer cursor s s₁ out out₁ to
        → SectionsSoFar chunk edits buffers variables types sm5 count at s₀ out₀ s₁ out₁ to (variable + counted) (buffer + 1)
    unfolding buffer_name buffer_section section_start
    sections_more {s₁} {out₁} {to} is placed =
        let many = place_sections (text_facts chunk edits) sm5 in
        let left = records_left (buffer_in_table buffers variables types) buffer count more in
        record {
          within = omega arith;
          first = next-first is;
          so_far =
              so_far_like chunk edits many refl refl stored
              (so_far_more chunk edits many (each_section chunk edits sm5) (so_far_like chunk edits many left refl refl inv.so_far) placed.ran);
          advance =
              subst (λ x. VariablesAdvance chunk edits types 0 x (beginning at) to s₀ s₁) (first_next buffers buffer)
              (advance_then inv.advance advance_from);
          names_kept = λ x. name_kept x ∙ inv.names_kept x;
          near = omega (arith, inv.near, placed.near);
          out_long = ran_long placed.ran ∙ inv.out_long;
        }
      where
        advance_from : VariablesAdvance chunk edits types (0 + first_variable buffers buffer) (count_at buffers buffer) cursor to s s₁
        advance_from =
            subst (λ x. VariablesAdvance chunk edits types x (count_at buffers buffer) cursor to s s₁) (sym (zero-add (first_variable buffers buffer)))
            placed.advance

        name_kept : (x : ℕ) → buffer_name s₁ x ≡ buffer_name s x
        name_kept x = placed.others (buffers_start + x * buffer_offsets_width) (omega arith) (λ e. omega (arith, e))

        earlier : (x : ℕ) → 0 ≤ x → x < 0 + buffer → buffer_section buffers s x ≡ buffer_section buffers s₁ x
        earlier x low high =
            let start = sym (placed.others (buffers_start + x * buffer_offsets_width + 1) (omega arith) (λ e. omega (arith, e, high))) in
            let below = first_below buffers (x + 1) buffer (omega (arith, high)) in
            let before : first_variable buffers x + count_at buffers x ≤ first_variable buffers buffer = omega (arith, first_next buffers x, below) in
            let same =
            same_records (variable_offsets s) (variable_offsets s₁) (first_variable buffers x) (count_at buffers x)
            (λ y l h. offsets_kept placed.advance y (omega (arith, h, before))) in
            λ z. record { start = start z; offsets = same z }

        stored : records_from (buffer_section buffers s) 0 buffer ++ (buffer_section buffers s₁ buffer ∷ [])
            ≡ records_from (buffer_section buffers s₁) 0 (buffer + 1)
        stored =
            records_more (buffer_section buffers s) (buffer_section buffers s₁) 0 buffer (buffer_section buffers s₁ buffer) earlier
            (ap (buffer_section buffers s₁) (sym (zero-add buffer)))

pub sections_all : {chunk edits buffers variables types : List ℕ} {sm5 : Bool} {count at : ℕ} {s₀ out₀ s out : List ℕ} {cursor : WriteCursor}
    {variable buffer : ℕ} → SectionsSoFar chunk edits buffers variables types sm5 count at s₀ out₀ s out cursor variable buffer → count ≤ buffer
    → SectionsPlaced chunk edits buffers variables types sm5 count at s₀ s out₀ out cursor
sections_all {chunk} {edits} {buffers} {variables} {types} {sm5} {count} {at} {s₀} {s = s} {cursor = cursor} {buffer = buffer} inv all =
    let e : buffer ≡ count = omega (arith, inv.within) in
    let many = place_sections (text_facts chunk edits) sm5 in
    let none_left = records_done (buffer_in_table buffers variables types) buffer count all in
    record {
      ran =
          so_far_all chunk edits many (each_section chunk edits sm5)
          (so_far_like chunk edits many none_left refl (ap (records_from (buffer_section buffers s) 0) e) inv.so_far);
      advance = subst (λ x. VariablesAdvance chunk edits types 0 (first_variable buffers x) (beginning at) cursor s₀ s) e inv.advance;
      names_kept = inv.names_kept;
      near = omega (arith, inv.near, e);
    }
