-- A variable, from what placing its name, its type and its default did: the three steps in turn are its step, and each leaves the words that the others use.
use mathlib.Core.Path.{◌≡◌, refl, ap, sym, ◌∙◌, subst}
use mathlib.Core.Bool.{Bool}
use mathlib.Core.List.{List, [], ◌∷◌}
use Prim.Native.Nat.{ℕ, ◌+◌, ◌*◌, ◌≤◌, ◌<◌}
use native.Mathlib.Nat.{add-zero}
use native.Mathlib.Omega.{arith}
use lib.ListN.{length, get_or}
use Rattle.words.specs.Splice.{splice}
use Rattle.words.proofs.Splice.{splice_puts}
use Rattle.reflection.specs.declared.CBufferVariable.{CBufferVariable as VariableRecord}
use Rattle.reflection.specs.declared.Text.{Text}
use Rattle.tables.specs.Nodes.{type_levels}
use Rattle.tables.specs.Records.{variable_at}
use Rattle.tables.specs.Decode.{variable_from_table}
use Rattle.reflection.specs.Limits.{type_room, variable_room}
use Rattle.write_spec.specs.Step.{WriteStep}
use Rattle.write_spec.specs.Layout.{place_inner_name, place_default, place_type, place_variable}
use Rattle.write_pool.specs.Pool.{entry_count}
use Rattle.write_texts.specs.Cursor.{Placement}
use Rattle.write_texts.specs.Cursor.{WriteCursor}
use Rattle.write_texts.specs.Simulates.{Simulates, text_facts}
use Rattle.write_texts.specs.Scratch.{variable_offsets_width, inner_start, defaults_start, root_types_start, records_start, variables_start}
use Rattle.write_texts.specs.Scratch.{inner_pool}
use Rattle.write_texts.specs.Scratch.{default_pool}
use Rattle.write_texts.specs.PlacedInScratch.{inner_room, default_room, Kept, TextPlaced}
use Rattle.write_texts.specs.PlacedInPool.{farthest_offset}
use Rattle.write_texts.proofs.ScratchPools.{inner_kept_before, defaults_kept_after, defaults_kept_before, ready_kept}
use Rattle.write_texts.proofs.Runs.{ran_like, ran_step}
use Rattle.tables.specs.Trees.{tree_at, type_tree}
use Rattle.tables.proofs.Trees.{tree_up}
use Rattle.write_types.specs.Placed.{PlacedType}
use Rattle.write_types.specs.Room.{TypeReady}
use Rattle.write_types.specs.TypePlaced.{RootTypePlaced}
use Rattle.tables.specs.TableReflection.{root_at, variable_in_table}
use Rattle.write_tables.specs.Offsets.{variable_offsets}
use Rattle.write_tables.specs.Placed.{pools_at, pools_sharing}
use Rattle.write_tables.specs.VariablesPlaced.{VariablesReady, VariablesAdvance, VariablePlaced}
use Rattle.tables.proofs.TableOrder.{root_next}
use Rattle.write_tables.proofs.Advance.{moved_to}
use Rattle.write_texts.specs.Writer.{cursor_of, SameTypes}
use Rattle.write_texts.specs.declared.writer.Writer.{Writer}
use Rattle.write_tables.proofs.Writers.{cursor_moved}
use Rattle.write_tables.proofs.Steps.{ran_variable}
use Rattle.write_tables.proofs.Pools.{kept_splice, pools_at_kept, text_placed_at}

-- What placing the variable's type did, with the output at so many bytes.
abbrev pub TypePlacedAt : (chunk edits types : List ℕ) (sm5 share : Bool) (cursor : WriteCursor) (at : ℕ) (s s' out out' : List ℕ) (t : PlacedType) → Type 0
TypePlacedAt chunk edits types sm5 share cursor at s s' out out' t =
    RootTypePlaced chunk edits types sm5 share type_levels (moved_to at cursor) s s' out out' t

pub type_placed_after : {chunk edits types : List ℕ} {sm5 share : Bool} {w w₁ : Writer} {s s' out out' : List ℕ} {t : PlacedType} → SameTypes w w₁
    → RootTypePlaced chunk edits types sm5 share type_levels (cursor_of w₁) s s' out out' t
    → TypePlacedAt chunk edits types sm5 share (cursor_of w) w₁.out.now.at s s' out out' t
type_placed_after {chunk} {edits} {types} {sm5} {share} {s = s} {s'} {out} {out'} {t} same typed =
    subst (λ x. RootTypePlaced chunk edits types sm5 share type_levels x s s' out out' t) (cursor_moved same) typed

module _ {chunk edits types : List ℕ} {variable : ℕ} {cursor : WriteCursor} {s : List ℕ} (ready : VariablesReady chunk edits types variable 1 cursor s) where
  after_nodes : (tree_at types type_levels cursor.node).next ≡ root_at types (variable + 1)
  after_nodes = ap (λ (x : ℕ). (tree_at types type_levels x).next) ready.root ∙ root_next types variable

  nodes_fit : (tree_at types type_levels cursor.node).next ≤ type_room
  nodes_fit = omega (arith, after_nodes, ready.few_nodes)

  -- There is room for the name, then for the type, then for the default.
  pub name_room : (entry_count (inner_pool s) < inner_room) × (cursor.at ≤ farthest_offset)
  name_room = omega (arith, ready.bounds.names, ready.bounds.output, tree_up types type_levels cursor.node, nodes_fit)

  pub root_room : cursor.root_types < variable_room
  root_room = omega (arith, ready.bounds.rooted, ready.few_variables)

  pub offsets_room : variable < variable_room
  offsets_room = omega (arith, ready.few_variables)

  module _ {step : WriteStep Text Text ℕ} {s₁ out out₁ : List ℕ} {a : Placement}
      (named : TextPlaced chunk edits step cursor.at inner_pool inner_start defaults_start s s₁ out out₁ a) where
    pub type_ready : {at-name : WriteCursor} → at-name ≡ moved_to a.at cursor
        → TypeReady chunk edits types type_levels 0 records_start at-name s₁
    type_ready is = subst (λ x. TypeReady chunk edits types type_levels 0 records_start x s₁) (sym is) (record {
      ready = named.ready;
      room = record {
        cursor = omega (arith, ready.bounds.output, named.near_high);
        names = omega (arith, ready.bounds.names, named.count_high);
        stacked = omega (arith, ready.bounds.stacked);
        records_low = omega arith;
        records_high = omega arith;
      };
      within = nodes_fit;
    })

    defaults_same : {sm5 share : Bool} {s₂ out₂ : List ℕ} {t : PlacedType} → TypePlacedAt chunk edits types sm5 share cursor a.at s₁ s₂ out₁ out₂ t
        → entry_count (default_pool s₂) ≡ entry_count (default_pool s)
    defaults_same typed = ap entry_count (typed.defaults_same ∙ defaults_kept_after named.kept ready.pools.long (omega arith))

    pub default_room_lem : {sm5 share : Bool} {s₂ out₂ : List ℕ} {t : PlacedType} → TypePlacedAt chunk edits types sm5 share cursor a.at s₁ s₂ out₁ out₂ t
        → (entry_count (default_pool s₂) < default_room) × (t.cursor.at ≤ farthest_offset)
    default_room_lem typed =
        omega (
          arith,
          defaults_same typed,
          ready.bounds.defaults,
          ready.bounds.output,
          named.near_high,
          typed.advanced.near,
          typed.next,
          nodes_fit,
          ready.few_variables,
        )

  module _ (variables : List ℕ) {sm5 share : Bool} {s₁ s₂ s₃ out out₁ out₂ out₃ : List ℕ} {a d : Placement} {t : PlacedType} {v : VariableRecord}
      (is : v ≡ variable_at variables variable)
      (named : TextPlaced chunk edits (place_inner_name (text_facts chunk edits) v.name) cursor.at inner_pool inner_start defaults_start s s₁ out out₁ a)
      (typed : TypePlacedAt chunk edits types sm5 share cursor a.at s₁ s₂ out₁ out₂ t)
      (defaulted : TextPlaced chunk edits (place_default (text_facts chunk edits) v.default_value) t.cursor.at
      default_pool defaults_start root_types_start s₂ s₃ out₂ out₃ d) where
    abbrev stored_at : ℕ
    stored_at = variables_start + variable * variable_offsets_width

    abbrev offsets : List ℕ
    offsets = a.offset ∷ t.offset ∷ d.offset ∷ []

    abbrev s₄ : List ℕ
    s₄ = splice s₃ stored_at offsets

    abbrev to : WriteCursor
    to = moved_to d.at t.cursor

    kept : Kept stored_at (stored_at + variable_offsets_width) s₃ s₄
    kept = kept_splice s₃ stored_at offsets

    stored : record { name = a.offset; type = t.offset; default = d.offset } ≡ variable_offsets s₄ variable
    unfolding variable_offsets
    stored =
        let room : stored_at + variable_offsets_width ≤ length s₃ = omega (arith, defaulted.ready.long, offsets_room) in
        let name = sym (ap (λ (x : ℕ). get_or s₄ x 0) (sym (add-zero stored_at)) ∙ splice_puts s₃ stored_at offsets room 0 0 (omega arith)) in
        let type = sym (splice_puts s₃ stored_at offsets room 1 0 (omega arith)) in
        let default = sym (splice_puts s₃ stored_at offsets room 2 0 (omega arith)) in
        λ i. record { name = name i; type = type i; default = default i }

    shared_room : (t.cursor.member_types ≤ type_room) × (t.cursor.root_types ≤ variable_room)
    shared_room = omega (arith, typed.advanced.stacked, typed.next, typed.one_root, nodes_fit, ready.bounds.stacked, root_room)

    named_ran : Simulates chunk edits (place_inner_name (text_facts chunk edits) (variable_at variables variable).name) cursor.at (pools_at types s cursor)
        out out₁ a.offset a.at (pools_at types s₁ cursor)
    named_ran =
        ran_step chunk edits (ap (λ (x : VariableRecord). place_inner_name (text_facts chunk edits) x.name) is)
        (text_placed_at types cursor.root_types cursor.member_types named (omega arith))

    typed_ran : Simulates chunk edits (place_type (text_facts chunk edits) sm5 share (type_tree types type_levels (root_at types variable))) a.at
        (pools_at types s₁ cursor) out₁ out₂ t.offset t.cursor.at (pools_at types s₂ t.cursor)
    unfolding pools_sharing
    typed_ran =
        ran_step chunk edits (ap (λ (x : ℕ). place_type (text_facts chunk edits) sm5 share (type_tree types type_levels x)) ready.root) typed.ran

    defaulted_ran : Simulates chunk edits (place_default (text_facts chunk edits) (variable_at variables variable).default_value) t.cursor.at
        (pools_at types s₂ t.cursor) out₂ out₃ d.offset d.at (pools_at types s₃ t.cursor)
    defaulted_ran =
        ran_step chunk edits (ap (λ (x : VariableRecord). place_default (text_facts chunk edits) x.default_value) is)
        (text_placed_at types t.cursor.root_types t.cursor.member_types defaulted (omega arith))

    all_ran : Simulates chunk edits (place_variable (text_facts chunk edits) sm5 share (variable_in_table variables types variable)) cursor.at
        (pools_at types s cursor) out out₃ (variable_offsets s₄ variable) d.at (pools_at types s₄ to)
    unfolding variable_from_table variable_in_table
    all_ran =
        ran_like chunk edits refl
        (sym (pools_at_kept types t.cursor.root_types t.cursor.member_types defaulted.ready kept (omega arith)
        shared_room.1 shared_room.0)) stored
        (ran_variable chunk edits sm5 share (variable_in_table variables types variable) named_ran typed_ran defaulted_ran)

    advance : VariablesAdvance chunk edits types variable 1 cursor to s s₄
    advance = record {
      ready = ready_kept defaulted.ready kept (omega arith);
      long = kept.long ∙ defaulted.kept.long ∙ typed.long ∙ named.kept.long;
      earlier = λ i low high. kept.before i high ∙ defaulted.kept.after i (omega arith) ∙ typed.high i low ∙ named.kept.after i (omega arith);
      next = typed.next ∙ after_nodes;
      forward = omega (arith, tree_up types type_levels cursor.node, typed.next);
      names =
          omega (
            arith,
            ap entry_count (inner_kept_before kept defaulted.ready.long (omega arith)),
            ap entry_count (inner_kept_before defaulted.kept typed.advanced.ready.long (omega arith)),
            typed.advanced.names,
            named.count_high,
          );
      defaults =
          omega (
            arith,
            ap entry_count (defaults_kept_before kept defaulted.ready.long (omega arith)),
            defaulted.count_high,
            defaults_same named typed,
          );
      stacked = omega (arith, typed.advanced.stacked);
      rooted = omega (arith, typed.one_root);
    }

    placed : VariablePlaced chunk edits variables types sm5 share variable cursor s s₄ out out₃ to
    placed = record {
      ran = all_ran;
      advance = advance;
      later = λ i low.
          kept.after i (omega (arith, offsets_room, low)) ∙ defaulted.kept.after i (omega arith) ∙ typed.high i (omega arith)
          ∙ named.kept.after i (omega arith);
      near = omega (arith, defaulted.near_high, typed.advanced.near, named.near_high);
    }

    pub variable_placed : {s' : List ℕ} {to' : WriteCursor} → s' ≡ s₄ → to' ≡ to
        → VariablePlaced chunk edits variables types sm5 share variable cursor s s' out out₃ to'
    variable_placed put is =
        subst (λ (p : List ℕ × WriteCursor). VariablePlaced chunk edits variables types sm5 share variable cursor s p.0 out out₃ p.1)
        (λ i. (sym put i, sym is i)) placed
