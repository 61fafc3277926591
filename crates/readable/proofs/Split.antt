-- Readable is what the functions of this crate test: a test that comes after a step of decoding may come before it, and the tests of what was decoded are
-- those of its parts, since decoding uses each record once.
use Rattle.std.specs.Prelude.{Option, None, Some}
use mathlib.Core.Path.{◌≡◌, refl, ap, ◌∙◌}
use mathlib.Core.Bool.{Bool, ◌&&◌}
use mathlib.Core.List.{List, map}
use Prim.Native.Nat.{ℕ, ◌/◌}
use lib.Dec.{leb}
use lib.ListN.{length, length-map}
use Rattle.reflection.specs.Limits.{binding_room, buffer_room, variable_room, type_room, chunk_limit}
use Rattle.reflection.specs.declared.Text.{Text}
use Rattle.reflection.specs.declared.ResourceDef.{ResourceDef as Header}
use Rattle.reflection.specs.declared.ResourceBinding.{ResourceBinding as BindingRecord}
use Rattle.reflection.specs.declared.CBufferDef.{CBufferDef as BufferRecord}
use Rattle.reflection.specs.declared.CBufferVariable.{CBufferVariable as VariableRecord}
use Rattle.reflection.specs.Reflection.{CBufferVariable, CBufferDef, ResourceDef, is_sm5, is_wide}
use Rattle.tables.specs.Nodes.{Node, ◌>>=◌}
use Rattle.tables.specs.Records.{binding_width, buffer_width, variable_width, type_width, binding_at, buffer_at, variable_at, type_at}
use Rattle.tables.specs.Decode.{records_from, first_records, binding_from_table, node_from_table, variables_from, buffers_from, decode}
use Rattle.reflection.specs.Rd11.{rd11_from_header}
use Rattle.reflection.specs.Contents.{Bytes}
use Rattle.tables.proofs.RecordLists.{length_records}
use Rattle.readable.specs.Readable.{every, version_readable, node_count, room_kept, readable_contents}
use Rattle.readable.specs.Readable.{rd11_absent, texts_in_place, table_contents, is_readable, readable}
use Rattle.readable.specs.Checks.{passes, name_checked, count_checked, counts_checked, header_checked, binding_checked}
use Rattle.readable.specs.Checks.{bindings_checked, buffers_take, buffers_checked, variables_take, nodes_from, variables_checked, records_checked}
use Rattle.readable.proofs.Bools.{tests-in-order, holds_check, holds_and, holds_same, holds_then, every_map}
use Rattle.readable.proofs.Counts.{AllUsed, AllTaken, variables_used, buffers_taken}
use Rattle.readable.proofs.Parts.{buffers_take_lem, typed_held, variables_take_lem, binding_tests, tests, tests_by_part_lem}

is_holds : (o : Option (ResourceDef Bytes Bytes)) → is_readable o ≡ passes readable_contents o
is_holds None = refl
is_holds (Some r) = refl

-- The records of a table come after the test that it holds so many.
first_then : {A B : Type 0} (k : B → Bool) (width : ℕ) (at : List ℕ → ℕ → A) (t : List ℕ) (n : ℕ) (f : List A → Option B)
    → passes k (first_records width at t n >>= f) ≡ (leb n (length t / width) && passes k (f (records_from (at t) 0 n)))
unfolding first_records
first_then k width at t n f =
    holds_then k (first_records width at t n) f ∙ holds_check (λ xs. passes k (f xs)) (leb n (length t / width)) (λ _. Some (records_from (at t) 0 n))

names_last : (own names types room : Bool) → (own && (names && (types && room))) ≡ ((own && (types && room)) && names)
names_last own names types room = simp tests-in-order

types_last : (own types room taken : Bool) → ((own && (types && room)) && taken) ≡ (((own && room) && taken) && types)
types_last own types room taken = simp tests-in-order

in_order : (long absent version creator b mb f mf v mv t mt bindings buffers variables : Bool)
    → (long && (absent && (b && (f && (v && (t && (((((version && creator) && bindings) && (mb && (mf && (mv && mt)))) && buffers) && variables)))))))
    ≡ ((long && (absent && (version && creator))) && (((b && mb) && ((f && mf) && ((v && mv) && (t && mt)))) && (bindings && (buffers && variables))))
in_order long absent version creator b mb f mf v mv t mt bindings buffers variables = simp tests-in-order

module _ (chunk edits : Bytes) (h : Header) where
  -- The reflection of a header, binding records and buffers.
  abbrev made : List BindingRecord → List (CBufferDef Text Text) → ResourceDef Text Text
  made bs cs = record {
    target_version = h.target_version;
    compile_flags = h.compile_flags;
    rd11 = rd11_from_header h;
    creator = h.creator;
    bindings = map binding_from_table bs;
    constant_buffers = cs;
  }

  abbrev sm5 : Bool
  sm5 = is_sm5 (rd11_from_header h)

  abbrev wide : Bool
  wide = is_wide (rd11_from_header h)

  abbrev root : Bool
  root = version_readable h.target_version (rd11_from_header h) && name_checked chunk edits h.creator

  -- Room for so many records of each table.
  abbrev room : ℕ → ℕ → ℕ → ℕ → Bool
  room b f v t = leb b binding_room && (leb f buffer_room && (leb v variable_room && leb t type_room))

  bindings_held : (bs : List BindingRecord) → every (binding_tests chunk edits wide) (map binding_from_table bs) ≡ every (binding_checked chunk edits wide) bs
  unfolding binding_checked binding_from_table
  bindings_held bs = every_map (binding_tests chunk edits wide) binding_from_table bs

  -- Buffers that were built from all variables.
  filled : (bs : List BindingRecord) (cs : List BufferRecord) (vs : List (CBufferVariable Text Text)) (fs : List (CBufferDef Text Text)) → AllTaken cs vs fs
      → tests chunk edits (made bs fs)
      ≡ (((root && every (binding_checked chunk edits wide) bs) && (every (typed_held chunk edits sm5) vs
      && room (length bs) (length cs) (length vs) (node_count vs)))
      && every (name_checked chunk edits) (map (λ b. b.name) fs))
  unfolding room_kept
  filled bs cs vs fs taken =
      tests_by_part_lem chunk edits (made bs fs)
      ∙ (λ i. (root && bindings_held bs i)
      && (every (name_checked chunk edits) (map (λ b. b.name) fs)
      && (every (typed_held chunk edits sm5) (taken.variables i)
      && room (length-map bs binding_from_table i) (taken.buffers i) (length (taken.variables i)) (node_count (taken.variables i)))))
      ∙ names_last (root && every (binding_checked chunk edits wide) bs) (every (name_checked chunk edits) (map (λ b. b.name) fs))
      (every (typed_held chunk edits sm5) vs) (room (length bs) (length cs) (length vs) (node_count vs))

  -- The buffers of variables that were built.
  buffers_filled : (bs : List BindingRecord) (cs : List BufferRecord) (vs : List (CBufferVariable Text Text))
      → passes (λ fs. tests chunk edits (made bs fs)) (buffers_from cs vs)
      ≡ (((root && every (binding_checked chunk edits wide) bs) && (every (typed_held chunk edits sm5) vs
      && room (length bs) (length cs) (length vs) (node_count vs)))
      && buffers_take chunk edits cs (length vs))
  buffers_filled bs cs vs =
      let others = (root && every (binding_checked chunk edits wide) bs)
      && (every (typed_held chunk edits sm5) vs && room (length bs) (length cs) (length vs) (node_count vs)) in
      let named : List (CBufferDef Text Text) → Bool = λ fs. every (name_checked chunk edits) (map (λ b. b.name) fs) in
      holds_same (λ fs. tests chunk edits (made bs fs)) (λ fs. others && named fs) (buffers_from cs vs) (λ fs e. filled bs cs vs fs (buffers_taken cs vs fs e))
      ∙ holds_and others named (buffers_from cs vs)
      ∙ ap (λ b. others && b) (buffers_take_lem chunk edits cs vs)

  -- The variables, and then their buffers.
  variables_filled : (bs : List BindingRecord) (cs : List BufferRecord) (rs : List VariableRecord) (ns : List (Node Text))
      → passes (λ vs. passes (λ fs. tests chunk edits (made bs fs)) (buffers_from cs vs)) (variables_from rs ns)
      ≡ ((((root && every (binding_checked chunk edits wide) bs) && room (length bs) (length cs) (length rs) (length ns))
      && buffers_take chunk edits cs (length rs))
      && variables_take chunk edits sm5 rs ns)
  variables_filled bs cs rs ns =
      let others = ((root && every (binding_checked chunk edits wide) bs) && room (length bs) (length cs) (length rs) (length ns))
      && buffers_take chunk edits cs (length rs) in
      holds_same (λ vs. passes (λ fs. tests chunk edits (made bs fs)) (buffers_from cs vs)) (λ vs. others && every (typed_held chunk edits sm5) vs)
      (variables_from rs ns)
      (λ vs e. let used : AllUsed rs ns vs = variables_used rs ns vs e in
      buffers_filled bs cs vs
      ∙ (λ i. ((root && every (binding_checked chunk edits wide) bs) && (every (typed_held chunk edits sm5) vs
      && room (length bs) (length cs) (used.variables i) (used.nodes i)))
      && buffers_take chunk edits cs (used.variables i))
      ∙ types_last (root && every (binding_checked chunk edits wide) bs) (every (typed_held chunk edits sm5) vs)
      (room (length bs) (length cs) (length rs) (length ns)) (buffers_take chunk edits cs (length rs)))
      ∙ holds_and others (every (typed_held chunk edits sm5)) (variables_from rs ns)
      ∙ ap (λ b. others && b) (variables_take_lem chunk edits sm5 rs ns)

  module _ (bindings buffers variables types : List ℕ) where
    abbrev bs : List BindingRecord
    bs = records_from (binding_at bindings) 0 h.binding_count

    abbrev cs : List BufferRecord
    cs = records_from (buffer_at buffers) 0 h.buffer_count

    abbrev vs : List VariableRecord
    vs = records_from (variable_at variables) 0 h.variable_count

    abbrev ns : List (Node Text)
    ns = map node_from_table (records_from (type_at types) 0 h.type_count)

    -- What was decoded, tested.
    decode_tested : passes (tests chunk edits) (decode h bindings buffers variables types)
        ≡ (leb h.binding_count (length bindings / binding_width)
        && (leb h.buffer_count (length buffers / buffer_width)
        && (leb h.variable_count (length variables / variable_width)
        && (leb h.type_count (length types / type_width)
        && ((((root && every (binding_checked chunk edits wide) bs) && room h.binding_count h.buffer_count h.variable_count h.type_count)
        && buffers_take chunk edits cs h.variable_count) && variables_take chunk edits sm5 vs ns)))))
    unfolding decode
    decode_tested =
        first_then (tests chunk edits) binding_width binding_at bindings h.binding_count _
        ∙ ap (λ b. leb h.binding_count (length bindings / binding_width) && b)
        (first_then (tests chunk edits) buffer_width buffer_at buffers h.buffer_count _
        ∙ ap (λ b. leb h.buffer_count (length buffers / buffer_width) && b)
        (first_then (tests chunk edits) variable_width variable_at variables h.variable_count _
        ∙ ap (λ b. leb h.variable_count (length variables / variable_width) && b) (first_then (tests chunk edits) type_width type_at types h.type_count _
        ∙ ap (λ b. leb h.type_count (length types / type_width) && b)
        (holds_then (tests chunk edits) (variables_from vs ns) _
        ∙ holds_same _ (λ typed. passes (λ fs. tests chunk edits (made bs fs)) (buffers_from cs typed)) (variables_from vs ns)
        (λ typed e. holds_then (tests chunk edits) (buffers_from cs typed) _)
        ∙ variables_filled bs cs vs ns
        ∙ (λ i. (((root && every (binding_checked chunk edits wide) bs)
        && room (length_records (binding_at bindings) 0 h.binding_count i) (length_records (buffer_at buffers) 0 h.buffer_count i)
        (variables_counted i) (nodes_counted i))
        && buffers_take chunk edits cs (variables_counted i)) && variables_take chunk edits sm5 vs ns)))))
      where
        variables_counted : length vs ≡ h.variable_count
        variables_counted = length_records (variable_at variables) 0 h.variable_count

        nodes_counted : length ns ≡ h.type_count
        nodes_counted = length-map (records_from (type_at types) 0 h.type_count) node_from_table ∙ length_records (type_at types) 0 h.type_count

    -- Readable, as the functions test it.
    pub readable_split : readable chunk edits h bindings buffers variables types
        ≡ (header_checked chunk edits h && (counts_checked h (length bindings) (length buffers) (length variables) (length types)
        && records_checked chunk edits h bindings buffers variables types))
    unfolding readable table_contents header_checked counts_checked count_checked records_checked bindings_checked buffers_checked variables_checked nodes_from
    readable_split =
        is_holds (table_contents chunk edits h bindings buffers variables types)
        ∙ holds_check readable_contents (leb (length chunk) chunk_limit && leb (length edits) chunk_limit) _
        ∙ ap (λ b. (leb (length chunk) chunk_limit && leb (length edits) chunk_limit) && b) (holds_check readable_contents (rd11_absent h) _
        ∙ ap (λ b. rd11_absent h && b) (holds_then readable_contents (decode h bindings buffers variables types) _
        ∙ holds_same _ (tests chunk edits) (decode h bindings buffers variables types) (λ r e. holds_check readable_contents (texts_in_place chunk edits r) _)
        ∙ decode_tested))
        ∙ in_order (leb (length chunk) chunk_limit && leb (length edits) chunk_limit) (rd11_absent h) (version_readable h.target_version (rd11_from_header h))
        (name_checked chunk edits h.creator)
        (leb h.binding_count (length bindings / binding_width)) (leb h.binding_count binding_room)
        (leb h.buffer_count (length buffers / buffer_width)) (leb h.buffer_count buffer_room)
        (leb h.variable_count (length variables / variable_width)) (leb h.variable_count variable_room)
        (leb h.type_count (length types / type_width)) (leb h.type_count type_room)
        (every (binding_checked chunk edits wide) bs) (buffers_take chunk edits cs h.variable_count) (variables_take chunk edits sm5 vs ns)
