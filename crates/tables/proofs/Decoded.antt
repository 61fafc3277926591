-- Where decoding gives a reflection, it is the one that is read off the tables record by record, and the counts are those of the header: decoding goes through
-- the same records in the same order, and its tests only stop it.
use Rattle.std.proofs.lemmas.Option.{same_Some, none-some}
use Rattle.std.specs.Prelude.{Option, Some}
use mathlib.Core.Path.{◌≡◌, refl, ap, sym, ◌∙◌}
use mathlib.Core.Bool.{Bool, true, false}
use mathlib.Core.List.{List, [], ◌∷◌, map}
use Prim.Native.Nat.{ℕ, zero, suc, ◌+◌, ◌-◌, ◌/◌, ◌≤◌}
use native.Mathlib.Nat.{add-zero, zero-add, add-suc, suc-add}
use native.Mathlib.Omega.{arith}
use borrow.Author.Tests.{leb-true}
use lib.Dec.{leb}
use lib.ListN.{length, take, drop, length-map}
use Rattle.reflection.specs.declared.Text.{Text}
use Rattle.reflection.specs.declared.ResourceDef.{ResourceDef as Header}
use Rattle.reflection.specs.declared.ResourceBinding.{ResourceBinding as BindingRecord}
use Rattle.reflection.specs.declared.CBufferDef.{CBufferDef as BufferRecord}
use Rattle.reflection.specs.declared.CBufferVariable.{CBufferVariable as VariableRecord}
use Rattle.reflection.specs.declared.TypeDesc.{TypeDesc as TypeRecord}
use Rattle.reflection.specs.Reflection.{CBufferVariable, CBufferDef, ResourceDef}
use Rattle.tables.specs.Nodes.{Node, ◌>>=◌, type_from_nodes, type_levels}
use Rattle.tables.specs.Records.{binding_width, buffer_width, variable_width, type_width, binding_at, buffer_at, variable_at, type_at}
use Rattle.tables.specs.Decode.{guard, records_from, first_records, binding_from_table, variable_from_table, buffer_from_table, node_from_table}
use Rattle.tables.specs.Decode.{variables_from, buffers_from, decode}
use Rattle.reflection.specs.Rd11.{rd11_from_header}
use Rattle.tables.proofs.TypeDecoded.{type_decoded}
use Rattle.tables.specs.TableReflection.{root_at, variable_in_table, count_at, first_variable, buffer_in_table, reflection_in_tables}
use Rattle.tables.proofs.Options.{then_was}
use Rattle.tables.proofs.RecordLists.{length_records, take_records, drop_records}

checked : (b : Bool) {x : Unit {0}} → guard b ≡ Some x → b ≡ true
unfolding guard
checked true e = refl
checked false {x} e = absurd (none-some x e)

record First {A : Type 0} (width : ℕ) (record-at : List ℕ → ℕ → A) (t : List ℕ) (n : ℕ) (xs : List A) : Type 0 where
  held : n ≤ length t / width
  are : xs ≡ records_from (record-at t) 0 n

first_held : {A : Type 0} (width : ℕ) (record-at : List ℕ → ℕ → A) (t : List ℕ) (n : ℕ) (xs : List A) → first_records width record-at t n ≡ Some xs
    → First width record-at t n xs
unfolding first_records
first_held width record-at t n xs e =
    let w = then_was (guard (leb n (length t / width))) (λ _. Some (records_from (record-at t) 0 n)) xs e in
    record {
      held = leb-true n (length t / width) (checked (leb n (length t / width)) w.1);
      are = sym
          (same_Some (records_from (record-at t) 0 n) xs w.2);
    }

module _ (variables types : List ℕ) where
  record VariablesDecoded (j n m : ℕ) (vs : List (CBufferVariable Text Text)) : Type 0 where
    are : vs ≡ records_from (variable_in_table variables types) j n
    end : root_at types (j + n) ≡ root_at types j + m

  no_variable : (ns : List (Node Text)) {vs : List (CBufferVariable Text Text)} → variables_from [] ns ≡ Some vs → (length ns ≡ 0) × (vs ≡ [])
  unfolding variables_from
  no_variable [] {vs} e = (refl, sym (same_Some [] vs e))
  no_variable (n ∷ ns) {vs} e = absurd (none-some vs e)

  variables_decoded : (n j m : ℕ) (vs : List (CBufferVariable Text Text)) → root_at types j + m ≤ length types / type_width
      → variables_from (records_from (variable_at variables) j n) (map node_from_table (records_from (type_at types) (root_at types j) m)) ≡ Some vs
      → VariablesDecoded j n m vs
  unfolding records_from variables_from root_at variable_in_table
  variables_decoded zero j m vs held e =
      let none = no_variable (map node_from_table (records_from (type_at types) (root_at types j) m)) e in
      let empty : m ≡ 0 = sym (length_records (type_at types) (root_at types j) m) ∙ sym
      (length-map (records_from (type_at types) (root_at types j) m) node_from_table) ∙ none.0 in
      record { are = none.1; end = ap (root_at types) (add-zero j) ∙ omega (arith, empty) }
  variables_decoded (suc n) j m vs held e =
      let v = variable_at variables j in
      let nodes = map node_from_table (records_from (type_at types) (root_at types j) m) in
      let others-from = variables_from (records_from (variable_at variables) (suc j) n) in
      let w = then_was (type_from_nodes type_levels nodes) (λ t. others-from t.left >>= λ others. Some (variable_from_table v t.type ∷ others)) vs e in
      let t = type_decoded types type_levels (root_at types j) m w.0 held w.1 in
      let others = then_was (others-from w.0.left) (λ others. Some (variable_from_table v w.0.type ∷ others)) vs w.2 in
      let rest =
      variables_decoded n (suc j) (root_at types j + m - root_at types (suc j)) others.0 (omega (arith, t.within, held))
      (ap others-from (sym t.left) ∙ others.1) in
      record {
        are =
            sym (same_Some (variable_from_table v w.0.type ∷ others.0) vs others.2)
            ∙ (let typed = sym t.type in λ i. variable_from_table v (typed i) ∷ rest.are i);
        end = ap (root_at types) (add-suc j n ∙ sym (suc-add j n)) ∙ rest.end ∙ omega (arith, t.within);
      }

  module _ (buffers : List ℕ) where
    record BuffersDecoded (i n m : ℕ) (bs : List (CBufferDef Text Text)) : Type 0 where
      are : bs ≡ records_from (buffer_in_table buffers variables types) i n
      end : first_variable buffers (i + n) ≡ first_variable buffers i + m

    no_buffer : (vs : List (CBufferVariable Text Text)) {bs : List (CBufferDef Text Text)} → buffers_from [] vs ≡ Some bs → (length vs ≡ 0) × (bs ≡ [])
    unfolding buffers_from
    no_buffer [] {bs} e = (refl, sym (same_Some [] bs e))
    no_buffer (v ∷ vs) {bs} e = absurd (none-some bs e)

    buffers_decoded : (n i m : ℕ) (bs : List (CBufferDef Text Text))
        → buffers_from (records_from (buffer_at buffers) i n) (records_from (variable_in_table variables types) (first_variable buffers i) m) ≡ Some bs
        → BuffersDecoded i n m bs
    unfolding records_from buffers_from first_variable buffer_in_table count_at
    buffers_decoded zero i m bs e =
        let none = no_buffer (records_from (variable_in_table variables types) (first_variable buffers i) m) e in
        let empty : m ≡ 0 = sym (length_records (variable_in_table variables types) (first_variable buffers i) m) ∙ none.0 in
        record { are = none.1; end = ap (first_variable buffers) (add-zero i) ∙ omega (arith, empty) }
    buffers_decoded (suc n) i m bs e =
        let vs : List (CBufferVariable Text Text) = records_from (variable_in_table variables types) (first_variable buffers i) m in
        let c : ℕ = count_at buffers i in
        let f : List (CBufferDef Text Text) → Option (List (CBufferDef Text Text)) = λ others. Some
        (buffer_from_table (buffer_at buffers i) (take c vs) ∷ others) in
        let w = then_was (guard (leb c (length vs))) (λ _. buffers_from (records_from (buffer_at buffers) (suc i) n) (drop c vs) >>= f) bs e in
        let few : c ≤ m = omega (
          arith,
          leb-true c (length vs) (checked (leb c (length vs)) w.1),
          length_records (variable_in_table variables types) (first_variable buffers i) m,
        ) in
        let others = then_was (buffers_from (records_from (buffer_at buffers) (suc i) n) (drop c vs)) f bs w.2 in
        let rest = buffers_decoded n (suc i) (m - c) others.0
        (ap (buffers_from (records_from (buffer_at buffers) (suc i) n)) (sym
        (drop_records (variable_in_table variables types) (first_variable buffers i) m c few)) ∙ others.1) in
        let first = take_records (variable_in_table variables types) (first_variable buffers i) m c few in
        record {
          are =
              sym (same_Some (buffer_from_table (buffer_at buffers i) (take c vs) ∷ others.0) bs others.2)
              ∙ (λ z. buffer_from_table (buffer_at buffers i) (first z) ∷ rest.are z);
          end = ap (first_variable buffers) (add-suc i n ∙ sym (suc-add i n)) ∙ rest.end ∙ omega (arith, few);
        }

-- A reflection that was decoded, and what decoding tested on the way.
pub record Decoded (h : Header) (bindings buffers variables types : List ℕ) (r : ResourceDef Text Text) : Type 0 where
  pub is : r ≡ reflection_in_tables h bindings buffers variables types
  pub variables_counted : first_variable buffers h.buffer_count ≡ h.variable_count
  pub nodes_counted : root_at types h.variable_count ≡ h.type_count
  pub holds_bindings : h.binding_count ≤ length bindings / binding_width
  pub holds_buffers : h.buffer_count ≤ length buffers / buffer_width
  pub holds_variables : h.variable_count ≤ length variables / variable_width
  pub holds_types : h.type_count ≤ length types / type_width

module _ (h : Header) (bindings buffers variables types : List ℕ) where
  abbrev with_parts : List BindingRecord → List (CBufferDef Text Text) → ResourceDef Text Text
  with_parts bs filled = record {
    target_version = h.target_version;
    compile_flags = h.compile_flags;
    rd11 = rd11_from_header h;
    creator = h.creator;
    bindings = map binding_from_table bs;
    constant_buffers = filled;
  }

  from_parts : {bs : List BindingRecord} {cs : List BufferRecord} {vs : List VariableRecord} {ts : List TypeRecord}
      {typed : List (CBufferVariable Text Text)} {filled : List (CBufferDef Text Text)} {r : ResourceDef Text Text}
      → First binding_width binding_at bindings h.binding_count bs → First buffer_width buffer_at buffers h.buffer_count cs → First
      variable_width variable_at variables h.variable_count vs
      → First type_width type_at types h.type_count ts → variables_from vs (map node_from_table ts) ≡ Some typed → buffers_from cs typed ≡ Some filled
      → with_parts bs filled ≡ r
      → Decoded h bindings buffers variables types r
  unfolding reflection_in_tables root_at first_variable
  from_parts {typed = typed} {filled} b c v t vs-decoded bs-decoded parts =
      let v-are = sym v.are in
      let t-are = sym t.are in
      let c-are = sym c.are in
      let vs = variables_decoded variables types h.variable_count 0 h.type_count typed (omega (arith, t.held))
      ((λ z. variables_from (v-are z) (map node_from_table (t-are z))) ∙ vs-decoded) in
      let typed-are = sym vs.are in
      let bs = buffers_decoded variables types buffers h.buffer_count 0 h.variable_count filled
      ((λ z. buffers_from (c-are z) (typed-are z)) ∙ bs-decoded) in
      record {
        is = sym parts ∙ (λ z. with_parts (b.are z) (bs.are z));
        variables_counted = ap (first_variable buffers) (sym (zero-add h.buffer_count)) ∙ bs.end ∙ zero-add h.variable_count;
        nodes_counted = ap (root_at types) (sym (zero-add h.variable_count)) ∙ vs.end ∙ zero-add h.type_count;
        holds_bindings = b.held;
        holds_buffers = c.held;
        holds_variables = v.held;
        holds_types = t.held;
      }

  pub decoded : (r : ResourceDef Text Text) → decode h bindings buffers variables types ≡ Some r → Decoded h bindings buffers variables types r
  unfolding decode
  decoded r e =
      let b = then_was (first_records binding_width binding_at bindings h.binding_count) _ r e in
      let c = then_was (first_records buffer_width buffer_at buffers h.buffer_count) _ r b.2 in
      let v = then_was (first_records variable_width variable_at variables h.variable_count) _ r c.2 in
      let t = then_was (first_records type_width type_at types h.type_count) _ r v.2 in
      let typed = then_was (variables_from v.0 (map node_from_table t.0)) _ r t.2 in
      let filled = then_was (buffers_from c.0 typed.0) _ r typed.2 in
      from_parts (first_held _ _ _ _ _ b.1) (first_held _ _ _ _ _ c.1) (first_held _ _ _ _ _ v.1)
      (first_held _ _ _ _ _ t.1) typed.1 filled.1
      (same_Some (with_parts b.0 filled.0) r filled.2)
