-- What the walks append to the tables is the rows of what they read, one record after the other, and each record takes its table's width. The walks
-- append at the end (a left fold), the rows are joined from the front (a right fold): both are the same by `append_assoc`.
use mathlib.Core.Path.{◌≡◌, refl, sym, ap, ◌∙◌}
use mathlib.Core.List.{List, [], ◌∷◌, ◌++◌, map, append_assoc, append-nil}
use Prim.Native.Nat.{ℕ, ◌*◌}
use lib.ListN.{length, length-map}
use Rattle.reflection.specs.Limits.{binding_width, buffer_width, variable_width, type_width}
use Rattle.reflection.specs.declared.Text.{Text}
use Rattle.reflection.specs.declared.ResourceBinding.{ResourceBinding as BindingRecord}
use Rattle.reflection.specs.declared.CBufferDef.{CBufferDef as BufferRecord}
use Rattle.reflection.specs.declared.CBufferVariable.{CBufferVariable as VariableRecord}
use Rattle.reflection.specs.declared.TypeDesc.{TypeDesc as TypeRecord}
use Rattle.reflection.specs.Reflection.{TypeDesc, type_desc, Members, no_member, member, member_count, CBufferVariable, CBufferDef, ResourceBinding}
use Rattle.reflection.specs.Texts.{in_chunk}
use Rattle.tables.specs.Nodes.{Node, nodes_of, nodes_of_members}
use Rattle.tables.specs.Records.{binding_words_in_table, buffer_words_in_table, variable_words_in_table, type_words_in_table, joined}
use Rattle.tables.specs.Tables.{binding_record, buffer_record, variable_record, type_record, all_nodes}
use Rattle.reflection.specs.Reflection.{all_variables}
use Rattle.tables.proofs.Joined.{length_joined}
use Rattle.read_types.specs.Progress.{append_all}
use Rattle.read_types.specs.Walk.{append_type, append_members}
use Rattle.read_tables.specs.Bindings.{append_binding}
use Rattle.read_tables.specs.Variables.{append_variable}
use Rattle.read_tables.specs.Buffers.{append_buffer}

-- The rows of a list: of each element the words of its record.
module _ {A R : Type 0} (words : R → List ℕ) (record_of : A → R) where
  abbrev pub rows_of_all : List A → List ℕ
  rows_of_all xs = joined words (map record_of xs)

  pub rows_append : (xs ys : List A) → rows_of_all (xs ++ ys) ≡ rows_of_all xs ++ rows_of_all ys
  unfolding joined
  rows_append [] ys = refl
  rows_append (x ∷ xs) ys =
      ap (λ (l : List ℕ). words (record_of x) ++ l) (rows_append xs ys) ∙ sym (append_assoc (words (record_of x)) (rows_of_all xs) (rows_of_all ys))

  -- rows that follow other words
  pub rows_append_after : (w : List ℕ) (xs ys : List A) → (w ++ rows_of_all xs) ++ rows_of_all ys ≡ w ++ rows_of_all (xs ++ ys)
  rows_append_after w xs ys = append_assoc w (rows_of_all xs) (rows_of_all ys) ∙ ap (λ (l : List ℕ). w ++ l) (sym (rows_append xs ys))

  pub rows_length : (width : ℕ) → ((x : R) → length (words x) ≡ width) → (xs : List A) → length (rows_of_all xs) ≡ length xs * width
  rows_length width h xs = length_joined width words h (map record_of xs) ∙ ap (λ (n : ℕ). n * width) (length-map xs record_of)

-- How many words each record has.
pub binding_width_lem : (x : BindingRecord) → length (binding_words_in_table x) ≡ binding_width
unfolding binding_words_in_table
binding_width_lem x = refl

pub buffer_width_lem : (x : BufferRecord) → length (buffer_words_in_table x) ≡ buffer_width
unfolding buffer_words_in_table
buffer_width_lem x = refl

pub variable_width_lem : (x : VariableRecord) → length (variable_words_in_table x) ≡ variable_width
unfolding variable_words_in_table
variable_width_lem x = refl

pub type_width_lem : (x : TypeRecord) → length (type_words_in_table x) ≡ type_width
unfolding type_words_in_table
type_width_lem x = refl

abbrev pub node_rows : List (Node Text) → List ℕ
node_rows = rows_of_all type_words_in_table type_record

abbrev pub variable_rows_of : List (CBufferVariable Text Text) → List ℕ
variable_rows_of = rows_of_all variable_words_in_table variable_record

-- A type appends the rows of its nodes.
mutual
  unfolding append_type append_members nodes_of nodes_of_members joined

  type_appends_rows : (mn : Text) (mo : ℕ) (t : TypeDesc Text) (w : List ℕ) → append_type mn mo t w ≡ w ++ node_rows (nodes_of mn mo t)
  type_appends_rows mn mo (type_desc k n ms) w =
      let node : Node Text = record { numbers = k; member_count = member_count ms; name = n; member_name = mn; member_offset = mo } in
      members_append_rows ms (w ++ type_words_in_table (type_record node)) ∙ append_assoc w (type_words_in_table (type_record node)) (node_rows (nodes_of_members ms))

  members_append_rows : (ms : Members Text) (w : List ℕ) → append_members ms w ≡ w ++ node_rows (nodes_of_members ms)
  members_append_rows no_member w = sym (append-nil w)
  members_append_rows (member n o t ms) w =
      members_append_rows ms (append_type n o t w)
      ∙ ap (λ (l : List ℕ). l ++ node_rows (nodes_of_members ms)) (type_appends_rows n o t w)
      ∙ rows_append_after type_words_in_table type_record w (nodes_of n o t) (nodes_of_members ms)

pub bindings_append_rows : (xs : List (ResourceBinding Text)) (w : List ℕ) → append_all append_binding xs w ≡ w ++ rows_of_all binding_words_in_table binding_record xs
unfolding append_all append_binding joined
bindings_append_rows [] w = sym (append-nil w)
bindings_append_rows (x ∷ xs) w =
    bindings_append_rows xs (w ++ binding_words_in_table (binding_record x))
    ∙ append_assoc w (binding_words_in_table (binding_record x)) (rows_of_all binding_words_in_table binding_record xs)

-- Variables append their rows, and the rows of their types' nodes.
variables_append_rows : (xs : List (CBufferVariable Text Text)) (w : List ℕ × List ℕ)
    → append_all append_variable xs w ≡ (w.0 ++ variable_rows_of xs, w.1 ++ node_rows (all_nodes xs))
unfolding append_all append_variable joined all_nodes
variables_append_rows [] w = λ i. (sym (append-nil w.0) i, sym (append-nil w.1) i)
variables_append_rows (x ∷ xs) w =
    let own = nodes_of (in_chunk 0 0) 0 x.var_type in
    let rows : (w.0 ++ variable_words_in_table (variable_record x)) ++ variable_rows_of xs ≡ w.0 ++ variable_rows_of (x ∷ xs) =
    append_assoc w.0 (variable_words_in_table (variable_record x)) (variable_rows_of xs) in
    let nodes : append_type (in_chunk 0 0) 0 x.var_type w.1 ++ node_rows (all_nodes xs) ≡ w.1 ++ node_rows (own ++ all_nodes xs) =
    ap (λ (l : List ℕ). l ++ node_rows (all_nodes xs)) (type_appends_rows (in_chunk 0 0) 0 x.var_type w.1)
    ∙ rows_append_after type_words_in_table type_record w.1 own (all_nodes xs) in
    variables_append_rows xs (w.0 ++ variable_words_in_table (variable_record x), append_type (in_chunk 0 0) 0 x.var_type w.1) ∙ λ i. (rows i, nodes i)

nodes_append : (xs ys : List (CBufferVariable Text Text)) → all_nodes (xs ++ ys) ≡ all_nodes xs ++ all_nodes ys
unfolding all_nodes
nodes_append [] ys = refl
nodes_append (x ∷ xs) ys =
    let own = nodes_of (in_chunk 0 0) 0 x.var_type in
    ap (λ (l : List (Node Text)). own ++ l) (nodes_append xs ys) ∙ sym (append_assoc own (all_nodes xs) (all_nodes ys))

-- Buffers append their rows, those of their variables, and those of the variables' types.
pub buffers_append_rows : (xs : List (CBufferDef Text Text)) (w : List ℕ × (List ℕ × List ℕ))
    → append_all append_buffer xs w
    ≡ (w.0 ++ rows_of_all buffer_words_in_table buffer_record xs, (w.1.0 ++ variable_rows_of (all_variables xs), w.1.1 ++ node_rows (all_nodes (all_variables xs))))
unfolding append_all append_buffer joined all_variables all_nodes
buffers_append_rows [] w = λ i. (sym (append-nil w.0) i, (sym (append-nil w.1.0) i, sym (append-nil w.1.1) i))
buffers_append_rows (x ∷ xs) w =
    let own = x.variables in
    let others = all_variables xs in
    let rows : (w.0 ++ buffer_words_in_table (buffer_record x)) ++ rows_of_all buffer_words_in_table buffer_record xs
    ≡ w.0 ++ rows_of_all buffer_words_in_table buffer_record (x ∷ xs) =
    append_assoc w.0 (buffer_words_in_table (buffer_record x)) (rows_of_all buffer_words_in_table buffer_record xs) in
    let variables : (append_all append_variable own w.1).0 ++ variable_rows_of others ≡ w.1.0 ++ variable_rows_of (own ++ others) =
    ap (λ (l : List ℕ × List ℕ). l.0 ++ variable_rows_of others) (variables_append_rows own w.1)
    ∙ rows_append_after variable_words_in_table variable_record w.1.0 own others in
    let nodes : (append_all append_variable own w.1).1 ++ node_rows (all_nodes others) ≡ w.1.1 ++ node_rows (all_nodes (own ++ others)) =
    ap (λ (l : List ℕ × List ℕ). l.1 ++ node_rows (all_nodes others)) (variables_append_rows own w.1)
    ∙ rows_append_after type_words_in_table type_record w.1.1 (all_nodes own) (all_nodes others)
    ∙ ap (λ (l : List (Node Text)). w.1.1 ++ node_rows l) (sym (nodes_append own others)) in
    buffers_append_rows xs (w.0 ++ buffer_words_in_table (buffer_record x), append_all append_variable own w.1) ∙ λ i. (rows i, (variables i, nodes i))
