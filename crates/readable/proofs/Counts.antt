-- What decoding builds has as many nodes, variables and buffers as there were records, since it uses each record once; and the names stay what they were.
use Rattle.std.specs.Prelude.{Some}
use mathlib.Core.Path.{◌≡◌, refl, sym, ap, ◌∙◌}
use mathlib.Core.List.{List, [], ◌∷◌, ◌++◌, map, map-append}
use Prim.Native.Nat.{ℕ, zero, suc, ◌+◌}
use native.Mathlib.Omega.{arith}
use lib.Dec.{leb}
use lib.ListN.{length, take, drop, length-append, take-append-drop}
use Rattle.reflection.specs.declared.Text.{Text}
use Rattle.reflection.specs.declared.CBufferDef.{CBufferDef as BufferRecord}
use Rattle.reflection.specs.declared.CBufferVariable.{CBufferVariable as VariableRecord}
use Rattle.reflection.specs.Reflection.{TypeDesc, type_desc, Members, no_member, member, CBufferVariable, CBufferDef, map_type, map_members}
use Rattle.reflection.specs.Reflection.{map_variable, map_buffer}
use Rattle.tables.specs.Nodes.{Node, Built, nodes_of, nodes_of_members, members_from_nodes, type_from_nodes, type_levels}
use Rattle.reflection.specs.Reflection.{all_variables}
use Rattle.tables.specs.Decode.{variable_from_table, buffer_from_table, variables_from, buffers_from}
use Rattle.tables.proofs.Options.{some_was, then_was, check_was}
use Rattle.readable.specs.Readable.{node_count}

-- The nodes of a type and those left are the nodes that there were.
module _ {N : Type 0} where
  abbrev after_members : Members N × List (Node N) → ℕ
  after_members p = length (nodes_of_members p.0) + length p.1

  abbrev after_type : N → ℕ → Built N → ℕ
  after_type n o t = length (nodes_of n o t.type) + length t.left

  no_member_lem : (xs : List (Node N)) (ms : Members N × List (Node N)) → Some (no_member, xs) ≡ Some ms → length xs ≡ after_members ms
  unfolding nodes_of_members
  no_member_lem xs ms e = let same : (no_member, xs) ≡ ms = cc in omega (arith, ap after_members same)

  one_member : (mn : N) (mo : ℕ) (t : TypeDesc N) (long left : ℕ) (others ms : Members N × List (Node N))
      → Some (member mn mo t others.0, others.1) ≡ Some ms → long ≡ length (nodes_of mn mo t) + left → left ≡ after_members others → long ≡ after_members ms
  unfolding nodes_of_members
  one_member mn mo t long left others ms e own rest =
      let same : (member mn mo t others.0, others.1) ≡ ms = cc in
      omega (arith, ap after_members same, length-append (nodes_of mn mo t) (nodes_of_members others.0))

  members_used : (levels : ℕ) → ((n : N) (o : ℕ) (xs : List (Node N)) (t : Built N) → type_from_nodes levels xs ≡ Some t → length xs ≡ after_type n o t)
      → (n : ℕ) (xs : List (Node N)) (ms : Members N × List (Node N)) → members_from_nodes (type_from_nodes levels) n xs ≡ Some ms → length xs ≡ after_members ms
  unfolding members_from_nodes
  members_used levels used zero xs ms e = no_member_lem xs ms e
  members_used levels used (suc n) xs ms e =
      let first = then_was (type_from_nodes levels xs) _ ms e in
      let t = first.0 in
      let others = then_was (members_from_nodes (type_from_nodes levels) n t.left) _ ms first.2 in
      one_member t.member_name t.member_offset t.type (length xs) (length t.left) others.0 ms others.2
      (used t.member_name t.member_offset xs t first.1) (members_used levels used n t.left others.0 others.1)

  one_type : (n : N) (o : ℕ) (x : Node N) (long : ℕ) (ms : Members N × List (Node N)) (t : Built N)
      → Some (record { type = type_desc x.numbers x.name ms.0; member_name = x.member_name; member_offset = x.member_offset; left = ms.1 }) ≡ Some t
      → long ≡ after_members ms → suc long ≡ after_type n o t
  unfolding nodes_of
  one_type n o x long ms t e rest =
      let same : _ ≡ t = some_was e in
      omega (arith, ap (after_type n o) same)

  pub type_used : (levels : ℕ) (n : N) (o : ℕ) (xs : List (Node N)) (t : Built N) → type_from_nodes levels xs ≡ Some t → length xs ≡ after_type n o t
  unfolding type_from_nodes
  type_used zero n o xs t e = absurd (let apart : ◌≡◌ {A = ℕ} 0 1 = cc in omega arith)
  type_used (suc levels) n o [] t e = absurd (let apart : ◌≡◌ {A = ℕ} 0 1 = cc in omega arith)
  type_used (suc levels) n o (x ∷ xs) t e =
      let below = then_was (members_from_nodes (type_from_nodes levels) x.member_count xs) _ t e in
      one_type n o x (length xs) below.0 t below.2 (members_used levels (type_used levels) x.member_count xs below.0 below.1)

-- The variables that are built use all nodes, and are as many as their records.
pub record AllUsed (vs : List VariableRecord) (xs : List (Node Text)) (typed : List (CBufferVariable Text Text)) : Type 0 where
  pub variables : length typed ≡ length vs
  pub nodes : node_count typed ≡ length xs

no_variable : (typed : List (CBufferVariable Text Text)) → Some [] ≡ Some typed → AllUsed [] [] typed
unfolding node_count
no_variable typed e = let same : [] ≡ typed = cc in record { variables = ap length (sym same); nodes = ap node_count (sym same) }

one_variable : (v : VariableRecord) (t : Built Text) (vs : List VariableRecord) (xs : List (Node Text)) (others typed : List (CBufferVariable Text Text))
    → Some (variable_from_table v t.type ∷ others) ≡ Some typed → length xs ≡ after_type v.name 0 t → AllUsed vs t.left others → AllUsed (v ∷ vs) xs typed
unfolding node_count variable_from_table
one_variable v t vs xs others typed e own rest =
    let same : variable_from_table v t.type ∷ others ≡ typed = cc in
    record { variables = omega (arith, ap length same, rest.variables); nodes = omega (arith, ap node_count same, rest.nodes) }

pub variables_used : (vs : List VariableRecord) (xs : List (Node Text)) (typed : List (CBufferVariable Text Text)) → variables_from vs xs ≡ Some typed
    → AllUsed vs xs typed
unfolding variables_from
variables_used [] [] typed e = no_variable typed e
variables_used [] (x ∷ xs) typed e = absurd (let apart : ◌≡◌ {A = ℕ} 0 1 = cc in omega arith)
variables_used (v ∷ vs) xs typed e =
    let first = then_was (type_from_nodes type_levels xs) _ typed e in
    let t = first.0 in
    let others = then_was (variables_from vs t.left) _ typed first.2 in
    one_variable v t vs xs others.0 typed others.2 (type_used type_levels v.name 0 xs t first.1)
    (variables_used vs t.left others.0 others.1)

-- The buffers that are built are as many as their records, and have all variables.
pub record AllTaken (cs : List BufferRecord) (vs : List (CBufferVariable Text Text)) (bs : List (CBufferDef Text Text)) : Type 0 where
  pub buffers : length bs ≡ length cs
  pub variables : all_variables bs ≡ vs

no_buffer : (bs : List (CBufferDef Text Text)) → Some [] ≡ Some bs → AllTaken [] [] bs
unfolding all_variables
no_buffer bs e = let same : [] ≡ bs = cc in record { buffers = ap length (sym same); variables = ap all_variables (sym same) }

one_buffer_lem : (c : BufferRecord) (cs : List BufferRecord) (vs : List (CBufferVariable Text Text)) (others bs : List (CBufferDef Text Text))
    → Some (buffer_from_table c (take c.variable_count vs) ∷ others) ≡ Some bs → AllTaken cs (drop c.variable_count vs) others → AllTaken (c ∷ cs) vs bs
unfolding all_variables buffer_from_table
one_buffer_lem c cs vs others bs e rest =
    let same : buffer_from_table c (take c.variable_count vs) ∷ others ≡ bs = cc in
    record {
      buffers = ap length (sym same) ∙ ap suc rest.buffers;
      variables = ap all_variables (sym same) ∙ ap (λ ws. take c.variable_count vs ++ ws) rest.variables ∙ take-append-drop c.variable_count vs;
    }

pub buffers_taken : (cs : List BufferRecord) (vs : List (CBufferVariable Text Text)) (bs : List (CBufferDef Text Text)) → buffers_from cs vs ≡ Some bs
    → AllTaken cs vs bs
unfolding buffers_from
buffers_taken [] [] bs e = no_buffer bs e
buffers_taken [] (v ∷ vs) bs e = absurd (let apart : ◌≡◌ {A = ℕ} 0 1 = cc in omega arith)
buffers_taken (c ∷ cs) vs bs e =
    let fits = check_was (leb c.variable_count (length vs)) _ bs e in
    let others = then_was (buffers_from cs (drop c.variable_count vs)) _ bs fits.1 in
    one_buffer_lem c cs vs others.0 bs others.2 (buffers_taken cs (drop c.variable_count vs) others.0 others.1)

-- Other names and defaults leave the counts.
module _ {N M : Type 0} (f : N → M) where
  mutual
    unfolding nodes_of map_type map_members

    map_nodes : (t : TypeDesc N) (n : N) (m : M) (a b : ℕ) → length (nodes_of m b (map_type f t)) ≡ length (nodes_of n a t)
    map_nodes (type_desc k n ms) n' m a b = ap suc (map_member_nodes ms)

    map_member_nodes : (ms : Members N) → length (nodes_of_members (map_members f ms)) ≡ length (nodes_of_members ms)
    map_member_nodes no_member = refl
    map_member_nodes (member n o t ms) =
        length-append (nodes_of (f n) o (map_type f t)) (nodes_of_members (map_members f ms))
        ∙ omega (arith, map_nodes t n (f n) o o, map_member_nodes ms, length-append (nodes_of n o t) (nodes_of_members ms))

  module _ {D E : Type 0} (g : D → E) where
    pub map_node_count : (vs : List (CBufferVariable N D)) → node_count (map (map_variable f g) vs) ≡ node_count vs
    unfolding node_count map_variable
    map_node_count [] = refl
    map_node_count (v ∷ vs) = omega (arith, map_nodes v.var_type v.name (f v.name) 0 0, map_node_count vs)

    pub variables_map : (bs : List (CBufferDef N D)) → all_variables (map (map_buffer f g) bs) ≡ map (map_variable f g) (all_variables bs)
    unfolding all_variables map_buffer
    variables_map [] = refl
    variables_map (b ∷ bs) = ap (λ vs. map (map_variable f g) b.variables ++ vs) (variables_map bs)
        ∙ sym (map-append (map_variable f g) b.variables (all_variables bs))
