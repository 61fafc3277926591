-- The room that reading takes is as many records as the reflection has, and that is within the full room where the room is kept: by sums over the lists.
use mathlib.Core.Path.{◌≡◌, refl, ap, sym, ◌∙◌, subst}
use mathlib.Core.List.{List, [], ◌∷◌, ◌++◌}
use mathlib.Core.Bool.{true, ◌&&◌}
use Prim.Native.Nat.{ℕ, ◌+◌}
use native.Mathlib.Omega.{arith}
use borrow.Author.Tests.{leb-true}
use lib.Dec.{leb}
use lib.ListN.{length, length-append}
use Rattle.text.proofs.Bools.{and-true}
use Rattle.reflection.specs.Limits.{binding_room, buffer_room, variable_room, type_room}
use Rattle.reflection.specs.Reflection.{TypeDesc, type_desc, Members, no_member, member, CBufferVariable, CBufferDef, ResourceBinding, ResourceDef}
use Rattle.tables.specs.Nodes.{nodes_of, nodes_of_members}
use Rattle.reflection.specs.Reflection.{all_variables}
use Rattle.reflection.specs.Contents.{Bytes}
use Rattle.read_spec.specs.Step.{Room, room, full_room}
use Rattle.readable.specs.Readable.{node_count, room_kept}
use Rattle.theorem_round_trip.proofs.Rooms.{plus, Enough, same_room}
use Rattle.theorem_round_trip.proofs.Steps.{type_size, members_size}
use Rattle.theorem_round_trip.proofs.Tables.{total}
use Rattle.theorem_round_trip.proofs.Variables.{variable_cost}
use Rattle.theorem_round_trip.proofs.Buffers.{buffer_cost}

abbrev pub binding_cost : ResourceBinding Bytes → Room
binding_cost b = room 1 0 0 0

abbrev pub read_cost : ResourceDef Bytes Bytes → Room
read_cost r = plus (total binding_cost r.bindings) (total buffer_cost r.constant_buffers)

mutual
  unfolding type_size nodes_of

  length_nodes : (t : TypeDesc Bytes) (n : Bytes) (o : ℕ) → type_size t ≡ length (nodes_of n o t)
  length_nodes (type_desc k n ms) m o = omega (arith, length_member_nodes ms)

  length_member_nodes : (ms : Members Bytes) → members_size ms ≡ length (nodes_of_members ms)
  length_member_nodes no_member = refl
  length_member_nodes (member n o t ms) = omega (arith, length_nodes t n o, length_member_nodes ms, length-append (nodes_of n o t) (nodes_of_members ms))

node_count_append : (xs ys : List (CBufferVariable Bytes Bytes)) → node_count (xs ++ ys) ≡ node_count xs + node_count ys
unfolding node_count
node_count_append [] ys = omega arith
node_count_append (x ∷ xs) ys = omega (arith, node_count_append xs ys)

total_bindings : (bs : List (ResourceBinding Bytes)) → total binding_cost bs ≡ room (length bs) 0 0 0
total_bindings [] = refl
total_bindings (b ∷ bs) =
    ap (plus (room 1 0 0 0)) (total_bindings bs) ∙ same_room _ (room (length (b ∷ bs)) 0 0 0) (omega arith) (omega arith) (omega arith) (omega arith)

total_variables : (vs : List (CBufferVariable Bytes Bytes)) → total variable_cost vs ≡ room 0 0 (length vs) (node_count vs)
unfolding node_count
total_variables [] = refl
total_variables (v ∷ vs) =
    ap (plus (variable_cost v)) (total_variables vs)
    ∙ same_room (plus (variable_cost v) (room 0 0 (length vs) (node_count vs)))
    (room 0 0 (length (v ∷ vs)) (length (nodes_of v.name 0 v.var_type) + node_count vs))
    (omega arith) (omega arith) (omega arith) (omega (arith, length_nodes v.var_type v.name 0))

total_buffers : (bs : List (CBufferDef Bytes Bytes)) → total buffer_cost bs ≡ room 0 (length bs) (length (all_variables bs)) (node_count (all_variables bs))
unfolding all_variables node_count
total_buffers [] = refl
total_buffers (b ∷ bs) =
    (λ i. plus (plus (room 0 1 0 0) (total_variables b.variables i)) (total_buffers bs i))
    ∙ same_room (plus (plus (room 0 1 0 0) (room 0 0 (length b.variables) (node_count b.variables)))
    (room 0 (length bs) (length (all_variables bs)) (node_count (all_variables bs))))
    (room 0 (length (b ∷ bs)) (length (b.variables ++ all_variables bs)) (node_count (b.variables ++ all_variables bs)))
    (omega arith) (omega arith) (omega (arith, length-append b.variables (all_variables bs)))
    (omega (arith, node_count_append b.variables (all_variables bs)))

pub room_enough_lem : (r : ResourceDef Bytes Bytes) → room_kept r ≡ true → Enough (read_cost r) full_room
unfolding room_kept
room_enough_lem r e =
    let vs = all_variables r.constant_buffers in
    let (bindings, e₁) = and-true (leb (length r.bindings) binding_room)
    (leb (length r.constant_buffers) buffer_room && (leb (length vs) variable_room && leb (node_count vs) type_room)) e in
    let (buffers, e₂) = and-true (leb (length r.constant_buffers) buffer_room) (leb (length vs) variable_room && leb (node_count vs) type_room) e₁ in
    let (variables, types) = and-true (leb (length vs) variable_room) (leb (node_count vs) type_room) e₂ in
    let cost : read_cost r ≡ room (length r.bindings) (length r.constant_buffers) (length vs) (node_count vs) =
    (λ i. plus (total_bindings r.bindings i) (total_buffers r.constant_buffers i))
    ∙ same_room (plus (room (length r.bindings) 0 0 0) (room 0 (length r.constant_buffers) (length vs) (node_count vs)))
    (room (length r.bindings) (length r.constant_buffers) (length vs) (node_count vs))
    (omega arith) (omega arith) (omega arith) (omega arith) in
    subst (λ c. Enough c full_room) (sym cost) (record {
      bindings = leb-true (length r.bindings) binding_room bindings;
      buffers = leb-true (length r.constant_buffers) buffer_room buffers;
      variables = leb-true (length vs) variable_room variables;
      types = leb-true (node_count vs) type_room types;
    })
