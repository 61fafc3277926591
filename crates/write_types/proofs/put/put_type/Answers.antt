-- `put_type` meets its contract: the records, padding and the descriptor, one after the other.
use native.Mathlib.Omega.{arith}
use Prim.Native.Nat.{◌/◌}
use lib.ListN.{length}
use Rattle.tables.specs.Decode.{node_from_table}
use Rattle.write_texts.specs.Scratch.{member_width}
use Rattle.write_types.proofs.Putting.{padding_near, type_put}
use Rattle.write_types.proofs.put.put_type.Goals as goal

pub put_descriptor-requires : goal.put_descriptor-requires
put_descriptor-requires c =
    omega (
      arith,
      padding_near c.put_padding.ensures.text,
      c.put_records-members.ensures.put.near,
      c.requires,
    )

pub overflow_cast-result : goal.overflow_cast-result
overflow_cast-result c =
    omega (
      arith,
      padding_near c.put_padding.ensures.text,
      c.put_records-members.ensures.put.near,
      c.requires,
    )

pub returns-clause-put : goal.returns-clause-put
returns-clause-put c =
    let args = c.args in
    type_put args.sm5 (node_from_table args.node).numbers args.name (length args.records.now / member_width) args.records.now
    (λ count e. omega (arith, e)) c.put_records-members.ensures.put c.put_padding.ensures.text
    c.put_descriptor.ensures.text
