-- `place_chunk` meets its contract: what its calls did in turn is the layout of what the tables hold, and there is room at each call.
use mathlib.Core.Path.{ap, ◌∙◌}
use native.Mathlib.Omega.{arith}
use Rattle.write_tables.proofs.Advance.{moved_to}
use Rattle.write_tables.proofs.AllChunk.{names_ready, buffers_ready, header_near, chunk_written}
use Rattle.write_tables.proofs.Writers.{still_beginning, moved_same}
use Rattle.write_tables.proofs.chunk.place_chunk.Goals as goal

pub place-requires : goal.place-requires
place-requires c =
    names_ready c.is_sm5-sm5.result c.is_wide-wide.result c.requires.sized c.begin_pools.ensures c.header_size-start.ensures c.binding_size.ensures

pub put_binding_records-requires : goal.put_binding_records-requires
put_binding_records-requires c =
    record {
      long = c.place.ensures.placed.ready.long;
      few = c.requires.sized.few_bindings;
      near = omega (arith, header_near c.is_sm5-sm5.result c.header_size-start.ensures);
    }

pub place_buffers-buffers-requires : goal.place_buffers-buffers-requires
place_buffers-buffers-requires c =
    let named = c.place.ensures in
    let written = c.put_binding_records.ensures in
    buffers_ready c.is_sm5-sm5.result c.is_wide-wide.result c.requires.sized c.begin_pools.ensures c.header_size-start.ensures c.binding_size.ensures
    c.args.r.bindings.now named.placed
    (moved_same written.same c.place.new.w.out.now.at ∙ still_beginning named.same (ap (moved_to _) c.requires.no_types)) written.scratch

pub returns-clause-written : goal.returns-clause-written
returns-clause-written c =
    let a = c.args in
    let written = c.put_binding_records.ensures in
    let placed = c.place_buffers-buffers.ensures.placed in
    chunk_written c.is_sm5-sm5.result c.is_wide-wide.result c.requires.sized c.begin_pools.ensures c.header_size-start.ensures c.binding_size.ensures
    a.r.bindings.now c.place.ensures.placed c.is_sm5-sm5.ensures c.is_wide-wide.ensures written.put written.scratch placed
    c.place_inner_name-creator.ensures.placed c.put_padding.ensures.text c.put_header.ensures.text
