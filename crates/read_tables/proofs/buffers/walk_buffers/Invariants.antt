-- `walk_buffers` meets its contract. The loop's law is Going; each way out, and each turn, is what reading one buffer appends.
use mathlib.Core.Path.{◌≡◌}
use Prim.Native.Nat.{◌-◌}
use Rattle.reflection.specs.Strides.{buffer_stride}
use Rattle.read_spec.specs.Read.{read_buffer}
use Rattle.read_tables.specs.Buffers.{append_buffer, buffers_in, up_to_buffers, KeptBindings}
use Rattle.read_tables.proofs.Loop.{Going}
use Rattle.read_tables.proofs.buffers.walk_buffers.Given as goal

abbrev pub invariant-loop : goal.invariant-loop
invariant-loop l = record {
  going : Going append_buffer (read_buffer l.initial.buffers.chunk.bytes.now l.initial.buffers.chunk.sm5)
      buffer_stride l.initial.buffers.at l.initial.buffers.count
      l.initial.filling.capacity (up_to_buffers l.initial.filling.capacity l.initial.filling.counts) l.initial.filling.counts
      (buffers_in l.initial.buffer_table l.initial.variable_table l.initial.filling.types.now)
      (buffers_in l.buffer_table l.variable_table l.filling.types.now) l.filling.counts l.buffers.at (l.initial.buffers.count - l.counter);
  chunk : l.buffers.chunk ≡ l.initial.buffers.chunk;
  kept : KeptBindings l.initial.filling l.filling l.buffer_table l.variable_table;
}
