-- `walk_bindings` meets its contract. The loop's law is Going; each way out, and each turn, is what reading one binding appends.
use mathlib.Core.Path.{◌≡◌}
use Prim.Native.Nat.{◌-◌}
use Rattle.read_spec.specs.Read.{read_binding, binding_stride}
use Rattle.read_tables.specs.Bindings.{append_binding, bindings_in, up_to_bindings, OnlyBindings}
use Rattle.read_tables.proofs.Loop.{Going}
use Rattle.read_tables.proofs.bindings.walk_bindings.Given as goal

abbrev pub invariant-loop : goal.invariant-loop
invariant-loop l = record {
  going : Going append_binding (read_binding l.initial.bindings.chunk.bytes.now l.initial.bindings.chunk.wide) (binding_stride l.initial.bindings.chunk.wide)
      l.initial.bindings.at l.initial.bindings.count
      l.initial.filling.capacity (up_to_bindings l.initial.filling.capacity l.initial.filling.counts) l.initial.filling.counts
      (bindings_in l.initial.filling.bindings.now) (bindings_in l.filling.bindings.now) l.filling.counts l.bindings.at (l.initial.bindings.count - l.counter);
  chunk : l.bindings.chunk ≡ l.initial.bindings.chunk;
  kept : OnlyBindings l.initial.filling l.filling;
}
