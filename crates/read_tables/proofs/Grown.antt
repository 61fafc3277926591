-- How the numbers of records grow in a turn of each walk: by its own record, and by what the walk below it read.
use Prim.Native.Nat.{◌<◌}
use native.Mathlib.Omega.{arith}
use Rattle.read_spec.specs.declared.Counts.{Counts}
use Rattle.read_types.specs.Walked.{AllGrew}
use Rattle.read_types.specs.Walk.{up_to_types}
use Rattle.read_types.proofs.Grown.{further}
use Rattle.read_tables.specs.Bindings.{up_to_bindings}
use Rattle.read_tables.specs.Variables.{up_to_variables}
use Rattle.read_tables.specs.Buffers.{up_to_buffers}
use Rattle.read_tables.proofs.Taking.{with_binding, with_buffer, with_variable}

module _ (capacity : Counts) {n next : Counts} where
  pub bindings_grown : AllGrew (up_to_bindings capacity n) n next → next.bindings < capacity.bindings → AllGrew (up_to_bindings capacity n) n (with_binding next)
  bindings_grown a free = record {
    bindings = record { low = omega (arith, a.bindings.low); high = omega arith };
    buffers = a.buffers;
    variables = a.variables;
    types = a.types;
  }

  pub variables_grown : {m : Counts} → AllGrew (up_to_variables capacity n) n next → next.variables < capacity.variables
      → AllGrew (up_to_types capacity (with_variable next)) (with_variable next) m → AllGrew (up_to_variables capacity n) n m
  variables_grown a free b = record {
    bindings = further a.bindings b.bindings (omega arith) a.bindings.high;
    buffers = further a.buffers b.buffers (omega arith) a.buffers.high;
    variables = further a.variables b.variables (omega arith) (omega arith);
    types = further a.types b.types (omega arith) (omega arith);
  }

  pub buffers_grown : {m : Counts} → AllGrew (up_to_buffers capacity n) n next → next.buffers < capacity.buffers
      → AllGrew (up_to_variables capacity (with_buffer next)) (with_buffer next) m → AllGrew (up_to_buffers capacity n) n m
  buffers_grown a free b = record {
    bindings = further a.bindings b.bindings (omega arith) a.bindings.high;
    buffers = further a.buffers b.buffers (omega arith) (omega arith);
    variables = further a.variables b.variables (omega arith) (omega arith);
    types = further a.types b.types (omega arith) (omega arith);
  }
