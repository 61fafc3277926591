-- Vocabulary of internal contracts: no contract of an exported function and no demand cites it.
-- Each of the four tables is as long after a call as before it.
use Rattle.std.specs.Prelude.{◌≡◌, length}
use Rattle.tables.specs.declared.lent.Tables.{Tables}

pub record TablesAsLong (before after : Tables) : Type 0 where
  pub bindings : length after.bindings.now ≡ length before.bindings.now
  pub buffers : length after.buffers.now ≡ length before.buffers.now
  pub variables : length after.variables.now ≡ length before.variables.now
  pub types : length after.types.now ≡ length before.types.now
