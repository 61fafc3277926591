-- The four tables that are lent to be filled, before and after a call, and a reflection of them.
use Rattle.std.specs.Prelude.{◌≡◌, List, ℕ, ◌++◌, ◌-◌, ◌*◌, length, take, replicate}
use Rattle.reflection.specs.declared.ResourceDef.{ResourceDef}
use Rattle.tables.specs.Records.{binding_width, buffer_width, variable_width, type_width}
use Rattle.tables.specs.declared.lent.Tables.{Tables}
use Rattle.tables.specs.declared.lent.Reflection.{Reflection}

-- The tables are still those that were lent.
pub record SameTables (before after : Tables) : Type 0 where
  pub bindings : after.bindings.ghost_name ≡ before.bindings.ghost_name
  pub buffers : after.buffers.ghost_name ≡ before.buffers.ghost_name
  pub variables : after.variables.ghost_name ≡ before.variables.ghost_name
  pub types : after.types.ghost_name ≡ before.types.ghost_name

-- Every word is 0.
pub record TablesZeroed (before after : Tables) : Type 0 where
  pub bindings : after.bindings.now ≡ replicate (length before.bindings.now) 0
  pub buffers : after.buffers.now ≡ replicate (length before.buffers.now) 0
  pub variables : after.variables.now ≡ replicate (length before.variables.now) 0
  pub types : after.types.now ≡ replicate (length before.types.now) 0

-- The first words of a table, and zeros after them.
abbrev pub cut : ℕ → List ℕ → List ℕ
cut n words = take n words ++ replicate (length words - n) 0

-- Every word after the records that the header counts is 0.
pub record TablesCut (def : ResourceDef) (before after : Tables) : Type 0 where
  pub bindings : after.bindings.now ≡ cut (def.binding_count * binding_width) before.bindings.now
  pub buffers : after.buffers.now ≡ cut (def.buffer_count * buffer_width) before.buffers.now
  pub variables : after.variables.now ≡ cut (def.variable_count * variable_width) before.variables.now
  pub types : after.types.now ≡ cut (def.type_count * type_width) before.types.now

-- A reflection of this header and of what stands in the tables.
pub record ReflectionIn (def : ResourceDef) (tables : Tables) (r : Reflection) : Type 0 where
  pub header : r.def ≡ def
  pub bindings : r.bindings.now ≡ tables.bindings.now
  pub buffers : r.buffers.now ≡ tables.buffers.now
  pub variables : r.variables.now ≡ tables.variables.now
  pub types : r.types.now ≡ tables.types.now
