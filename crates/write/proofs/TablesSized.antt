-- Readable tables are of the sizes that writing a chunk asks for, and what they decode to is what that writing takes them to hold.
use mathlib.Core.Path.{◌≡◌, sym, ap}
use mathlib.Core.List.{List}
use Prim.Native.Nat.{ℕ}
use native.Mathlib.Omega.{arith}
use Rattle.reflection.specs.declared.ResourceDef.{ResourceDef as Header}
use Rattle.reflection.specs.Contents.{Bytes, contents}
use Rattle.readable.proofs.ReadableTables.{Readable}
use Rattle.write_spec.specs.Canonical.{canonical}
use Rattle.write_texts.specs.PlacedInPool.{SourcesFit}
use Rattle.tables.specs.TableReflection.{Sized, root_at, reflection_in_tables}
use Rattle.tables.proofs.Decoded.{Decoded, decoded}

module _ {chunk edits : Bytes} {h : Header} {bindings buffers variables types : List ℕ} (r : Readable chunk edits h bindings buffers variables types) where
  as_held : Decoded h bindings buffers variables types r.def
  as_held = decoded h bindings buffers variables types r.def r.decoded

  pub texts_short : SourcesFit chunk edits
  texts_short = record { chunk_short = r.chunk_long; edits_short = r.edits_long }

  pub tables_sized : Sized h buffers types
  tables_sized = record {
    few_bindings = r.binding_count;
    few_buffers = r.buffer_count;
    few_variables = omega (arith, as_held.variables_counted, r.variable_count);
    few_nodes = omega (arith, ap (root_at types) as_held.variables_counted, as_held.nodes_counted, r.type_count);
  }

  pub same_canonical : canonical (contents chunk edits (reflection_in_tables h bindings buffers variables types)) ≡ canonical (contents chunk edits r.def)
  same_canonical = ap (λ d. canonical (contents chunk edits d)) (sym as_held.is)
