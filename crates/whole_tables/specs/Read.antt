-- What a chunk reads as, in tables that are lent back with the header.
use Rattle.std.specs.Prelude.{◌≡◌, List, ℕ, length, Ok, Err}
use Rattle.std.specs.Borrow.{Fml, MutBor}
use Rattle.std.specs.Io.BufRead.{Rests}
use Rattle.reflection.specs.Outcome.{Outcome}
use Rattle.reflection.specs.Limits.{binding_table, buffer_table, variable_table, type_table}
use Rattle.tables.specs.declared.lent.Reflection.{Reflection}
use Rattle.read.specs.Parsed.{read_into, parsed_of, ParsedInto}
use Rattle.whole_tables.specs.declared.WholeTables.{WholeTables}
use Rattle.whole_tables.specs.contracts.WholeTables.{the_row}

-- Each table is as long as document 01's whole room needs.
pub record WholeRoom (t : WholeTables) : Type 0 where
  pub bindings : length t.bindings ≡ binding_table
  pub buffers : length t.buffers ≡ buffer_table
  pub variables : length t.variables ≡ variable_table
  pub types : length t.types ≡ type_table

unfoldable pub ReadAs : List ℕ → WholeTables → Outcome Reflection → Type 0
ReadAs chunk t (Ok r) =
    ParsedInto (read_into chunk t.bindings t.buffers t.variables t.types) t.bindings t.buffers t.variables t.types
    r.bindings.now r.buffers.now r.variables.now r.types.now (Ok r.def)
ReadAs chunk t (Err e) = Err e ≡ parsed_of (read_into chunk t.bindings t.buffers t.variables t.types)

-- What the tables hold once what was lent of them is let go, after a refusal too: what reading leaves.
abbrev pub LeavesRead : List ℕ → MutBor WholeTables → Fml
LeavesRead chunk t =
    let outcome = read_into chunk t.now.bindings t.now.buffers t.now.variables t.now.types in
    Rests the_row t (λ last. ParsedInto outcome t.now.bindings t.now.buffers t.now.variables t.now.types
    last.bindings last.buffers last.variables last.types (parsed_of outcome))
