-- One call of the canonical writer, and one of `parse_rdef` on what it wrote: what the calls were lent, what they left, and what they answered, by the
-- definitions that the contracts of `write_rdef_canonical` (crates/write/src/lib.rt) and `parse_rdef` (crates/read/src/lib.rt) cite.
use Rattle.reflection.specs.Outcome.{Outcome}
use Rattle.std.specs.Prelude.{◌≡◌, List, ℕ, length, replicate, Option, Ok, Err}
use Rattle.reflection.specs.declared.Text.{Text}
use Rattle.reflection.specs.declared.ResourceDef.{ResourceDef as Header}
use Rattle.reflection.specs.declared.names.Texts.{Texts}
use Rattle.tables.specs.declared.lent.Reflection.{Reflection}
use Rattle.reflection.specs.Limits.{binding_table, buffer_table, variable_table, type_table}
use Rattle.reflection.specs.Reflection.{ResourceDef}
use Rattle.tables.specs.Tables.{binding_rows, buffer_rows, variable_rows, type_rows, table}
use Rattle.reflection.specs.Contents.{Bytes}
use Rattle.read_spec.specs.Step.{full_room}
use Rattle.read_spec.specs.Read.{read}
use Rattle.read.specs.Answer.{Parsed}
use Rattle.read.specs.Parsed.{parsed_of}
use Rattle.readable.specs.Readable.{table_contents}
use Rattle.text_output.specs.Written.{output_of}
use Rattle.write_spec.specs.Outcome.{write}
use Rattle.whole_tables.specs.declared.WholeTables.{WholeTables}
use Rattle.theorem_functions.specs.declared.WrittenAndRead.{WrittenAndRead}

-- What is lent: the chunk and the text of edits, the header, the four tables, and scratch and output with their old contents.
pub record Lent : Type 0 where
  pub chunk : Bytes
  pub edits : Bytes
  pub header : Header
  pub bindings : List ℕ
  pub buffers : List ℕ
  pub variables : List ℕ
  pub types : List ℕ
  pub scratch : List ℕ
  pub out : Bytes

abbrev pub lent : Bytes → Bytes → Header → List ℕ → List ℕ → List ℕ → List ℕ → List ℕ → Bytes → Lent
lent chunk edits header bindings buffers variables types scratch out =
    record {
      chunk = chunk;
      edits = edits;
      header = header;
      bindings = bindings;
      buffers = buffers;
      variables = variables;
      types = types;
      scratch = scratch;
      out = out;
    }

-- The same of what the parameters hold.
abbrev pub lent_in : Texts → Reflection → List ℕ → Bytes → Lent
lent_in texts r scratch out = lent texts.chunk.now texts.edits.now r.def r.bindings.now r.buffers.now r.variables.now r.types.now scratch out

-- What is left: scratch and output, and the four tables that the written bytes were read into.
pub record Left : Type 0 where
  pub scratch : List ℕ
  pub out : Bytes
  pub found_bindings : List ℕ
  pub found_buffers : List ℕ
  pub found_variables : List ℕ
  pub found_types : List ℕ

abbrev pub left : List ℕ → Bytes → List ℕ → List ℕ → List ℕ → List ℕ → Left
left scratch out bindings buffers variables types =
    record { scratch = scratch; out = out; found_bindings = bindings; found_buffers = buffers; found_variables = variables; found_types = types }

abbrev pub left_in : List ℕ → Bytes → WholeTables → Left
left_in scratch out found = left scratch out found.bindings found.buffers found.variables found.types

-- The reflection that the lent header, tables and buffers hold; `none` where they hold none.
abbrev pub reflection_in : Lent → Option (ResourceDef Bytes Bytes)
reflection_in l = table_contents l.chunk l.edits l.header l.bindings l.buffers l.variables l.types

-- What the writer comes to: the canonical form, or the refusal.
abbrev pub form : Lent → Outcome Bytes
form l = write (length l.scratch) (length l.out) (reflection_in l)

-- What reading the written bytes with the whole room comes to.
unfoldable pub read_back : Outcome Bytes → Outcome (ResourceDef Text Text)
read_back (Ok bytes) = read full_room bytes
read_back (Err e) = Err e

-- So many bytes were written, and this is what they read as.
abbrev pub wrote : ℕ → Parsed → Outcome WrittenAndRead
wrote n parsed = Ok (record { length = n; parsed = parsed })

-- The answer's two cases.
unfoldable pub written_and_read : Outcome Bytes → Outcome WrittenAndRead
written_and_read (Ok bytes) = wrote (length bytes) (parsed_of (read full_room bytes))
written_and_read (Err e) = Err e

-- How many bytes were written, and the header of what they read as.
unfoldable pub with_length : ℕ → Parsed → Outcome (ℕ × Header)
with_length n (Ok h) = Ok (n, h)
with_length n (Err e) = Err e

unfoldable pub what_was_read : Outcome WrittenAndRead → Outcome (ℕ × Header)
what_was_read (Ok written) = with_length written.length written.parsed
what_was_read (Err e) = Err e

-- What `write_and_read` answers and leaves: every word and every byte.
pub record WroteAndRead (l : Lent) (after : Left) (answer : Outcome WrittenAndRead) : Type 0 where
  pub answer_is : answer ≡ written_and_read (form l)
  pub out-is : after.out ≡ output_of (form l) l.out
  pub scratch_is : after.scratch ≡ replicate (length l.scratch) 0
  pub bindings_are : after.found_bindings ≡ table binding_rows (read_back (form l)) binding_table
  pub buffers_are : after.found_buffers ≡ table buffer_rows (read_back (form l)) buffer_table
  pub variables_are : after.found_variables ≡ table variable_rows (read_back (form l)) variable_table
  pub types_are : after.found_types ≡ table type_rows (read_back (form l)) type_table
