-- Vocabulary of internal contracts: no contract of an exported function and no demand cites it.
-- The walk of the buffers, each with its variables and their types: what it leaves.
use Rattle.std.specs.Prelude.{◌≡◌, Bool, List, ◌++◌, ℕ, ◌+◌, ◌*◌, length, take}
use Rattle.words.specs.Words.{word_at}
use Rattle.reflection.specs.Limits.{buffer_width, variable_width}
use Rattle.reflection.specs.Strides.{buffer_stride}
use Rattle.reflection.specs.declared.Text.{Text}
use Rattle.reflection.specs.declared.CBufferDef.{CBufferDef as BufferRecord}
use Rattle.reflection.specs.Reflection.{CBufferDef}
use Rattle.tables.specs.Records.{buffer_words_in_table}
use Rattle.tables.specs.Tables.{buffer_record}
use Rattle.read_spec.specs.declared.Counts.{Counts}
use Rattle.read_spec.specs.Step.{Room}
use Rattle.read_spec.specs.Read.{read_buffer}
use Rattle.read_types.specs.Progress.{Progress, append_all, many_progress}
use Rattle.read_types.specs.Walked.{HasRoom}
use Rattle.read_types.specs.declared.filling.TypeFilling.{TypeFilling}
use Rattle.read_tables.specs.Variables.{append_variable, variables_in}

-- The buffers' words, the variables' and the nodes'.
abbrev pub TableWords : Type 0
TableWords = List ℕ × (List ℕ × List ℕ)

-- A buffer's record after the buffers' words, and what its variables append.
unfoldable pub append_buffer : CBufferDef Text Text → TableWords → TableWords
append_buffer x w = (w.0 ++ buffer_words_in_table (buffer_record x), append_all append_variable x.variables w.1)

-- What reading n buffers, from an offset on, appends.
abbrev pub buffers_progress : List ℕ → Bool → ℕ → ℕ → TableWords → Room → Progress TableWords
buffers_progress s sm5 n at = many_progress append_buffer (read_buffer s sm5) buffer_stride n at

-- The record of the buffer at an offset: its variable count is the one that the chunk says.
unfoldable pub buffer_record_in_chunk : List ℕ → ℕ → Text → BufferRecord
buffer_record_in_chunk s at name = record {
  name = name;
  variable_count = word_at s (at + 4);
  size = word_at s (at + 12);
  flags = word_at s (at + 16);
  cb_type = word_at s (at + 20);
}

-- What so many buffers, variables and nodes of their tables hold.
abbrev pub buffers_in : List ℕ → List ℕ → List ℕ → Counts → TableWords
buffers_in buffers variables types n = (take (n.buffers * buffer_width) buffers, variables_in variables types n)

-- The walk of the buffers fills all tables but the bindings.
abbrev pub up_to_buffers : Counts → Counts → Counts
up_to_buffers capacity n = record { bindings = n.bindings; buffers = capacity.buffers; variables = capacity.variables; types = capacity.types }

-- The types' table is still the one that was lent, as long as it was; all tables can take as many records, and the bindings are as many. The tables of
-- the buffers and the variables, which hold `buffers` and `variables` now, have room for those that they have.
pub record KeptBindings (before after : TypeFilling) (buffers variables : List ℕ) : Type 0 where
  pub types : after.types.ghost_name ≡ before.types.ghost_name
  pub types_long : length after.types.now ≡ length before.types.now
  pub capacity : after.capacity ≡ before.capacity
  pub bindings : after.counts.bindings ≡ before.counts.bindings
  pub buffers_fit : HasRoom buffer_width after.capacity.buffers after.counts.buffers buffers
  pub variables_fit : HasRoom variable_width after.capacity.variables after.counts.variables variables
