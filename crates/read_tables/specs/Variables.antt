-- Vocabulary of internal contracts: no contract of an exported function and no demand cites it.
-- The walk of a buffer's variables, each with the nodes of its type: what it leaves.
use Rattle.std.specs.Prelude.{◌≡◌, Bool, List, ◌++◌, ℕ, ◌+◌, ◌*◌, length, take}
use Rattle.words.specs.Words.{word_at}
use Rattle.reflection.specs.Limits.{variable_width}
use Rattle.reflection.specs.declared.Text.{Text}
use Rattle.reflection.specs.declared.CBufferVariable.{CBufferVariable as VariableRecord}
use Rattle.reflection.specs.Reflection.{CBufferVariable}
use Rattle.reflection.specs.Texts.{in_chunk}
use Rattle.tables.specs.Records.{variable_words_in_table}
use Rattle.tables.specs.Tables.{variable_record}
use Rattle.read_spec.specs.declared.Counts.{Counts}
use Rattle.read_spec.specs.Step.{Room}
use Rattle.read_spec.specs.Read.{read_variable, variable_stride}
use Rattle.words.specs.Words.{word_if}
use Rattle.read_types.specs.Progress.{Progress, many_progress}
use Rattle.read_types.specs.Walked.{HasRoom}
use Rattle.read_types.specs.declared.filling.TypeFilling.{TypeFilling}
use Rattle.read_types.specs.Walk.{append_type, nodes_in}

-- A variable's record after the variables' words, and the nodes of its type after the nodes' words.
unfoldable pub append_variable : CBufferVariable Text Text → List ℕ × List ℕ → List ℕ × List ℕ
append_variable x w = (w.0 ++ variable_words_in_table (variable_record x), append_type (in_chunk 0 0) 0 x.var_type w.1)

-- What reading n variables, from an offset on, appends.
abbrev pub variables_progress : List ℕ → Bool → ℕ → ℕ → List ℕ × List ℕ → Room → Progress (List ℕ × List ℕ)
variables_progress s sm5 n at = many_progress append_variable (read_variable s sm5) (variable_stride sm5) n at

-- The record of the variable at an offset, whatever its type.
unfoldable pub variable_record_in_chunk : List ℕ → Bool → ℕ → Text → Text → VariableRecord
variable_record_in_chunk s sm5 at name default = record {
  name = name;
  offset = word_at s (at + 4);
  size = word_at s (at + 8);
  flags = record { 0 = word_at s (at + 12) };
  default_value = default;
  texture_start = word_if sm5 s (at + 24);
  texture_size = word_if sm5 s (at + 28);
  sampler_start = word_if sm5 s (at + 32);
  sampler_size = word_if sm5 s (at + 36);
}

-- What so many variables and nodes of their tables hold.
abbrev pub variables_in : List ℕ → List ℕ → Counts → List ℕ × List ℕ
variables_in variables types n = (take (n.variables * variable_width) variables, nodes_in types n)

-- The walk of the variables fills the variables and the nodes.
abbrev pub up_to_variables : Counts → Counts → Counts
up_to_variables capacity n = record { bindings = n.bindings; buffers = n.buffers; variables = capacity.variables; types = capacity.types }

-- The types' table is still the one that was lent, as long as it was; all tables can take as many records, and the bindings and buffers are as many. The
-- variables' table, which holds `variables` now, has room for those that it has.
pub record OnlyVariables (before after : TypeFilling) (variables : List ℕ) : Type 0 where
  pub types : after.types.ghost_name ≡ before.types.ghost_name
  pub types_long : length after.types.now ≡ length before.types.now
  pub capacity : after.capacity ≡ before.capacity
  pub bindings : after.counts.bindings ≡ before.counts.bindings
  pub buffers : after.counts.buffers ≡ before.counts.buffers
  pub variables_fit : HasRoom variable_width after.capacity.variables after.counts.variables variables
