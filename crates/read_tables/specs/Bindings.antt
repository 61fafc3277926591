-- Vocabulary of internal contracts: no contract of an exported function and no demand cites it.
-- The walk of the bindings: what it leaves.
use Rattle.reflection.specs.Outcome.{Outcome}
use Rattle.reflection.specs.declared.refusal.Refusal.TheVariants.{BadInputType, BadDimension, BadBindingFlags}
use Rattle.std.specs.Prelude.{◌≡◌, Bool, true, false, Ok, Err, List, ◌++◌, ℕ, ◌+◌, ◌*◌, length, take}
use Rattle.words.specs.Words.{word_at}
use Rattle.codes.specs.Table.{known}
use Rattle.codes.specs.Microsoft.{input_types, srv_dimensions}
use Rattle.flags.specs.Flags.{binding_flags_allowed}
use Rattle.reflection.specs.Limits.{binding_width}
use Rattle.reflection.specs.declared.Text.{Text}
use Rattle.reflection.specs.Reflection.{ResourceBinding}
use Rattle.tables.specs.Records.{binding_words_in_table}
use Rattle.tables.specs.Tables.{binding_record}
use Rattle.read_spec.specs.declared.Counts.{Counts}
use Rattle.read_spec.specs.Step.{Room}
use Rattle.read_spec.specs.Read.{read_binding, binding_stride}
use Rattle.read_types.specs.Progress.{Progress, many_progress}
use Rattle.read_tables.specs.declared.filling.BindingFilling.{BindingFilling}

-- A binding's record after the words w.
unfoldable pub append_binding : ResourceBinding Text → List ℕ → List ℕ
append_binding x w = w ++ binding_words_in_table (binding_record x)

-- What reading n bindings, from an offset on, appends.
abbrev pub bindings_progress : List ℕ → Bool → ℕ → ℕ → List ℕ → Room → Progress (List ℕ)
bindings_progress s wide n at = many_progress append_binding (read_binding s wide) (binding_stride wide) n at

-- Whether the codes of the binding at an offset are in Microsoft's tables: the input type, the dimension, the flags.
unfoldable pub code_check : List ℕ → ℕ → Outcome (Unit {0})
code_check s at =
    elim (known input_types (word_at s (at + 4))) [
      | true ↦ elim (known srv_dimensions (word_at s (at + 12))) [
        | true ↦ elim (binding_flags_allowed (word_at s (at + 28))) [ true ↦ Ok tt | false ↦ Err BadBindingFlags ]
        | false ↦ Err BadDimension
      ]
      | false ↦ Err BadInputType
    ]

-- What so many bindings of a table hold.
abbrev pub bindings_in : List ℕ → Counts → List ℕ
bindings_in bindings n = take (n.bindings * binding_width) bindings

-- The walk of the bindings fills the bindings only.
abbrev pub up_to_bindings : Counts → Counts → Counts
up_to_bindings capacity n = record { bindings = capacity.bindings; buffers = n.buffers; variables = n.variables; types = n.types }

-- The table is still the one that was lent, as long as it was; all tables can take as many records, and the others have as many.
pub record OnlyBindings (before after : BindingFilling) : Type 0 where
  pub bindings : after.bindings.ghost_name ≡ before.bindings.ghost_name
  pub bindings_long : length after.bindings.now ≡ length before.bindings.now
  pub capacity : after.capacity ≡ before.capacity
  pub buffers : after.counts.buffers ≡ before.counts.buffers
  pub variables : after.counts.variables ≡ before.counts.variables
  pub types : after.counts.types ≡ before.counts.types
