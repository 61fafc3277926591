-- Vocabulary of internal contracts: no contract of an exported function and no demand cites it.
-- Parts of a reflection that are compared at once.
use Rattle.std.specs.Prelude.{Bool, ◌&&◌, List, [], ◌∷◌, ℕ}
use Rattle.text.specs.Same.{same_bytes}
use Rattle.reflection.specs.declared.Text.{Text}
use Rattle.reflection.specs.declared.ResourceDef.{ResourceDef as Header}
use Rattle.reflection.specs.declared.CBufferDef.{CBufferDef as BufferRecord}
use Rattle.reflection.specs.Reflection.{ResourceBinding}
use Rattle.tables.specs.Records.{binding_at}
use Rattle.tables.specs.Decode.{binding_from_table}
use Rattle.reflection.specs.Rd11.{rd11_from_header}
use Rattle.write_spec.specs.Same.{rd11_numbers}

-- Two buffers' names and numbers, but not their variables.
unfoldable pub same_fields : (Text → Text → Bool) → BufferRecord → BufferRecord → Bool
same_fields same x y = same x.name y.name && same_bytes (x.size ∷ x.flags ∷ x.cb_type ∷ []) (y.size ∷ y.flags ∷ y.cb_type ∷ [])

-- A header's version, flags and RD11 words.
unfoldable pub header_numbers : Header → List ℕ
header_numbers h = h.target_version ∷ h.compile_flags ∷ rd11_numbers (rd11_from_header h)

-- Binding i of a table.
unfoldable pub binding_in_table : List ℕ → ℕ → ResourceBinding Text
binding_in_table bindings i = binding_from_table (binding_at bindings i)
