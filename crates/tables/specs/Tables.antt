-- A reflection in a header and four lent tables: bindings, buffers, variables, type nodes in walk order.
-- Document 01, "Refusals": after success the records and then zeros, after a refusal zeros.
use Rattle.reflection.specs.Outcome.{Outcome}
use Rattle.std.specs.Prelude.{List, [], ◌∷◌, ◌++◌, map, ℕ, ◌-◌, length, replicate, Ok, Err}
use Rattle.reflection.specs.declared.Text.{Text}
use Rattle.reflection.specs.declared.ResourceDef.{ResourceDef as Header}
use Rattle.reflection.specs.declared.ResourceBinding.{ResourceBinding as BindingRecord}
use Rattle.reflection.specs.declared.CBufferDef.{CBufferDef as BufferRecord}
use Rattle.reflection.specs.declared.CBufferVariable.{CBufferVariable as VariableRecord}
use Rattle.reflection.specs.declared.TypeDesc.{TypeDesc as TypeRecord}
use Rattle.reflection.specs.Reflection.{all_variables, CBufferVariable, CBufferDef, ResourceBinding, ResourceDef, identifier_of}
use Rattle.reflection.specs.Reflection.{stride_of, slots_of}
use Rattle.tables.specs.Nodes.{Node, nodes_of}
use Rattle.reflection.specs.Texts.{in_chunk}
use Rattle.tables.specs.Records.{binding_words_in_table, buffer_words_in_table, variable_words_in_table, type_words_in_table, joined}

-- What stands in the tables' records.
unfoldable pub binding_record : ResourceBinding Text → BindingRecord
binding_record x = record {
  name = x.name;
  input_type = x.input_type;
  return_type = x.return_type;
  dimension = x.dimension;
  num_samples = x.num_samples;
  bind_point = x.bind_point;
  bind_count = x.bind_count;
  flags = record { 0 = x.flags };
  space = x.space;
  id = x.id;
}

unfoldable pub buffer_record : CBufferDef Text Text → BufferRecord
buffer_record x = record { name = x.name; variable_count = length x.variables; size = x.size; flags = x.flags; cb_type = x.cb_type }

unfoldable pub variable_record : CBufferVariable Text Text → VariableRecord
variable_record x = record {
  name = x.name;
  offset = x.offset;
  size = x.size;
  flags = record { 0 = x.flags };
  default_value = x.default-value;
  texture_start = x.texture_start;
  texture_size = x.texture_size;
  sampler_start = x.sampler_start;
  sampler_size = x.sampler_size;
}

unfoldable pub type_record : Node Text → TypeRecord
type_record x = record {
  class = x.numbers.class;
  var_type = x.numbers.var_type;
  rows = x.numbers.rows;
  columns = x.numbers.columns;
  elements = x.numbers.elements;
  member_count = x.member_count;
  extra0 = x.numbers.extra0;
  extra1 = x.numbers.extra1;
  extra2 = x.numbers.extra2;
  extra3 = x.numbers.extra3;
  name = x.name;
  member_name = x.member_name;
  member_offset = x.member_offset;
}

-- The nodes of the types of variables, in walk order. A root is no member: its member name and offset are 0.
unfoldable pub all_nodes : {D : Type 0} → List (CBufferVariable Text D) → List (Node Text)
all_nodes [] = []
all_nodes (x ∷ xs) = nodes_of (in_chunk 0 0) 0 x.var_type ++ all_nodes xs

-- The words of each table.
unfoldable pub binding_rows : ResourceDef Text Text → List ℕ
binding_rows r = joined binding_words_in_table (map binding_record r.bindings)

unfoldable pub buffer_rows : ResourceDef Text Text → List ℕ
buffer_rows r = joined buffer_words_in_table (map buffer_record r.constant_buffers)

unfoldable pub variable_rows : ResourceDef Text Text → List ℕ
variable_rows r = joined variable_words_in_table (map variable_record (all_variables r.constant_buffers))

unfoldable pub type_rows : ResourceDef Text Text → List ℕ
type_rows r = joined type_words_in_table (map type_record (all_nodes (all_variables r.constant_buffers)))

-- Words, and then zeros up to n words.
abbrev pub padded : ℕ → List ℕ → List ℕ
padded n words = words ++ replicate (n - length words) 0

-- What a table of n words holds after an outcome.
unfoldable pub table : (ResourceDef Text Text → List ℕ) → Outcome (ResourceDef Text Text) → ℕ → List ℕ
table rows (Ok r) n = padded n (rows r)
table rows (Err e) n = replicate n 0

-- The header: the numbers that are handed back by value.
unfoldable pub header_of : ResourceDef Text Text → Header
header_of r = record {
  target_version = r.target_version;
  compile_flags = r.compile_flags;
  creator = r.creator;
  rd11 = record { identifier = identifier_of r.rd11; resource_binding_stride = stride_of r.rd11; interface_slot_count = slots_of r.rd11 };
  binding_count = length r.bindings;
  buffer_count = length r.constant_buffers;
  variable_count = length (all_variables r.constant_buffers);
  type_count = length (all_nodes (all_variables r.constant_buffers));
}
