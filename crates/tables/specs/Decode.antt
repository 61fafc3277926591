-- A reflection read off its header and its four tables: the first records of each table, as many as the header counts; a type for each variable, built
-- from the nodes in order; for each buffer the next of the variables. `none` where the counts do not match the records.
use Rattle.std.specs.Prelude.{Bool, true, false, List, [], ◌∷◌, map, ℕ, zero, suc, ◌/◌, leb, length, take, drop, Option, None, Some}
use Rattle.reflection.specs.declared.Text.{Text}
use Rattle.reflection.specs.declared.ResourceDef.{ResourceDef as Header}
use Rattle.reflection.specs.declared.ResourceBinding.{ResourceBinding as BindingRecord}
use Rattle.reflection.specs.declared.CBufferDef.{CBufferDef as BufferRecord}
use Rattle.reflection.specs.declared.CBufferVariable.{CBufferVariable as VariableRecord}
use Rattle.reflection.specs.declared.TypeDesc.{TypeDesc as TypeRecord}
use Rattle.reflection.specs.Rd11.{rd11_from_header}
use Rattle.reflection.specs.Reflection.{TypeDesc, CBufferVariable, CBufferDef, ResourceBinding, ResourceDef}
use Rattle.tables.specs.Nodes.{Node, ◌>>=◌, type_from_nodes, type_levels}
use Rattle.tables.specs.Records.{binding_width, buffer_width, variable_width, type_width, binding_at, buffer_at, variable_at, type_at}

-- Goes on where the test holds.
unfoldable pub guard : Bool → Option (Unit {0})
guard true = Some tt
guard false = None

-- Records i to i + n - 1.
unfoldable pub records_from : {A : Type 0} → (ℕ → A) → ℕ → ℕ → List A
records_from record-at i zero = []
records_from record-at i (suc n) = record-at i ∷ records_from record-at (suc i) n

-- The first n records of a table, where it holds so many.
unfoldable pub first_records : {A : Type 0} → ℕ → (List ℕ → ℕ → A) → List ℕ → ℕ → Option (List A)
first_records width record-at t n = do
  _ ← guard (leb n (length t / width))
  Some (records_from (record-at t) 0 n)

-- What a record says; the type of a variable and the variables of a buffer are handed in.
unfoldable pub binding_from_table : BindingRecord → ResourceBinding Text
binding_from_table x = record {
  name = x.name;
  input_type = x.input_type;
  return_type = x.return_type;
  dimension = x.dimension;
  num_samples = x.num_samples;
  bind_point = x.bind_point;
  bind_count = x.bind_count;
  flags = x.flags.0;
  space = x.space;
  id = x.id;
}

unfoldable pub variable_from_table : VariableRecord → TypeDesc Text → CBufferVariable Text Text
variable_from_table x type = record {
  name = x.name;
  offset = x.offset;
  size = x.size;
  flags = x.flags.0;
  default-value = x.default_value;
  texture_start = x.texture_start;
  texture_size = x.texture_size;
  sampler_start = x.sampler_start;
  sampler_size = x.sampler_size;
  var_type = type;
}

unfoldable pub buffer_from_table : BufferRecord → List (CBufferVariable Text Text) → CBufferDef Text Text
buffer_from_table x variables = record { name = x.name; size = x.size; flags = x.flags; cb_type = x.cb_type; variables = variables }

unfoldable pub node_from_table : TypeRecord → Node Text
node_from_table x = record {
  numbers = record {
    class = x.class;
    var_type = x.var_type;
    rows = x.rows;
    columns = x.columns;
    elements = x.elements;
    extra0 = x.extra0;
    extra1 = x.extra1;
    extra2 = x.extra2;
    extra3 = x.extra3;
  };
  member_count = x.member_count;
  name = x.name;
  member_name = x.member_name;
  member_offset = x.member_offset;
}

-- The variables, each with the type that the next nodes build. All nodes are used. A root's member name and offset are not looked at.
unfoldable pub variables_from : List VariableRecord → List (Node Text) → Option (List (CBufferVariable Text Text))
variables_from [] [] = Some []
variables_from [] (n ∷ ns) = None
variables_from (v ∷ vs) ns = do
  t ← type_from_nodes type_levels ns
  others ← variables_from vs t.left
  Some (variable_from_table v t.type ∷ others)

-- The buffers, each with as many of the next variables as it counts. All variables are used.
unfoldable pub buffers_from : List BufferRecord → List (CBufferVariable Text Text) → Option (List (CBufferDef Text Text))
buffers_from [] [] = Some []
buffers_from [] (v ∷ vs) = None
buffers_from (b ∷ bs) vs = do
  _ ← guard (leb b.variable_count (length vs))
  others ← buffers_from bs (drop b.variable_count vs)
  Some (buffer_from_table b (take b.variable_count vs) ∷ others)

-- The reflection that a header and the words of the bindings', buffers', variables' and types' tables hold.
unfoldable pub decode : Header → List ℕ → List ℕ → List ℕ → List ℕ → Option (ResourceDef Text Text)
decode h bindings buffers variables types = do
  bs ← first_records binding_width binding_at bindings h.binding_count
  cs ← first_records buffer_width buffer_at buffers h.buffer_count
  vs ← first_records variable_width variable_at variables h.variable_count
  ts ← first_records type_width type_at types h.type_count
  typed ← variables_from vs (map node_from_table ts)
  filled ← buffers_from cs typed
  Some (record {
    target_version = h.target_version;
    compile_flags = h.compile_flags;
    rd11 = rd11_from_header h;
    creator = h.creator;
    bindings = map binding_from_table bs;
    constant_buffers = filled;
  })
