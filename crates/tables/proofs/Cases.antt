-- Worked cases of decoding, by computation: document 01's case V in tables of one record each, and the same tables with a count that does not match.
use Rattle.std.specs.Prelude.{Option, None, Some}
use mathlib.Core.Path.{◌≡◌, refl}
use mathlib.Core.List.{List, [], ◌∷◌}
use Prim.Native.Nat.{ℕ}
use Rattle.reflection.specs.declared.Text.{Text}
use Rattle.reflection.specs.declared.ResourceDef.{ResourceDef as Header}
use Rattle.reflection.specs.Reflection.{type_desc, no_member, ResourceDef, Rd11, no_rd11, rd11}
use Rattle.reflection.specs.Texts.{in_chunk}
use Rattle.tables.specs.Nodes.{◌>>=◌, members_from_nodes, type_from_nodes}
use Rattle.tables.specs.Records.{holds_record, record_word, buffer_at, variable_at, type_at}
use Rattle.tables.specs.Decode.{guard, records_from, first_records, variable_from_table, buffer_from_table, node_from_table, variables_from}
use Rattle.tables.specs.Decode.{buffers_from, decode}
use Rattle.reflection.specs.Rd11.{rd11_from_header}

-- One buffer, `$Globals`, with one variable, the float `k`.
abbrev pub case_v : ℕ → Rd11 → ResourceDef Text Text
case_v version words = record {
  target_version = version;
  compile_flags = 0;
  rd11 = words;
  creator = in_chunk 108 0;
  bindings = [];
  constant_buffers = record {
    name = in_chunk 52 8;
    size = 16;
    flags = 0;
    cb_type = 0;
    variables = record {
      name = in_chunk 88 1;
      offset = 0;
      size = 4;
      flags = 2;
      default-value = in_chunk 0 0;
      texture_start = 0;
      texture_size = 0;
      sampler_start = 0;
      sampler_size = 0;
      var_type =
          type_desc (record { class = 0; var_type = 3; rows = 1; columns = 1; elements = 0; extra0 = 0; extra1 = 0; extra2 = 0; extra3 = 0 })
          (in_chunk 0 0)
          no_member;
    } ∷ [];
  } ∷ [];
}

abbrev pub header : ℕ → ℕ → ℕ → ℕ → ℕ → Header
header version stride buffers variables types = record {
  target_version = version;
  compile_flags = 0;
  creator = in_chunk 108 0;
  rd11 = record { identifier = 0; resource_binding_stride = stride; interface_slot_count = 0 };
  binding_count = 0;
  buffer_count = buffers;
  variable_count = variables;
  type_count = types;
}

abbrev pub one_buffer : List ℕ
one_buffer = 0 ∷ 52 ∷ 8 ∷ 1 ∷ 16 ∷ 0 ∷ 0 ∷ []

-- Two records of variables, the second a copy of the first.
abbrev pub two_variables : List ℕ
two_variables = 0 ∷ 88 ∷ 1 ∷ 0 ∷ 4 ∷ 2 ∷ 0 ∷ 0 ∷ 0 ∷ 0 ∷ 0 ∷ 0 ∷ 0 ∷ 0 ∷ 88 ∷ 1 ∷ 0 ∷ 4 ∷ 2 ∷ 0 ∷ 0 ∷ 0 ∷ 0 ∷ 0 ∷ 0 ∷ 0 ∷ []

-- Two nodes, each a float; what the root's node says of a member, 7 from place 9 on at offset 5, is not looked at.
abbrev pub two_nodes : List ℕ
two_nodes =
    0 ∷ 3 ∷ 1 ∷ 1 ∷ 0 ∷ 0 ∷ 0 ∷ 0 ∷ 0 ∷ 0 ∷ 0 ∷ 0 ∷ 0 ∷ 0 ∷ 9 ∷ 7 ∷ 5
    ∷ 0 ∷ 3 ∷ 1 ∷ 1 ∷ 0 ∷ 0 ∷ 0 ∷ 0 ∷ 0 ∷ 0 ∷ 0 ∷ 0 ∷ 0 ∷ 0 ∷ 0 ∷ 0 ∷ 0 ∷ []

abbrev pub from : Header → Option (ResourceDef Text Text)
from h = decode h [] one_buffer two_variables two_nodes

-- What the four tables hold under a header: of major 4, of major 5, of another major; and `none` with a node left over, a variable left over, no type for the
-- variable, no variable for the buffer, one buffer more than the table holds.
pub record Decoded : Type 0 where
  pub major_4 : from (header 1024 0 1 1 1) ≡ Some (case_v 1024 no_rd11)
  pub major_5 : from (header 1280 32 1 1 1) ≡ Some (case_v 1280 (rd11 0 32 0))
  pub major_3 : from (header 768 32 1 1 1) ≡ Some (case_v 768 no_rd11)
  pub node_left : from (header 1024 0 1 1 2) ≡ None
  pub variable_left : from (header 1024 0 1 2 2) ≡ None
  pub type_missing : from (header 1024 0 1 1 0) ≡ None
  pub variable_missing : from (header 1024 0 1 0 0) ≡ None
  pub buffer_missing : from (header 1024 0 2 2 2) ≡ None

pub cases : Decoded
unfolding decode first_records records_from guard variables_from buffers_from rd11_from_header type_from_nodes members_from_nodes ◌>>=◌ variable_from_table
    buffer_from_table node_from_table buffer_at variable_at type_at record_word holds_record
cases =
    record {
      major_4 = refl;
      major_5 = refl;
      major_3 = refl;
      node_left = refl;
      variable_left = refl;
      type_missing = refl;
      variable_missing = refl;
      buffer_missing = refl;
    }
