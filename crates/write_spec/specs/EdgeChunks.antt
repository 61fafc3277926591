-- The chunks of document 01, "Edge chunks", that more than one crate speaks of, and what they hold: case V, and V with two floats. The table of crate
-- worked_examples has them, and the instances of the round trip and of noninterference are about them.
use Rattle.std.specs.Prelude.{List, [], ◌∷◌, ◌++◌, ℕ}
use Rattle.words.specs.Words.{word_bytes}
use Rattle.reflection.specs.declared.Text.{Text}
use Rattle.reflection.specs.Reflection.{TypeDesc, type_desc, no_member, Rd11, no_rd11, CBufferVariable, ResourceDef, map_type}
use Rattle.reflection.specs.Texts.{in_chunk}
use Rattle.reflection.specs.Contents.{Bytes}
use Rattle.text_output.specs.Ascii.{ascii}

-- Words, each as four bytes.
unfoldable pub bytes : List ℕ → Bytes
bytes [] = []
bytes (w ∷ ws) = word_bytes w ++ bytes ws

-- The header of 28 bytes: buffer count and offset, binding count and offset, version, creator offset; the compile flags are 0.
unfoldable pub header : ℕ → ℕ → ℕ → ℕ → ℕ → ℕ → Bytes
header buffers bufferOffset bindings bindingOffset version creator =
    bytes (buffers ∷ bufferOffset ∷ bindings ∷ bindingOffset ∷ version ∷ 0 ∷ creator ∷ [])

-- The version words of major 4 and 5 that the examples use, and the RD11 words with bindings of 32 bytes.
abbrev pub major4 : ℕ
major4 = 1024

abbrev pub major5 : ℕ
major5 = 1280

unfoldable pub rd11_bytes : Bytes
rd11_bytes = bytes (0x31314452 ∷ 60 ∷ 24 ∷ 32 ∷ 40 ∷ 36 ∷ 12 ∷ 0 ∷ [])

-- `$Globals`, NUL and padding; `k`, NUL and padding; the empty creator and padding.
unfoldable pub globals_text : Bytes
globals_text = ascii "$Globals" ++ (0 ∷ 0xab ∷ 0xab ∷ 0xab ∷ [])

unfoldable pub k_text : Bytes
k_text = ascii "k" ++ (0 ∷ 0xab ∷ 0xab ∷ [])

unfoldable pub no_text : Bytes
no_text = 0 ∷ 0xab ∷ 0xab ∷ 0xab ∷ []

-- Case V: buffer at 28, its name at 52, its variable at 64, the variable's name at 88, its type at 92, the creator at 108; 112 bytes.
-- The default's offset varies.
unfoldable pub case_v : ℕ → Bytes
case_v default =
    header 1 28 0 28 major4 108 ++ bytes (52 ∷ 1 ∷ 64 ∷ 16 ∷ 0 ∷ 0 ∷ []) ++ globals_text
    ++ bytes (88 ∷ 0 ∷ 4 ∷ 2 ∷ 92 ∷ default ∷ []) ++ k_text ++ bytes (0x30000 ∷ 0x10001 ∷ 0 ∷ 0 ∷ []) ++ no_text

-- The same in major 5: buffer at 60, name at 84, variable at 96, its name at 136, its type at 140, the creator at 176; 180 bytes.
unfoldable pub case_v5 : Bytes
case_v5 =
    header 1 60 0 60 major5 176 ++ rd11_bytes ++ bytes (84 ∷ 1 ∷ 96 ∷ 16 ∷ 0 ∷ 0 ∷ []) ++ globals_text
    ++ bytes (136 ∷ 0 ∷ 4 ∷ 2 ∷ 140 ∷ 0 ∷ 0xffffffff ∷ 0 ∷ 0xffffffff ∷ 0 ∷ []) ++ k_text
    ++ bytes (0x30000 ∷ 0x10001 ∷ 0 ∷ 0 ∷ 0 ∷ 0 ∷ 0 ∷ 0 ∷ 0 ∷ []) ++ no_text

-- The type `float`.
unfoldable pub float : TypeDesc Text
float =
    type_desc (record { class = 0; var_type = 3; rows = 1; columns = 1; elements = 0; extra0 = 0; extra1 = 0; extra2 = 0; extra3 = 0 }) (in_chunk 0 0) no_member

-- The variable `k` of the buffer `$Globals`: where the two names lie, the slot word, the type, the default.
unfoldable pub globals : ℕ → Rd11 → ℕ → ℕ → ℕ → ℕ → TypeDesc Text → Text → ResourceDef Text Text
globals version words creator buffer_name name slot type default = record {
  target_version = version;
  compile_flags = 0;
  rd11 = words;
  creator = in_chunk creator 0;
  bindings = [];
  constant_buffers =
      record {
        name = in_chunk buffer_name 8;
        size = 16;
        flags = 0;
        cb_type = 0;
        variables =
            record {
              name = in_chunk name 1;
              offset = 0;
              size = 4;
              flags = 2;
              default-value = default;
              texture_start = slot;
              texture_size = 0;
              sampler_start = slot;
              sampler_size = 0;
              var_type = type;
            } ∷ [];
      } ∷ [];
}

-- What case V reads as, with another type, creator and default.
unfoldable pub read_v : TypeDesc Text → ℕ → Text → ResourceDef Text Text
read_v type creator default = globals major4 no_rd11 creator 52 88 0 type default

-- A name as its bytes, where there is no chunk: an empty one.
unfoldable pub nameless : Text → Bytes
nameless t = []

-- A float with a name, at an offset, with a default.
unfoldable pub float_variable : Bytes → ℕ → Bytes → CBufferVariable Bytes Bytes
float_variable name offset default = record {
  name = name;
  offset = offset;
  size = 4;
  flags = 2;
  default-value = default;
  texture_start = 0;
  texture_size = 0;
  sampler_start = 0;
  sampler_size = 0;
  var_type = map_type nameless float;
}

-- As case V, but floats `a` and `b` with these defaults.
unfoldable pub floats_ab : Bytes → Bytes → ResourceDef Bytes Bytes
floats_ab a b = record {
  target_version = major4;
  compile_flags = 0;
  rd11 = no_rd11;
  creator = [];
  bindings = [];
  constant_buffers =
      record {
        name = ascii "$Globals";
        size = 16;
        flags = 0;
        cb_type = 0;
        variables = float_variable (ascii "a") 0 a ∷ float_variable (ascii "b") 4 b ∷ [];
      } ∷ [];
}
