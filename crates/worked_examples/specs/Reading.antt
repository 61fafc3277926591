-- What chunks read as: document 01, "Refusals" and "Edge chunks".
use Rattle.std.specs.Prelude.{List, [], ◌∷◌, ◌++◌, ℕ, ◌*◌, replicate, Ok}
use Rattle.reflection.specs.declared.Text.{Text}
use Rattle.reflection.specs.Reflection.{ResourceDef, no_member, member, rd11}
use Rattle.reflection.specs.Texts.{in_chunk}
use Rattle.reflection.specs.Contents.{Bytes}
use Rattle.reflection.specs.Limits.{binding_room, buffer_room, variable_room, type_room}
use Rattle.read_spec.specs.Step.{room, full_room}
use Rattle.write_spec.specs.EdgeChunks.{header, major4, major5, no_text, case_v, case_v5, float, globals, read_v}
use Rattle.worked_examples.specs.Example.{Example, reads, refusal}
use Rattle.worked_examples.specs.Chunks.{case_e, one_binding, with_type, struct_of, nested, twice, case_vdefault}
use Rattle.worked_examples.specs.Chunks.{with_bindings, binding, empty, structure, nested_type}

-- With document 01's whole room.
abbrev reads_as : Bytes → ResourceDef Text Text → Example
reads_as chunk r = reads full_room chunk (Ok r)

abbrev refuses : Bytes → ℕ → Example
refuses chunk number = reads full_room chunk (refusal number)

unfoldable pub reading_examples : List Example
reading_examples =
    -- "P, case E: 28 zero bytes with byte 17 set to 4 read as empty"
    reads_as case_e empty
    -- "P: the examples of 1 and 3"; with them the examples of 2 and of 4 to 14
    ∷ refuses (replicate 27 0) 1
    ∷ refuses (replicate 65537 0) 2
    ∷ refuses (replicate 28 0) 3
    ∷ refuses (header 0 0 0 0 major4 28) 4
    ∷ refuses (header 0 0 0 0 major5 0) 5
    ∷ refuses (header 0 0 0 0 major5 0 ++ replicate 32 0) 6
    ∷ refuses (header 0 0 1 0 major4 0) 7
    ∷ refuses (one_binding 14 0 0 0) 8
    ∷ refuses (one_binding 0 12 0 0) 9
    ∷ refuses (one_binding 0 0 0x20 0) 10
    ∷ refuses (one_binding 0 0 0 60) 11
    ∷ refuses (case_v 109) 12
    ∷ refuses (with_type (nested 92 65)) 13
    ∷ refuses (with_type (struct_of 92 92)) 14
    -- 15: 65 buffers, since 1,025 bindings are too many to compute; in less room, no binding and no type
    ∷ refuses (header 65 28 0 0 major4 0 ++ replicate (65 * 24) 0) 15
    ∷ reads (room 0 buffer_room variable_room type_room) (one_binding 0 0 0 0) (refusal 15)
    ∷ reads (room binding_room buffer_room variable_room 0) (case_v 0) (refusal 15)
    -- "The first fault met is reported": input type before dimension, dimension before flags, flags before the name, room before the record
    ∷ refuses (one_binding 14 12 0x20 60) 8
    ∷ refuses (one_binding 0 12 0x20 60) 9
    ∷ refuses (one_binding 0 0 0x20 60) 10
    ∷ reads (room 0 buffer_room variable_room type_room) (header 0 0 1 0 major4 0) (refusal 15)
    -- "P: input type 13 reads, 14 gives 8" (14: the example of 8)
    ∷ reads_as (one_binding 13 0 0 0) (with_bindings (in_chunk 0 0) (binding (in_chunk 0 0) 13 0 ∷ []))
    -- "P, case V": buffers at 28, variables at 64, type at 92, creator at 108; its default at 108; the same in major 5
    ∷ reads_as (case_v 0) (read_v float 108 (in_chunk 0 0))
    ∷ reads_as (case_v 108) (read_v float 108 (in_chunk 108 4))
    ∷ reads_as (case_vdefault no_text) (read_v float 112 (in_chunk 108 4))
    ∷ reads_as case_v5 (globals major5 (rd11 0x31314452 32 0) 176 84 136 0xffffffff float (in_chunk 0 0))
    -- "65 nested types read"; a descriptor used twice side by side is no cycle
    ∷ reads_as (with_type (nested 92 64)) (read_v (nested_type 64) 60 (in_chunk 0 0))
    ∷ reads_as (with_type twice) (read_v (structure (member (in_chunk 88 1) 0 float (member (in_chunk 88 1) 4 float no_member))) 60 (in_chunk 0 0))
    ∷ []
