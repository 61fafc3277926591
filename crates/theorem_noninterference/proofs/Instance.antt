-- Two reflections as the statement speaks of them: floats `a` and `b` with unequal defaults of four bytes, other bytes in each reflection. So nothing that the
-- statement asks is empty; and these two are written, into 148 bytes that differ.
use Rattle.std.specs.Prelude.{Ok, Some}
use mathlib.Core.Path.{◌≡◌, refl}
use mathlib.Core.List.{[], ◌∷◌}
use Prim.Native.Nat.{ℕ, zero, suc}
use native.Mathlib.Omega.{arith}
use lib.ListN.{length, get_or}
use Rattle.words.specs.Words
use Rattle.text.specs.Same as TextSame
use Rattle.text.specs.Utf8
use Rattle.text.specs.Strings
use Rattle.reflection.specs.Rd11
use Rattle.reflection.specs.Reflection
use Rattle.reflection.specs.Reflection.{ResourceDef}
use Rattle.tables.specs.Nodes
use Rattle.reflection.specs.Contents
use Rattle.reflection.specs.Contents.{Bytes}
use Rattle.readable.specs.Readable
use Rattle.text_output.specs.Written
use Rattle.write_spec.specs.Step
use Rattle.write_spec.specs.Records
use Rattle.write_spec.specs.Same
use Rattle.write_spec.specs.Layout
use Rattle.write_spec.specs.Canonical
use Rattle.write_spec.specs.Canonical.{canonical}
use Rattle.write_spec.specs.Outcome
use Rattle.write_spec.specs.Outcome.{write}
use Rattle.write_spec.specs.EdgeChunks as Chunks
use Rattle.write_spec.specs.EdgeChunks.{floats_ab}
use Rattle.theorem_round_trip.specs.RoundTrip
use Rattle.theorem_round_trip.specs.RoundTrip.{NumbersAreWords}
use Rattle.theorem_noninterference.specs.Noninterference
use Rattle.theorem_noninterference.specs.Noninterference.{SameButDefaults, Indistinguishable}
use Rattle.theorem_noninterference.proofs.Noninterference.{canonical_noninterference}

-- A name for all that has to compute.
unfoldable computing : Unit {0}
unfolding Words.word_bytes TextSame.same_bytes Utf8.run Utf8.well_formed Strings.without_nul Reflection.member_count Reflection.map_type
    Reflection.map_binding Reflection.map_variable Reflection.map_buffer Reflection.map_def Nodes.nodes_of Reflection.all_variables Contents.type_names
    Contents.variable_names Contents.outer_names Contents.inner_names Contents.defaults_of Chunks.float Readable.every Readable.name_readable
    Readable.default_readable Readable.zero_unless Rd11.rd11_allowed Readable.version_readable Readable.binding_readable Readable.numbers_readable
    Readable.type_readable Readable.variable_readable Readable.node_count Readable.room_kept Readable.readable_contents Written.fitting Step.◌>>=◌
    Step.return Step.append Step.add_to_pool Step.padding_at Step.pad Step.word_cells Step.reserve Step.find Step.interned Step.add_to_pool_if
    Step.unless_empty Step.in_member_pool Step.cells_of Records.halves Records.type_words_in_chunk Records.variable_words_in_chunk Records.buffer_words_in_chunk
    Records.binding_words_in_chunk Records.rd11_words Records.header_words_in_chunk Records.rows Same.numbers_of Same.same_type Layout.zip Layout.name_cells
    Layout.place_outer_name Layout.place_inner_name Layout.place_default Layout.write_type Layout.place_type Layout.place_variable Layout.place_variables
    Layout.place_section Layout.place_sections Layout.place_outer_names Layout.place_buffer_parts Layout.place_buffers Layout.place_body Layout.place_chunk
    Layout.layout Canonical.bytes_facts Canonical.fill Canonical.canonical Outcome.canonical_or16 Outcome.write Chunks.nameless Chunks.float_variable
    Chunks.floats_ab RoundTrip.type_numbers RoundTrip.variable_numbers RoundTrip.binding_numbers RoundTrip.EachIsWord RoundTrip.AllWords
    RoundTrip.buffer_numbers RoundTrip.BuffersWords Noninterference.default_number Noninterference.without_defaults
computing = tt

abbrev one : ResourceDef Bytes Bytes
one = floats_ab (1 ∷ 2 ∷ 3 ∷ 4 ∷ []) (1 ∷ 2 ∷ 3 ∷ 5 ∷ [])

abbrev other : ResourceDef Bytes Bytes
other = floats_ab (9 ∷ 8 ∷ 7 ∷ 6 ∷ []) (0 ∷ 0 ∷ 0 ∷ 0 ∷ [])

pub same_but_defaults : SameButDefaults one other
unfolding computing
same_but_defaults = record { numbers_and_names = refl; lengths = lengths; equal_pairs = equal_pairs }
  where
    lengths : (i : ℕ) → length (Noninterference.default_number one i) ≡ length (Noninterference.default_number other i)
    lengths zero = refl
    lengths (suc zero) = refl
    lengths (suc (suc i)) = refl

    equal_pairs : (i j : ℕ) → TextSame.same_bytes (Noninterference.default_number one i) (Noninterference.default_number one j)
        ≡ TextSame.same_bytes (Noninterference.default_number other i) (Noninterference.default_number other j)
    equal_pairs zero zero = refl
    equal_pairs zero (suc zero) = refl
    equal_pairs zero (suc (suc j)) = refl
    equal_pairs (suc zero) zero = refl
    equal_pairs (suc zero) (suc zero) = refl
    equal_pairs (suc zero) (suc (suc j)) = refl
    equal_pairs (suc (suc i)) zero = refl
    equal_pairs (suc (suc i)) (suc zero) = refl
    equal_pairs (suc (suc i)) (suc (suc j)) = refl

pub numbers_are_words : NumbersAreWords one
unfolding computing
numbers_are_words = record { header = omega arith; bindings = tt; buffers = (omega arith, ((omega arith, (omega arith, tt)), tt)) }

-- Both are written where there is room, and the first byte of the first default differs.
pub both_written : (write Outcome.scratch_size 148 (Some one) ≡ Ok (canonical one)) × (write Outcome.scratch_size 148 (Some other) ≡ Ok (canonical other))
unfolding computing
both_written = (refl, refl)

pub differ : (get_or (canonical one) 132 0 ≡ 1) × (get_or (canonical other) 132 0 ≡ 9)
unfolding computing
differ = (refl, refl)

pub hidden : Indistinguishable Outcome.scratch_size 148 one other
hidden = canonical_noninterference Outcome.scratch_size 148 one other numbers_are_words same_but_defaults
