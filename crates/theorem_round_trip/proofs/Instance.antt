-- The round trip speaks of something: case V with a default, and case V in major 5, are readable by computation, and so they read back.
use mathlib.Core.Path.{◌≡◌, refl}
use mathlib.Core.Bool.{true, false}
use mathlib.Core.List.{[]}
use Prim.Native.Nat.{◌≤◌}
use native.Mathlib.Omega.{arith}
use lib.ListN.{length}
use Rattle.words.specs.Words
use Rattle.words.specs.Parts
use Rattle.text.specs.Same as TextSame
use Rattle.text.specs.Utf8
use Rattle.text.specs.Strings
use Rattle.reflection.specs.Limits.{chunk_limit}
use Rattle.reflection.specs.Strides.{binding_stride, rd11_identifier}
use Rattle.reflection.specs.Reflection
use Rattle.reflection.specs.Reflection.{ResourceDef, rd11}
use Rattle.reflection.specs.Texts
use Rattle.reflection.specs.Texts.{in_chunk}
use Rattle.tables.specs.Nodes
use Rattle.reflection.specs.Contents
use Rattle.reflection.specs.Rd11
use Rattle.reflection.specs.Contents.{Bytes, contents}
use Rattle.write_spec.specs.EdgeChunks as Chunks
use Rattle.write_spec.specs.EdgeChunks.{case_v, case_v5, float, globals, major5, read_v}
use Rattle.readable.specs.Readable
use Rattle.readable.specs.Readable.{readable_contents}
use Rattle.write_spec.specs.Step
use Rattle.write_spec.specs.Records
use Rattle.write_spec.specs.Same
use Rattle.write_spec.specs.Layout
use Rattle.write_spec.specs.Canonical
use Rattle.write_spec.specs.Canonical.{canonical}
use Rattle.theorem_round_trip.specs.RoundTrip
use Rattle.theorem_round_trip.specs.RoundTrip.{NumbersAreWords, Restored}
use Rattle.theorem_round_trip.proofs.RoundTrip.{round_trip}

-- A name for all that has to compute.
unfoldable computing : Unit {0}
unfolding Words.word_bytes Parts.inside Parts.part TextSame.same_bytes Utf8.run Utf8.well_formed Strings.without_nul Reflection.member_count
    Reflection.map_type Reflection.map_binding Reflection.map_variable Reflection.map_buffer Reflection.map_def Texts.text_bytes Nodes.nodes_of
    Reflection.all_variables Contents.contents Contents.type_names Contents.variable_names Contents.outer_names Contents.inner_names Chunks.bytes
    Chunks.header Chunks.rd11_bytes Chunks.globals_text Chunks.k_text Chunks.no_text Chunks.case_v Chunks.case_v5 Chunks.float Chunks.globals Chunks.read_v
    Readable.every Readable.name_readable Readable.default_readable Readable.zero_unless Rd11.rd11_allowed Readable.version_readable
    Readable.binding_readable Readable.numbers_readable Readable.type_readable Readable.variable_readable Readable.node_count Readable.room_kept
    Readable.readable_contents Step.◌>>=◌ Step.return Step.append Step.add_to_pool Step.padding_at Step.pad Step.word_cells Step.reserve Step.find
    Step.interned Step.add_to_pool_if Step.unless_empty Step.in_member_pool Step.cells_of Records.halves Records.type_words_in_chunk
    Records.variable_words_in_chunk Records.buffer_words_in_chunk Records.binding_words_in_chunk Records.rd11_words Records.header_words_in_chunk Records.rows
    Same.numbers_of Same.same_type Layout.zip Layout.name_cells Layout.place_outer_name Layout.place_inner_name Layout.place_default Layout.write_type
    Layout.place_type Layout.place_variable Layout.place_variables Layout.place_section Layout.place_sections Layout.place_outer_names
    Layout.place_buffer_parts Layout.place_buffers Layout.place_body Layout.place_chunk Layout.layout Canonical.bytes_facts Canonical.fill
    Canonical.canonical RoundTrip.type_numbers RoundTrip.variable_numbers RoundTrip.binding_numbers RoundTrip.buffer_numbers RoundTrip.EachIsWord
    RoundTrip.AllWords RoundTrip.BuffersWords
computing = tt

-- Case V with a default of four bytes, and case V in major 5.
abbrev with_default : ResourceDef Bytes Bytes
with_default = contents (case_v 108) [] (read_v float 108 (in_chunk 108 4))

abbrev in_major5 : ResourceDef Bytes Bytes
in_major5 = contents case_v5 [] (globals major5 (rd11 rd11_identifier (binding_stride false) 0) 176 84 136 0xffffffff float (in_chunk 0 0))

pub case-V-readable : readable_contents with_default ≡ true
unfolding computing
case-V-readable = refl

case-V-words : NumbersAreWords with_default
unfolding computing
case-V-words = record {
  header = (omega arith, (omega arith, (omega arith, (omega arith, (omega arith, tt)))));
  bindings = tt;
  buffers = (
    (omega arith, (omega arith, (omega arith, tt))),
    (
      (
        (
          omega arith,
          (
            omega arith,
            (
              omega arith,
              (
                omega arith,
                (
                  omega arith,
                  (omega arith, (omega arith, (omega arith, (omega arith, (omega arith, (omega arith, tt)))))),
                ),
              ),
            ),
          ),
        ),
        tt,
      ),
      tt,
    ),
  );
}

case-V-fits : length (canonical with_default) ≤ chunk_limit
unfolding computing
case-V-fits = omega arith

pub case-V-restored : Restored with_default
case-V-restored = round_trip with_default case-V-readable case-V-words case-V-fits

pub case-V5-readable : readable_contents in_major5 ≡ true
unfolding computing
case-V5-readable = refl

case-V5-words : NumbersAreWords in_major5
unfolding computing
case-V5-words = record {
  header = (omega arith, (omega arith, (omega arith, (omega arith, (omega arith, tt)))));
  bindings = tt;
  buffers = (
    (omega arith, (omega arith, (omega arith, tt))),
    (
      (
        (
          omega arith,
          (
            omega arith,
            (
              omega arith,
              (
                omega arith,
                (
                  omega arith,
                  (omega arith, (omega arith, (omega arith, (omega arith, (omega arith, (omega arith, tt)))))),
                ),
              ),
            ),
          ),
        ),
        tt,
      ),
      tt,
    ),
  );
}

case-V5-fits : length (canonical in_major5) ≤ chunk_limit
unfolding computing
case-V5-fits = omega arith

pub case-V5-restored : Restored in_major5
case-V5-restored = round_trip in_major5 case-V5-readable case-V5-words case-V5-fits
