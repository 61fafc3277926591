-- Every example of the table holds: both sides are computed.
use mathlib.Core.Path.{refl}
use mathlib.Core.List.{map-append}
use Rattle.words.specs.Words
use Rattle.words.specs.Parts
use Rattle.text.specs.Utf8
use Rattle.text.specs.Strings
use Rattle.text.specs.Same as TextSame
use Rattle.codes.specs.Table
use Rattle.codes.specs.Microsoft
use Rattle.flags.specs.Flags
use Rattle.codes.specs.Variable
use Rattle.reflection.specs.Rd11
use Rattle.reflection.specs.Reflection
use Rattle.reflection.specs.Texts
use Rattle.tables.specs.Nodes
use Rattle.reflection.specs.Contents
use Rattle.read_spec.specs.Step as ReadStep
use Rattle.read_spec.specs.Read
use Rattle.readable.specs.Readable
use Rattle.text_output.specs.Digits
use Rattle.text_output.specs.Printable
use Rattle.text_output.specs.Written
use Rattle.write_spec.specs.Step
use Rattle.write_spec.specs.Records
use Rattle.write_spec.specs.Same
use Rattle.write_spec.specs.Layout
use Rattle.write_spec.specs.Canonical
use Rattle.write_spec.specs.Outcome
use Rattle.write_spec.specs.Payload
use Rattle.write_spec.specs.EdgeChunks
use Rattle.spelling.specs.Names
use Rattle.spelling.specs.Spelling
use Rattle.spelling_parse.specs.Grammar
use Rattle.listing.specs.Listing
use Rattle.worked_examples.specs.Example
use Rattle.worked_examples.specs.Example.{AllHold}
use Rattle.worked_examples.specs.Chunks
use Rattle.worked_examples.specs.Reading as OfReading
use Rattle.worked_examples.specs.Writing as OfWriting
use Rattle.worked_examples.specs.Spelling as OfSpelling
use Rattle.worked_examples.specs.Parsing as OfParsing
use Rattle.worked_examples.specs.Listing as OfListing
use Rattle.worked_examples.specs.Codes as OfCodes
use Rattle.worked_examples.specs.Examples
use Rattle.worked_examples.specs.Examples.{examples}

-- All that has to compute, module by module.
unfoldable words : Unit {0}
unfolding Words.word_at Words.low_at Words.high_at Words.word_bytes Parts.inside Parts.part
words = tt

unfoldable texts : Unit {0}
unfolding Utf8.run Utf8.well_formed Strings.until_nul Strings.if_well_formed Strings.cstring_at Strings.without_nul TextSame.same_bytes
texts = tt

unfoldable codes : Unit {0}
unfolding Table.lookup Table.known Flags.binding_flags_allowed Microsoft.input_types Microsoft.srv_dimensions Microsoft.variable_classes Variable.base_types
codes = tt

unfoldable reflections : Unit {0}
unfolding Reflection.member_count Reflection.map_type Reflection.map_binding Reflection.map_variable Reflection.map_buffer Reflection.map_def Texts.in_place
    Texts.text_bytes
reflections = tt

unfoldable contents : Unit {0}
unfolding Nodes.◌>>=◌ Nodes.nodes_of Reflection.all_variables Contents.contents Contents.type_names Contents.variable_names Contents.outer_names Contents.inner_names
contents = tt

unfoldable reading_steps : Unit {0}
unfolding ReadStep.◌>>=◌ ReadStep.return ReadStep.refuse ReadStep.check ReadStep.text_or ReadStep.take_binding ReadStep.take_buffer ReadStep.take_variable
    ReadStep.take_type
reading_steps = tt

unfoldable types_read : Unit {0}
unfolding Words.word_if Read.read_many Read.on_path Read.read_members Read.cstring_or_empty Read.type_name_at Read.numbers_from Read.read_type
types_read = tt

unfoldable chunks_read : Unit {0}
unfolding types_read Read.default_at Read.variable_from_chunk Read.read_variable Read.buffer_from_chunk Read.read_buffer Read.binding_from_chunk
    Read.read_binding Rd11.rd11_allowed Read.read_rd11 Read.read_tables Read.read_chunk Read.read
chunks_read = tt

unfoldable parts_readable : Unit {0}
unfolding Readable.every Readable.name_readable Readable.default_readable Readable.zero_unless Readable.version_readable Readable.binding_readable
    Readable.numbers_readable
parts_readable = tt

unfoldable readable : Unit {0}
unfolding parts_readable Readable.type_readable Readable.variable_readable Readable.node_count Readable.room_kept Readable.readable_contents
readable = tt

unfoldable writing_steps : Unit {0}
unfolding Step.◌>>=◌ Step.return Step.append Step.add_to_pool Step.padding_at Step.pad Step.word_cells Step.reserve Step.find Step.interned
    Step.add_to_pool_if Step.unless_empty Step.in_member_pool Step.cells_of
writing_steps = tt

unfoldable records : Unit {0}
unfolding Records.halves Records.type_words_in_chunk Records.variable_words_in_chunk Records.buffer_words_in_chunk Records.binding_words_in_chunk
    Records.rd11_words Records.header_words_in_chunk Records.rows
records = tt

unfoldable same : Unit {0}
unfolding Same.numbers_of Same.same_type Same.same_list Same.rd11_numbers Same.same_binding Same.same_variable Same.same_buffer Same.same_def
same = tt

unfoldable parts_placed : Unit {0}
unfolding Layout.zip Layout.name_cells Layout.place_outer_name Layout.place_inner_name Layout.place_default Layout.write_type Layout.place_type
    Layout.place_variable Layout.place_variables
parts_placed = tt

unfoldable layout : Unit {0}
unfolding parts_placed Layout.place_section Layout.place_sections Layout.place_outer_names Layout.place_buffer_parts Layout.place_buffers Layout.place_body
    Layout.place_chunk Layout.layout
layout = tt

unfoldable written : Unit {0}
unfolding Canonical.bytes_facts Canonical.fill Canonical.canonical Written.fitting Outcome.canonical_or16 Outcome.write
written = tt

unfoldable handed_back_lem : Unit {0}
unfolding Payload.unedited Payload.handed_back Payload.as_part Payload.payload_of Payload.payload
handed_back_lem = tt

unfoldable spelled : Unit {0}
unfolding Digits.digits_before Digits.decimal Names.base_name Spelling.dimensions Spelling.array_suffix Spelling.numeric_name Spelling.by_name Spelling.type_spelling
spelled = tt

unfoldable declared : Unit {0}
unfolding spelled Printable.printable Spelling.fields_fit Spelling.type_name Spelling.declaration
declared = tt

unfoldable parsed : Unit {0}
unfolding Names.base_number Grammar.digits_value Grammar.number Grammar.split_once Grammar.without_last Grammar.before_digit Grammar.from_digit Grammar.core
    Grammar.parse_type Grammar.spelled_type
parsed = tt

unfoldable listed : Unit {0}
unfolding Digits.hex Listing.scalars Listing.pad_to Listing.set_names Listing.flags_part Listing.columns Listing.listed
listed = tt

unfoldable edge_chunks : Unit {0}
unfolding EdgeChunks.bytes EdgeChunks.header EdgeChunks.rd11_bytes EdgeChunks.globals_text EdgeChunks.k_text EdgeChunks.no_text EdgeChunks.case_v EdgeChunks.case_v5
edge_chunks = tt

unfoldable edge_contents : Unit {0}
unfolding EdgeChunks.float EdgeChunks.globals EdgeChunks.read_v EdgeChunks.nameless EdgeChunks.float_variable EdgeChunks.floats_ab
edge_contents = tt

unfoldable chunks : Unit {0}
unfolding Chunks.case_e Chunks.one_binding Chunks.with_type Chunks.struct_of Chunks.nested Chunks.twice Chunks.case_vdefault Chunks.chunk_ab
chunks = tt

unfoldable chunk_contents : Unit {0}
unfolding Chunks.with_bindings Chunks.binding Chunks.empty Chunks.structure Chunks.nested_type
chunk_contents = tt

unfoldable groups : Unit {0}
unfolding OfReading.reading_examples OfWriting.writing_examples OfSpelling.spelling_examples OfParsing.parsing_examples OfListing.listing_examples
    OfCodes.code_examples
groups = tt

unfoldable table : Unit {0}
unfolding edge_chunks edge_contents chunks chunk_contents groups Example.given Example.expected
table = tt

unfoldable definitions : Unit {0}
unfolding words texts codes reflections contents reading_steps chunks_read readable writing_steps records same layout written handed_back_lem declared parsed listed
definitions = tt

-- Group by group, so that a refusal names the group and each has the checker's steps for itself.
reading_hold : AllHold OfReading.reading_examples
unfolding definitions table
reading_hold = refl

writing_hold : AllHold OfWriting.writing_examples
unfolding definitions table
writing_hold = refl

spelling_hold : AllHold OfSpelling.spelling_examples
unfolding definitions table
spelling_hold = refl

parsing_hold : AllHold OfParsing.parsing_examples
unfolding definitions table
parsing_hold = refl

listing_hold : AllHold OfListing.listing_examples
unfolding definitions table
listing_hold = refl

codes_hold : AllHold OfCodes.code_examples
unfolding definitions table
codes_hold = refl

-- For each of the examples the definition gives what is right.
pub examples_hold : AllHold examples
unfolding Examples.examples
examples_hold = simp (map-append, reading_hold, writing_hold, spelling_hold, parsing_hold, listing_hold, codes_hold)
