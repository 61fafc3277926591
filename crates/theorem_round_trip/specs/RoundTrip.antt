-- Vocabulary of proofs: of the functions themselves the round trip is said in crates/theorem_functions/specs/RoundTrip.antt.
-- ROUND TRIP (document 01, demand 2: what is written reads back with every field restored and writes the same bytes again). `Restored r` says of a
-- reflection's canonical form: it reads; what is read has every number, name and default of r; each text lies where the layout put that text's cells; each
-- default lies where the layout's result says; and what was read is written as the same bytes. proofs/RoundTrip.antt proves it of all that is readable.
use Rattle.std.specs.Prelude.{◌≡◌, List, [], ◌∷◌, ◌++◌, ℕ, ◌<◌, length, take, drop, Ok}
use Rattle.reflection.specs.declared.Text.{Text}
use Rattle.reflection.specs.Reflection.{TypeDesc, type_desc, Members, no_member, member, CBufferVariable, CBufferDef, ResourceBinding}
use Rattle.reflection.specs.Reflection.{ResourceDef, map_def, slots_of, identifier_of, stride_of}
use Rattle.reflection.specs.Texts.{in_chunk}
use Rattle.reflection.specs.Contents.{Bytes, contents, defaults_of}
use Rattle.read_spec.specs.Step.{full_room}
use Rattle.read_spec.specs.Read.{read}
use Rattle.write_spec.specs.Step.{Cell, name_byte, default_byte, cells_of}
use Rattle.write_spec.specs.Records.{BodyOffsets, Section, VariableOffsets}
use Rattle.write_spec.specs.Layout.{layout}
use Rattle.write_spec.specs.Canonical.{bytes_facts, canonical}

-- Every number that stands in a chunk as a word; a type's 16-bit numbers are in readable.
unfoldable mutual
  pub type_numbers : {N : Type 0} → TypeDesc N → List ℕ
  type_numbers (type_desc k n ms) = k.extra0 ∷ k.extra1 ∷ k.extra2 ∷ k.extra3 ∷ member_numbers ms

  pub member_numbers : {N : Type 0} → Members N → List ℕ
  member_numbers no_member = []
  member_numbers (member n offset t ms) = offset ∷ (type_numbers t ++ member_numbers ms)

unfoldable pub variable_numbers : {N D : Type 0} → CBufferVariable N D → List ℕ
variable_numbers v =
    v.offset ∷ v.size ∷ v.flags ∷ v.texture_start ∷ v.texture_size ∷ v.sampler_start ∷ v.sampler_size ∷ type_numbers v.var_type

unfoldable pub binding_numbers : {N : Type 0} → ResourceBinding N → List ℕ
binding_numbers b =
    b.input_type ∷ b.return_type ∷ b.dimension ∷ b.num_samples ∷ b.bind_point ∷ b.bind_count ∷ b.flags ∷ b.space ∷ b.id ∷ []

-- All of them are below 2^32, as in tables of words.
unfoldable pub EachIsWord : List ℕ → Type 0
EachIsWord [] = Unit {0}
EachIsWord (n ∷ ns) = (n < 4294967296) × EachIsWord ns

unfoldable pub AllWords : {A : Type 0} → (A → List ℕ) → List A → Type 0
AllWords numbers [] = Unit {0}
AllWords numbers (x ∷ xs) = EachIsWord (numbers x) × AllWords numbers xs

unfoldable pub buffer_numbers : {N D : Type 0} → CBufferDef N D → List ℕ
buffer_numbers b = b.size ∷ b.flags ∷ b.cb_type ∷ []

unfoldable pub BuffersWords : {N D : Type 0} → List (CBufferDef N D) → Type 0
BuffersWords [] = Unit {0}
BuffersWords (b ∷ bs) = EachIsWord (buffer_numbers b) × (AllWords variable_numbers b.variables × BuffersWords bs)

pub record NumbersAreWords {N D : Type 0} (r : ResourceDef N D) : Type 0 where
  pub header : EachIsWord (r.target_version ∷ r.compile_flags ∷ identifier_of r.rd11 ∷ stride_of r.rd11 ∷ slots_of r.rd11 ∷ [])
  pub bindings : AllWords binding_numbers r.bindings
  pub buffers : BuffersWords r.constant_buffers

-- The cells that the layout put where a text lies.
unfoldable pub cells_in : List (Cell Bytes Bytes) → Text → List (Cell Bytes Bytes)
cells_in cells t = take t.length (drop t.place cells)

-- The cells of a name and of a default.
unfoldable pub cells_of_name : Bytes → List (Cell Bytes Bytes)
cells_of_name n = cells_of (length n) (name_byte n)

unfoldable pub cells_of_default : Bytes → List (Cell Bytes Bytes)
cells_of_default d = cells_of (length d) (default_byte d)

-- Where the layout's result says that the defaults lie: an offset and the default's length; an empty one at 0.
unfoldable pub places_of : {D : Type 0} → (D → ℕ) → List VariableOffsets → List D → List Text
places_of long (o ∷ os) (d ∷ ds) = in_chunk o.default (long d) ∷ places_of long os ds
places_of long [] ds = []
places_of long (o ∷ os) [] = []

unfoldable pub section_offsets : List (ℕ × Section) → List VariableOffsets
section_offsets [] = []
section_offsets (s ∷ ss) = s.1.offsets ++ section_offsets ss

unfoldable pub default_places : {N D : Type 0} → (D → ℕ) → BodyOffsets → ResourceDef N D → List Text
default_places long o r = places_of long (section_offsets o.sections) (defaults_of r)

pub record Restored (r : ResourceDef Bytes Bytes) : Type 0 where
  pub read_back : ResourceDef Text Text
  pub reads : read full_room (canonical r) ≡ Ok read_back
  pub restored : contents (canonical r) [] read_back ≡ r
  pub assigned : map_def (cells_in (layout bytes_facts r).cells) (cells_in (layout bytes_facts r).cells) read_back ≡ map_def cells_of_name cells_of_default r
  pub default_places : defaults_of read_back ≡ default_places length (layout bytes_facts r).result r
  pub again : canonical (contents (canonical r) [] read_back) ≡ canonical r
