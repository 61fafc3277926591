-- What the exported functions hand to C and Rust: an answer as numbers (docs/ROOM.md has the layout).
use Rattle.reflection.specs.Outcome.{Outcome}
use Rattle.reflection.specs.Refusals.{refusal_number}
use Rattle.std.specs.Prelude.{List, [], ◌∷◌, ℕ, ◌≤◌, length, replicate, get_or, Ok, Err}
use Rattle.words.specs.Splice.{splice}
use Rattle.reflection.specs.Limits.{chunk_limit}
use Rattle.reflection.specs.declared.Text.{Text}
use Rattle.reflection.specs.declared.ResourceDef.{ResourceDef as Header}
use Rattle.reflection.specs.Reflection.{ResourceDef}
use Rattle.tables.specs.Records.{binding_at, type_at, variable_at}
use Rattle.tables.specs.Tables.{header_of}
use Rattle.text_output.specs.Written.{fitting, Written}
use Rattle.spelling_parse.specs.declared.TypeSpelling.{TypeSpelling}
use Rattle.spelling.specs.Spelling.{type_name, declaration}
use Rattle.spelling_parse.specs.Grammar.{parse_type, spelled_type}
use Rattle.listing.specs.Listing.{listed}
use Rattle.refusal_text.specs.Sentences.{sentence}

-- 0 for a value, else the refusal's number.
unfoldable pub number_of : {A : Type 0} → Outcome A → ℕ
number_of (Ok x) = 0
number_of (Err e) = refusal_number e

-- A lent result of n words: the value's words, as far as they fit, and zeros; after a refusal zeros.
unfoldable pub result_table : {A : Type 0} → (A → List ℕ) → Outcome A → ℕ → List ℕ
result_table words (Ok x) n = splice (replicate n 0) 0 (words x)
result_table words (Err e) n = replicate n 0

-- The header's words, and a lent header of n words.
unfoldable pub header_words_in_table : Header → List ℕ
header_words_in_table h =
    h.target_version ∷ h.compile_flags ∷ h.creator.source ∷ h.creator.place ∷ h.creator.length
    ∷ h.rd11.identifier ∷ h.rd11.resource_binding_stride ∷ h.rd11.interface_slot_count
    ∷ h.binding_count ∷ h.buffer_count ∷ h.variable_count ∷ h.type_count ∷ []

-- The header that such words are; words that are missing are 0.
unfoldable pub header_at : List ℕ → Header
header_at w = record {
  target_version = get_or w 0 0;
  compile_flags = get_or w 1 0;
  creator = record { source = get_or w 2 0; place = get_or w 3 0; length = get_or w 4 0 };
  rd11 = record { identifier = get_or w 5 0; resource_binding_stride = get_or w 6 0; interface_slot_count = get_or w 7 0 };
  binding_count = get_or w 8 0;
  buffer_count = get_or w 9 0;
  variable_count = get_or w 10 0;
  type_count = get_or w 11 0;
}

abbrev pub header_table : Outcome (ResourceDef Text Text) → ℕ → List ℕ
header_table out n = result_table (λ (r : ResourceDef Text Text). header_words_in_table (header_of r)) out n

-- A written text's length in a lent length of n words.
abbrev pub one_word : ℕ → List ℕ
one_word n = n ∷ []

abbrev pub length_table : Outcome (List ℕ) → ℕ → List ℕ
length_table out n = result_table (λ (bytes : List ℕ). one_word (length bytes)) out n

-- A spelling's five numbers, and a lent result of n words for them.
unfoldable pub spelling_words : TypeSpelling → List ℕ
spelling_words s = s.class ∷ s.base ∷ s.rows ∷ s.columns ∷ s.elements ∷ []

abbrev pub spelling_table : Outcome TypeSpelling → ℕ → List ℕ
spelling_table out n = result_table spelling_words out n

-- A written length is at most 65,536, so it is a word.
abbrev pub LengthFits : Written → Type 0
LengthFits (Ok n) = n ≤ chunk_limit
LengthFits (Err e) = Unit

-- The spelling of the type that is record 0 of a table, for an output as long as this.
unfoldable pub type_name_into : List ℕ → List ℕ → List ℕ → List ℕ → Outcome (List ℕ)
type_name_into chunk edits types out = fitting (length out) (type_name chunk edits (type_at types 0))

-- The declaration line of the variable that is record 0 of a table, with the type that is record 0 of another.
unfoldable pub declaration_into : List ℕ → List ℕ → List ℕ → List ℕ → List ℕ → Outcome (List ℕ)
declaration_into chunk edits types variables out = fitting (length out) (declaration chunk edits (type_at types 0) (variable_at variables 0).name)

-- The line of the binding that is record 0 of a table.
unfoldable pub listed_into : List ℕ → List ℕ → List ℕ → List ℕ → Outcome (List ℕ)
listed_into chunk edits bindings out = fitting (length out) (listed chunk edits (binding_at bindings 0))

-- What a text spells.
unfoldable pub type_read : List ℕ → Outcome TypeSpelling
type_read text = spelled_type (parse_type text)

-- The sentence of a refusal's number, for an output as long as this.
unfoldable pub sentence_into : ℕ → List ℕ → Outcome (List ℕ)
sentence_into number out = fitting (length out) (Ok (sentence number))
