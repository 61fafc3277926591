-- Names and defaults: a place and a length in one of two lent buffers, the chunk or the text of edits (document 01, "What a reflection holds").
use Rattle.std.specs.Prelude.{Bool, true, false, Option, Some, None, Ok, Err, List, [], ℕ, eqb, length, get_or}
use Rattle.words.specs.Parts.{inside, part}
use Rattle.reflection.specs.declared.Text.{Text}
use Rattle.reflection.specs.declared.refusal.Refusal.TheVariants.{NotReadable}
use Rattle.reflection.specs.Outcome.{Outcome}

-- A text by its three words.
abbrev pub text_of : List ℕ → Text
text_of words = record { source = get_or words 0 0; place = get_or words 1 0; length = get_or words 2 0 }

-- A text in the chunk; an empty text "at place 0" is `in_chunk 0 0`.
abbrev pub in_chunk : ℕ → ℕ → Text
in_chunk place n = record { source = 0; place = place; length = n }

-- The lent text that a source names: 0 the chunk, 1 the text of edits.
abbrev pub source_of : List ℕ → List ℕ → ℕ → Option (List ℕ)
source_of chunk edits source =
    elim (eqb source 0) [
      | true ↦ Some chunk
      | false ↦ elim (eqb source 1) [ true ↦ Some edits | false ↦ None ]
    ]

-- Whether the text lies in the buffer that its source names: 0 the chunk, 1 the text of edits.
unfoldable pub in_place : List ℕ → List ℕ → Text → Bool
in_place chunk edits t =
    elim (eqb t.source 0) [
      | true ↦ inside (length chunk) t.place t.length
      | false ↦ elim (eqb t.source 1) [ true ↦ inside (length edits) t.place t.length | false ↦ false ]
    ]

-- The text's bytes; none where it is not in place.
unfoldable pub text_bytes : List ℕ → List ℕ → Text → List ℕ
text_bytes chunk edits t =
    elim (eqb t.source 0) [
      | true ↦ part chunk t.place t.length
      | false ↦ elim (eqb t.source 1) [ true ↦ part edits t.place t.length | false ↦ [] ]
    ]

-- What the call beside a name says: the name is in place, or refused.
abbrev pub name_place : Bool → Outcome (Unit {0})
name_place true = Ok tt
name_place false = Err NotReadable
