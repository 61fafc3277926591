-- A sentence for each refusal of document 01, "Refusals".
use Rattle.std.specs.Prelude.{List, [], ◌∷◌, ℕ, get_or}
use Rattle.text_output.specs.Ascii.{ascii}

-- The sentences of refusals 1 to 18, by number; 0 is no refusal.
abbrev pub sentences : List (List ℕ)
sentences =
    []
    ∷ ascii "the chunk has fewer than 28 bytes"
    ∷ ascii "the chunk has more than 65,536 bytes"
    ∷ ascii "the major version is neither 4 nor 5"
    ∷ ascii "the creator lies past the end of the chunk, has no NUL or is not UTF-8"
    ∷ ascii "the chunk has major version 5 and fewer than 60 bytes"
    ∷ ascii "a word of the RD11 header is not allowed"
    ∷ ascii "a record or a type descriptor runs past the end of the chunk"
    ∷ ascii "the input type of a binding is above 13"
    ∷ ascii "the dimension of a binding is above 11"
    ∷ ascii "the flags of a binding have a bit outside 0x1f"
    ∷ ascii "a name lies past the end of the chunk, has no NUL or is not UTF-8"
    ∷ ascii "a default value runs past the end of the chunk"
    ∷ ascii "types are nested deeper than 64 levels below a variable's type"
    ∷ ascii "a type descriptor lies on the path to itself"
    ∷ ascii "there is no room for one more record, or the scratch table is too short"
    ∷ ascii "the reflection is not readable: a number, a name or a default value is not one that a chunk can hold"
    ∷ ascii "the output is too small, or more than 65,536 bytes would be written"
    ∷ ascii "the type has no spelling, or the text spells no type"
    ∷ []

-- The sentence of a number; empty for 0 and beyond the table, which are no refusals.
unfoldable pub sentence : ℕ → List ℕ
sentence n = get_or sentences n []
