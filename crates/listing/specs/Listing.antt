-- A listed binding: document 01, "Spelling and listing" (`Display for ResourceBinding` in the Rust).
use Rattle.reflection.specs.Outcome.{Outcome}
use Rattle.reflection.specs.declared.refusal.Refusal.TheVariants.{NotReadable}
use Rattle.std.specs.Prelude.{◌&&◌, cond, List, [], ◌∷◌, ◌++◌, ℕ, suc, ◌+◌, ◌-◌, ◌/◌, ◌%◌, eqb, leb, replicate, Ok, Err}
use Rattle.flags.specs.Flags.{flag}
use Rattle.reflection.specs.declared.ResourceBinding.{ResourceBinding}
use Rattle.reflection.specs.Texts.{text_bytes}
use Rattle.text_output.specs.Digits.{decimal, hex}
use Rattle.text_output.specs.Ascii.{ascii}
use Rattle.text_output.specs.Printable.{printable}
use Rattle.listing.specs.Names.{listed_input_type, listed_dimension, flag_names}

-- How many Unicode scalar values well-formed UTF-8 has: as many as bytes that do not continue a sequence (80..BF).
unfoldable pub scalars : List ℕ → ℕ
scalars [] = 0
scalars (b ∷ bs) = cond (leb 0x80 b && leb b 0xbf) (scalars bs) (suc (scalars bs))

-- A text filled up with spaces to a width in scalar values; nothing is cut.
unfoldable pub pad_to : ℕ → List ℕ → List ℕ
pad_to width text = text ++ replicate (width - scalars text) 32

-- Two texts with a byte between them; one alone where the other is empty.
abbrev pub joined_by : ℕ → List ℕ → List ℕ → List ℕ
joined_by c [] others = others
joined_by c (b ∷ bs) [] = b ∷ bs
joined_by c (b ∷ bs) (x ∷ xs) = (b ∷ bs) ++ (c ∷ x ∷ xs)

-- The names of the flags that a word has, in the table's order, joined by `;`.
unfoldable pub set_names : List (ℕ × List ℕ) → ℕ → List ℕ
set_names [] w = []
set_names (row ∷ rows) w = joined_by 59 (cond (flag row.0 w) row.1 []) (set_names rows w)

-- The names of the flags; `0x` and hex where no bit has a name.
abbrev pub or_hex : ℕ → List ℕ → List ℕ
or_hex w [] = ascii "0x" ++ hex w
or_hex w (b ∷ bs) = b ∷ bs

-- A space and the flags, where they are not 0.
unfoldable pub flags_part : ℕ → List ℕ
flags_part w = cond (eqb w 0) [] (32 ∷ or_hex w (set_names flag_names w))

-- The columns after the name: type name, dimension, slot, count, flags.
unfoldable pub columns : ResourceBinding → List ℕ
columns b =
    pad_to 12 (listed_input_type b.input_type) ++ (32
    ∷ (pad_to 8 (listed_dimension b.dimension) ++ (32
    ∷ (pad_to 4 (decimal b.bind_point) ++ (32
    ∷ (pad_to 5 (decimal b.bind_count) ++ flags_part b.flags.0))))))

-- The line, or a refusal where the name cannot be printed. Any other numbers are listed.
unfoldable pub listed : List ℕ → List ℕ → ResourceBinding → Outcome (List ℕ)
listed chunk edits b =
    cond (printable chunk edits b.name)
    (Ok (pad_to 20 (text_bytes chunk edits b.name) ++ (32 ∷ columns b)))
    (Err NotReadable)

-- How many components a texture returns: 1 plus the number in flag bits 2 and 3.
abbrev pub component_count : ℕ → ℕ
component_count w = 1 + w / 4 % 4
