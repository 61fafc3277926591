-- The spelling of a scalar, vector or matrix reads back as its numbers: class, base type, rows, columns and elements. A matrix by rows (class 2) comes
-- back as one by columns (class 3), since the spelling does not tell them apart. The spelling comes apart where it was put together.
use Rattle.std.specs.Prelude.{Ok, None, Some}
use mathlib.Core.Path.{◌≡◌, refl, sym, ap, ◌∙◌}
use mathlib.Core.Bool.{Bool, true, false, ◌&&◌, cond, true≢false}
use mathlib.Core.List.{List, [], ◌∷◌, ◌++◌, append_assoc}
use Prim.Native.Nat.{ℕ, ◌<◌}
use native.Mathlib.Decide.{ℕ_discrete}
use native.Mathlib.Omega.{arith}
use borrow.Author.Tests.{ltb-true, ne_eqb, le-leb, lt-leb}
use lib.Dec.{eqb, ltb, leb-zero}
use lib.ListN.{length}
use Rattle.words.specs.Parts.{inside}
use Rattle.words.proofs.Parts.{part_inside}
use Rattle.text.specs.Same.{same_bytes}
use Rattle.text.specs.Utf8.{run, well_formed}
use Rattle.text.proofs.Bools.{and-true}
use Rattle.reflection.specs.Limits.{u16_limit}
use Rattle.reflection.specs.declared.TypeDesc.{TypeDesc}
use Rattle.reflection.specs.Texts.{in_chunk, text_bytes}
use Rattle.reflection.proofs.TextParts.{place_in_chunk, bytes_in_chunk}
use Rattle.text_output.specs.Digits.{decimal}
use Rattle.text_output.specs.Printable.{printable}
use Rattle.spelling_parse.specs.declared.TypeSpelling.{TypeSpelling}
use Rattle.spelling.specs.Names.{base_name, base_number}
use Rattle.spelling.specs.Spelling.{dimensions, array_suffix, by_name, type_spelling, is_spelled, bytes_of, fields_fit, type_name}
use Rattle.spelling_parse.specs.Grammar.{Shape, shape, parse_type}
use Rattle.spelling_parse.proofs.WriteDecimal.{Each, each_append, each_so, decimal_digits}
use Rattle.spelling.proofs.WritePieces.{scalar_dimensions, vector_dimensions, matrix_dimensions, numbers_spelled, numbers_bytes}
use Rattle.spelling.proofs.WriteRefusals.{type_spelled}
use Rattle.spelling_parse.proofs.WriteSplit.{Other, NoDigit, FromDigit, digits_other, suffix_parted, core_parted}
use Rattle.spelling_parse.proofs.WriteSplit.{vector_shape, vector_from_digit, matrix_shape, matrix_from_digit}

-- a type by its numbers: a scalar has one row and one column, a vector one row
pub data Numeric (t : TypeDesc) : Type 0 where
  scalar : t.class ≡ 0 → t.rows ≡ 1 → t.columns ≡ 1 → Numeric t
  vector : t.class ≡ 1 → t.rows ≡ 1 → Numeric t
  matrix_by_rows : t.class ≡ 2 → Numeric t
  matrix_by_columns : t.class ≡ 3 → Numeric t

-- what comes back
abbrev pub read_back : TypeDesc → TypeSpelling
read_back t = record {
  class = cond (eqb t.class 2) 3 t.class;
  base = t.var_type;
  rows = t.rows;
  columns = t.columns;
  elements = t.elements;
}

-- a type has a spelling, and it reads back
abbrev pub ReadsBack : List ℕ → List ℕ → TypeDesc → Type 0
ReadsBack chunk edits t = (bytes : List ℕ) × ((type_name chunk edits t ≡ Ok bytes) × (parse_type bytes ≡ Some (read_back t)))

-- a base name is letters: none is a digit or a `[`
abbrev Letter : ℕ → Type 0
Letter b = 91 < b

letters_only : List ℕ → Bool
letters_only [] = true
letters_only (b ∷ bs) = ltb 91 b && letters_only bs

letters_each : (xs : List ℕ) → letters_only xs ≡ true → Each Letter xs
unfolding letters_only
letters_each [] e = tt
letters_each (b ∷ bs) e = let both = and-true (ltb 91 b) (letters_only bs) e in (ltb-true 91 b both.0, letters_each bs both.1)

letter_no_digit : (b : ℕ) → Letter b → NoDigit b
letter_no_digit b h = rw (le-leb 48 b (omega arith), lt-leb b 57 (omega arith))

-- a base name reads back as its number
base_unnamed : (n : ℕ) → (1 ≡ n → ⊥) → (2 ≡ n → ⊥) → (3 ≡ n → ⊥) → (19 ≡ n → ⊥) → (39 ≡ n → ⊥) → base_name n ≡ None
unfolding base_name
base_unnamed n a b c d e = rw (ne_eqb 1 n a, ne_eqb 2 n b, ne_eqb 3 n c, ne_eqb 19 n d, ne_eqb 39 n e)

base_cases : (P : ℕ → Type 0) → P 1 → P 2 → P 3 → P 19 → P 39 → (n : ℕ) → is_spelled (base_name n) ≡ true → P n
base_cases P bool int float uint double n e =
    elim (ℕ_discrete 1 n) [
      | yes a ↦ rw (← a) bool
      | no a ↦ elim (ℕ_discrete 2 n) [
        | yes b ↦ rw (← b) int
        | no b ↦ elim (ℕ_discrete 3 n) [
          | yes c ↦ rw (← c) float
          | no c ↦ elim (ℕ_discrete 19 n) [
            | yes d ↦ rw (← d) uint
            | no d ↦ elim (ℕ_discrete 39 n) [
              | yes g ↦ rw (← g) double
              | no g ↦ let z : is_spelled (base_name n) ≡ false = ap is_spelled (base_unnamed n a b c d g) in absurd (true≢false (sym e ∙ z))
            ]
          ]
        ]
      ]
    ]

BaseReads : ℕ → Type 0
BaseReads n = (base_number (bytes_of (base_name n)) ≡ Some n) × (letters_only (bytes_of (base_name n)) ≡ true)

base_reads : (n : ℕ) → is_spelled (base_name n) ≡ true → BaseReads n
unfolding BaseReads base_name base_number same_bytes letters_only
base_reads = base_cases BaseReads (refl, refl) (refl, refl) (refl, refl) (refl, refl) (refl, refl)

-- base, dimensions and suffix, read back
module _ (n elements : ℕ) (dims : List ℕ) (s : Shape) (named : is_spelled (base_name n) ≡ true) (low : elements < u16_limit)
    (begins : FromDigit dims) (unopened : Each (Other 91) dims) (shaped : shape dims ≡ Some s) where
  name : List ℕ
  name = bytes_of (base_name n)

  letters : Each Letter name
  unfolding name BaseReads
  letters = letters_each name (base_reads n named).1

  pub pieces_read_back : parse_type (bytes_of (base_name n) ++ (dims ++ array_suffix elements))
      ≡ Some (record { class = s.0; base = n; rows = s.1.0; columns = s.1.1; elements = elements })
  unfolding name BaseReads
  pieces_read_back =
      ap parse_type (sym (append_assoc name dims (array_suffix elements)))
      ∙ suffix_parted (name ++ dims) elements (each_append (Other 91) name dims (each_so Letter (Other 91) (λ b h e. omega arith) name letters) unopened) low
      ∙ core_parted name dims n elements s (each_so Letter NoDigit letter_no_digit name letters) begins (base_reads n named).0 shaped

-- the fields of a type that fit 16 bits
record Below (t : TypeDesc) : Type 0 where
  pub rows : t.rows < u16_limit
  pub columns : t.columns < u16_limit
  pub elements : t.elements < u16_limit

fields_below : (t : TypeDesc) → fields_fit t ≡ true → Below t
unfolding fields_fit
fields_below t e =
    let class = and-true (ltb t.class u16_limit) _ e in
    let base = and-true (ltb t.var_type u16_limit) _ class.1 in
    let rows = and-true (ltb t.rows u16_limit) _ base.1 in
    let columns = and-true (ltb t.columns u16_limit) _ rows.1 in
    let elements = and-true (ltb t.elements u16_limit) _ columns.1 in
    record {
      rows = ltb-true t.rows u16_limit rows.0;
      columns = ltb-true t.columns u16_limit columns.0;
      elements = ltb-true t.elements u16_limit elements.0;
    }

-- a name is not printed here, but it must be one that can be; an empty one can
nothing_inside : (chunk : List ℕ) → inside (length chunk) 0 0 ≡ true
unfolding inside
nothing_inside chunk = leb-zero (length chunk)

pub empty_name_printable : (chunk edits : List ℕ) → printable chunk edits (in_chunk 0 0) ≡ true
unfolding printable well_formed run
empty_name_printable chunk edits =
    let placed = place_in_chunk chunk edits (in_chunk 0 0) refl ∙ nothing_inside chunk in
    let empty = bytes_in_chunk chunk edits (in_chunk 0 0) refl ∙ part_inside chunk 0 0 (nothing_inside chunk) in
    rw (placed, empty)

module _ (chunk edits : List ℕ) (t : TypeDesc) (alone : t.member_count ≡ 0) (printed : printable chunk edits t.name ≡ true)
    (fit : fields_fit t ≡ true) (named : is_spelled (base_name t.var_type) ≡ true) where
  by_numbers_lem : t.class < 4 → by_name t ≡ false
  unfolding by_name
  by_numbers_lem low = rw (alone, ne_eqb t.class 5 (λ e. omega arith))

  by_dimensions : (dims : List ℕ) (s : Shape) → t.class < 4 → dimensions t.class t.rows t.columns ≡ Some dims → FromDigit dims
      → Each (Other 91) dims → shape dims ≡ Some s
      → record { class = s.0; base = t.var_type; rows = s.1.0; columns = s.1.1; elements = t.elements } ≡ read_back t → ReadsBack chunk edits t
  by_dimensions dims s low is-dims begins unopened shaped same =
      let own = text_bytes chunk edits t.name in
      let numbers = by_numbers_lem low in
      let spelled : is_spelled (type_spelling own t) ≡ true = numbers_spelled own t numbers named ∙ ap is_spelled is-dims in
      let pieces = numbers_bytes own t numbers spelled ∙ ap (λ o. bytes_of (base_name t.var_type) ++ (bytes_of o ++ array_suffix t.elements)) is-dims in
      let read = pieces_read_back t.var_type t.elements dims s named (fields_below t fit).elements begins unopened shaped in
      (bytes_of (type_spelling own t), (type_spelled chunk edits t printed fit spelled, ap parse_type pieces ∙ read ∙ ap Some same))

  matrix_reads_back : 1 < t.class → t.class < 4 → cond (eqb t.class 2) 3 t.class ≡ 3 → ReadsBack chunk edits t
  matrix_reads_back low high class =
      let below = fields_below t fit in
      let dims = matrix_dimensions t.class t.rows t.columns low high in
      let rows = digits_other 91 (omega arith) (decimal t.rows) (decimal_digits t.rows) in
      let columns = digits_other 91 (omega arith) (decimal t.columns) (decimal_digits t.columns) in
      let unopened = each_append (Other 91) (decimal t.rows) (120 ∷ decimal t.columns) rows ((λ e. omega arith), columns) in
      by_dimensions (decimal t.rows ++ (120 ∷ decimal t.columns)) (3, (t.rows, t.columns)) high dims
      (matrix_from_digit t.rows (120 ∷ decimal t.columns)) unopened (matrix_shape t.rows t.columns below.rows below.columns) (rw class)

  pub spelling_reads_back : Numeric t → ReadsBack chunk edits t
  spelling_reads_back (scalar c r k) =
      by_dimensions [] (0, (1, 1)) (omega arith) (scalar_dimensions t.class t.rows t.columns c) tt tt refl (rw (c, r, k))
  spelling_reads_back (vector c r) =
      let below = fields_below t fit in
      let digits = digits_other 91 (omega arith) (decimal t.columns) (decimal_digits t.columns) in
      by_dimensions (decimal t.columns) (1, (1, t.columns)) (omega arith) (vector_dimensions t.class t.rows t.columns c)
      (vector_from_digit t.columns) digits (vector_shape t.columns below.columns) (rw (c, r))
  spelling_reads_back (matrix_by_rows c) = matrix_reads_back (omega arith) (omega arith) (rw c)
  spelling_reads_back (matrix_by_columns c) = matrix_reads_back (omega arith) (omega arith) (rw c)
