-- A name or a default whose cells stand in the layout is found there by reading, with its own bytes and its own cells: a name by the law on C strings, a
-- default because it lies in the chunk. An offset of 0 means empty in both.
use mathlib.Core.Path.{◌≡◌, refl, ap, sym, ◌∙◌, subst}
use mathlib.Core.List.{List, [], ◌∷◌, ◌++◌, map, append_assoc, map-append}
use mathlib.Core.Bool.{true, ◌||◌}
use Prim.Native.Nat.{ℕ, zero, suc, ◌<◌, ◌≤◌}
use native.Mathlib.Omega.{arith}
use borrow.Author.Tests.{eqb-true, ne_eqb}
use lib.Dec.{eqb}
use lib.ListN.{length, take, drop, get_or, length-append}
use Rattle.words.proofs.Parts.{fits_inside, part_inside}
use Rattle.text.specs.Strings.{span}
use Rattle.std.specs.Prelude.{Some}
use Rattle.text.specs.Utf8.{well_formed}
use Rattle.text.specs.Strings.{cstring_at, without_nul}
use Rattle.text.proofs.Bools.{and-true}
use Rattle.text.proofs.Written.{cstring_of_string}
use Rattle.reflection.specs.declared.Text.{Text}
use Rattle.reflection.specs.Texts.{in_chunk, text_bytes}
use Rattle.reflection.specs.Contents.{Bytes}
use Rattle.reflection.proofs.TextParts.{bytes_in_chunk}
use Rattle.read_spec.specs.Read.{cstring_or_empty, default_at}
use Rattle.readable.specs.Readable.{name_readable, default_readable}
use Rattle.write_spec.specs.Step.{Cell, byte, name_byte, default_byte, cells_of}
use Rattle.write_spec.specs.Layout.{name_cells}
use Rattle.write_spec.specs.Canonical.{bytes_facts, fill}
use Rattle.theorem_round_trip.specs.RoundTrip.{cells_in, cells_of_name, cells_of_default}
use Rattle.theorem_round_trip.proofs.Holds.{Holds, holds_left, holds_take, holds_map, bytes_of}

-- A text of the written chunk: its bytes and the layout's cells there. A name and a default, likewise.
unfoldable pub text_in : List (Cell Bytes Bytes) → Text → Bytes × List (Cell Bytes Bytes)
text_in cells t = (text_bytes (bytes_of cells) [] t, cells_in cells t)

unfoldable pub name_in : Bytes → Bytes × List (Cell Bytes Bytes)
name_in n = (n, cells_of_name n)

unfoldable pub default_in : Bytes → Bytes × List (Cell Bytes Bytes)
default_in d = (d, cells_of_default d)

pub length_cells_of : (n : ℕ) (cell : ℕ → Cell Bytes Bytes) → length (cells_of n cell) ≡ n
unfolding cells_of
length_cells_of zero cell = refl
length_cells_of (suc n) cell = ap suc (length_cells_of n (λ j. cell (suc j)))

-- The bytes of a text's cells are the text.
pub fill_cells_of : (l : Bytes) (cell : ℕ → Cell Bytes Bytes) → ((j : ℕ) → fill (cell j) ≡ get_or l j 0) → map fill (cells_of (length l) cell) ≡ l
unfolding cells_of
fill_cells_of [] cell h = refl
fill_cells_of (x ∷ xs) cell h = let q = fill_cells_of xs (λ j. cell (suc j)) (λ j. h (suc j)) in λ i. h 0 i ∷ q i

text_bytes_lem : (out : Bytes) (o : ℕ) (s : Bytes) → Holds out o s → text_bytes out [] (in_chunk o (length s)) ≡ s
text_bytes_lem out o s h =
    bytes_in_chunk out [] (in_chunk o (length s)) refl ∙ part_inside out o (length s) (fits_inside (length out) o (length s) h.fits)
    ∙ holds_take s h

text_cells : (cells : List (Cell Bytes Bytes)) (o n : ℕ) (cell : ℕ → Cell Bytes Bytes) → Holds cells o (cells_of n cell)
    → cells_in cells (in_chunk o n) ≡ cells_of n cell
unfolding cells_in
text_cells cells o n cell h = ap (λ (k : ℕ). take k (drop o cells)) (sym (length_cells_of n cell)) ∙ holds_take (cells_of n cell) h

module _ (cells : List (Cell Bytes Bytes)) where
  -- The name s lies at the offset o.
  pub record NameAt (o : ℕ) (s : Bytes) : Type 0 where
    pub found : cstring_at (bytes_of cells) o ≡ Some (span o (length s))
    pub is : text_in cells (in_chunk o (length s)) ≡ name_in s
    pub below_end : o < length cells
    pub positive : 0 < o

  pub name-at : (o : ℕ) (s : Bytes) → name_readable s ≡ true → 0 < o → Holds cells o (name_cells bytes_facts s) → NameAt o s
  unfolding name_readable name_cells bytes_facts fill text_in name_in cells_of_name
  name-at o s readable positive h =
      let own-cells : List (Cell Bytes Bytes) = cells_of (length s) (name_byte s) in
      let (no_nul, formed) = and-true (without_nul s) (well_formed s) readable in
      let name : Holds (bytes_of cells) o (map fill own-cells ++ (0 ∷ [])) = subst (λ l. Holds (bytes_of cells) o l)
      (map-append fill own-cells (byte 0 ∷ [])) (holds_map fill (own-cells ++ (byte 0 ∷ [])) h) in
      let written : Holds (bytes_of cells) o (s ++ (0 ∷ [])) = subst (λ l. Holds (bytes_of cells) o (l ++ (0 ∷ [])))
      (fill_cells_of s (name_byte s) (λ j. refl)) name in
      let bytes = text_bytes_lem (bytes_of cells) o s (holds_left s (0 ∷ []) written) in
      let own = text_cells cells o (length s) (name_byte s) (holds_left own-cells (byte 0 ∷ []) h) in
      record {
        found = cstring_of_string (bytes_of cells) s written.rest o (written.is ∙ append_assoc s (0 ∷ []) written.rest) no_nul formed;
        is = λ i. (bytes i, own i);
        below_end = omega (arith, h.fits, length-append own-cells (byte 0 ∷ []));
        positive = positive;
      }

  -- A name that may be empty: then its offset is 0.
  pub record NameOrEmpty (o : ℕ) (s : Bytes) : Type 0 where
    pub found : cstring_or_empty (bytes_of cells) o ≡ Some (span o (length s))
    pub is : text_in cells (in_chunk o (length s)) ≡ name_in s
    pub small : o ≤ length cells
    pub empty : length s ≡ 0 → o ≡ 0

  empty_text : (s : Bytes) (f : Bytes → Bytes × List (Cell Bytes Bytes)) → f [] ≡ text_in cells (in_chunk 0 0) → length s ≡ 0
      → text_in cells (in_chunk 0 (length s)) ≡ f s
  empty_text [] f e z = sym e
  empty_text (x ∷ s) f e z = absurd (omega arith)

  no_bytes : text_bytes (bytes_of cells) [] (in_chunk 0 0) ≡ []
  no_bytes = text_bytes_lem (bytes_of cells) 0 [] (record { rest = bytes_of cells; is = refl; fits = omega arith })

  pub empty_name : (s : Bytes) → length s ≡ 0 → NameOrEmpty 0 s
  unfolding cstring_or_empty text_in name_in cells_of_name cells_in cells_of
  empty_name s e = record {
    found = ap (λ (n : ℕ). Some (span 0 n)) (sym e);
    is = empty_text s name_in (λ i. (sym no_bytes i, [])) e;
    small = omega arith;
    empty = λ _. refl;
  }

  pub some_name : (o : ℕ) (s : Bytes) → 0 < length s → NameAt o s → NameOrEmpty o s
  unfolding cstring_or_empty
  some_name zero s some_byte h = absurd (omega (arith, h.positive))
  some_name (suc o) s some_byte h = record { found = h.found; is = h.is; small = omega (arith, h.below_end); empty = λ e. absurd (omega arith) }

  -- The default d lies at the offset o; an empty one at 0.
  pub record DefaultAt (o : ℕ) (d : Bytes) : Type 0 where
    pub found : (size : ℕ) → default_readable size d ≡ true → default_at (bytes_of cells) o size ≡ Some (span o (length d))
    pub is : text_in cells (in_chunk o (length d)) ≡ default_in d
    pub small : o ≤ length cells

  pub empty_default : (d : Bytes) → length d ≡ 0 → DefaultAt 0 d
  unfolding default_at text_in default_in cells_of_default cells_in cells_of
  empty_default d e = record {
    found = λ size _. ap (λ (n : ℕ). Some (span 0 n)) (sym e);
    is = empty_text d default_in (λ i. (sym no_bytes i, [])) e;
    small = omega arith;
  }

  -- A default that is not empty is as long as its variable.
  sized : (size : ℕ) (d : Bytes) → 0 < length d → default_readable size d ≡ true → length d ≡ size
  unfolding default_readable
  sized size d some_byte e = eqb-true (length d) size (subst (λ t. (t || eqb (length d) size) ≡ true) (ne_eqb (length d) 0 (λ z. omega arith)) e)

  pub default_at_lem : (o : ℕ) (d : Bytes) → 0 < o → 0 < length d → Holds cells o (cells_of (length d) (default_byte d)) → DefaultAt o d
  unfolding default_at fill text_in default_in cells_of_default
  default_at_lem zero d positive some_byte h = absurd (omega arith)
  default_at_lem (suc o) d positive some_byte h =
      let written : Holds (bytes_of cells) (suc o) d = subst (λ l. Holds (bytes_of cells) (suc o) l) (fill_cells_of d (default_byte d) (λ j. refl))
      (holds_map fill (cells_of (length d) (default_byte d)) h) in
      let bytes = text_bytes_lem (bytes_of cells) (suc o) d written in
      let own = text_cells cells (suc o) (length d) (default_byte d) h in
      record {
        found = λ size e.
            let long = sized size d some_byte e in
            let fits = fits_inside (length (bytes_of cells)) (suc o) size (omega (arith, written.fits, long)) in
            rw (default_at, fits) (ap (λ (n : ℕ). Some (span (suc o) n)) (sym long));
        is = λ i. (bytes i, own i);
        small = omega (arith, h.fits);
      }
