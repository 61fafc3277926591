-- `Holds out at part`: the part stands in the list from an index on. Cells that stand in a layout are bytes that stand in its bytes, and words that stand
-- there are the words that are read there: by the laws on parts and words.
use mathlib.Core.Path.{◌≡◌, refl, ap, sym, ◌∙◌, subst}
use mathlib.Core.List.{List, [], ◌∷◌, ◌++◌, map, append_assoc, map-append}
use mathlib.Core.Bool.{Bool, true, false}
use Prim.Native.Nat.{ℕ, zero, suc, ◌+◌, ◌*◌, ◌<◌, ◌≤◌}
use native.Mathlib.Omega.{arith}
use native.Mathlib.Nat.{add-zero}
use lib.ListN.{length, take, drop, get_or, length-append, length-map}
use lib.Seq.{drop-drop, drop-append_seam, take-append_seam}
use Rattle.words.specs.Words.{word_at, word_bytes}
use Rattle.words.specs.Parts.{inside}
use Rattle.words.proofs.Words.{word_of_bytes}
use Rattle.words.proofs.Parts.{fits_inside}
use Rattle.words.proofs.Records.{word_of_record}
use Rattle.reflection.specs.Contents.{Bytes}
use Rattle.words.specs.Words.{word_if}
use Rattle.write_spec.specs.Step.{Cell, byte, word_cells}
use Rattle.write_spec.specs.Records.{words_if}
use Rattle.write_spec.specs.Canonical.{fill}
use Rattle.theorem_round_trip.specs.RoundTrip.{EachIsWord}
use Rattle.theorem_round_trip.proofs.Lists.{All, drop-map}

pub record Holds {A : Type 0} (out : List A) (at : ℕ) (part : List A) : Type 0 where
  pub rest : List A
  pub is : drop at out ≡ part ++ rest
  pub fits : at + length part ≤ length out

module _ {A : Type 0} {out : List A} {at : ℕ} where
  pub holds_left : (xs ys : List A) → Holds out at (xs ++ ys) → Holds out at xs
  holds_left xs ys h = record { rest = ys ++ h.rest; is = h.is ∙ append_assoc xs ys h.rest; fits = omega (arith, simp length-append at h.fits) }

  pub holds_right : (xs ys : List A) → Holds out at (xs ++ ys) → Holds out (at + length xs) ys
  holds_right xs ys h = record {
    rest = h.rest;
    is = sym (drop-drop (length xs) at out) ∙ ap (drop (length xs)) (h.is ∙ append_assoc xs ys h.rest) ∙ drop-append_seam xs (ys ++ h.rest);
    fits = omega (arith, simp length-append at h.fits);
  }

  pub holds_take : (part : List A) → Holds out at part → take (length part) (drop at out) ≡ part
  holds_take part h = ap (take (length part)) h.is ∙ take-append_seam part h.rest

  pub holds_map : {B : Type 0} (f : A → B) (part : List A) → Holds out at part → Holds (map f out) at (map f part)
  holds_map f part h = record {
    rest = map f h.rest;
    is = drop-map f at out ∙ ap (map f) h.is ∙ map-append f part h.rest;
    fits = omega (arith, length-map part f, length-map out f, h.fits);
  }

pub holds_nothing : {A : Type 0} (out : List A) → Holds out 0 []
holds_nothing out = record { rest = out; is = refl; fits = omega arith }

-- A number's four bytes are read as the number.
holds_word : (out : Bytes) (at n : ℕ) → n < 4294967296 → Holds out at (word_bytes n) → word_at out at ≡ n
unfolding word_bytes
holds_word out at n small h =
    ap (word_at out) (sym (add-zero at)) ∙ sym (word_of_record out at 4 0 (omega arith)) ∙ ap (λ (l : Bytes). word_at l 0) (holds_take (word_bytes n) h)
    ∙ word_of_bytes n small

-- The bytes of cells.
abbrev pub bytes_of : List (Cell Bytes Bytes) → Bytes
bytes_of cells = map fill cells

pub length_word_cells : (ws : List ℕ) → length (word_cells {N = Bytes} {D = Bytes} ws) ≡ 4 * length ws
unfolding word_cells word_bytes
length_word_cells [] = refl
length_word_cells (w ∷ ws) = omega (arith, length_word_cells ws)

pub word_cells_append : (xs ys : List ℕ) → word_cells {N = Bytes} {D = Bytes} (xs ++ ys) ≡ word_cells xs ++ word_cells ys
unfolding word_cells
word_cells_append [] ys = refl
word_cells_append (x ∷ xs) ys =
    ap (λ (l : List (Cell Bytes Bytes)). map byte (word_bytes x) ++ l) (word_cells_append xs ys)
    ∙ sym (append_assoc (map byte (word_bytes x)) (word_cells xs) (word_cells ys))

-- The cells of words stand in a layout.
unfoldable pub WordsAt : List (Cell Bytes Bytes) → ℕ → List ℕ → Type 0
WordsAt cells at ws = Holds cells at (word_cells ws)

-- A word that only the longer kind of record has: 0 in the other.
abbrev pub Longer : Bool → ℕ → Type 0
Longer false w = w ≡ 0
Longer true w = w < 4294967296

longer_words : (ws : List ℕ) → All (Longer true) ws → EachIsWord ws
unfolding EachIsWord
longer_words [] h = tt
longer_words (w ∷ ws) h = (h.0, longer_words ws h.1)

zero_word : (ws : List ℕ) (j : ℕ) → All (Longer false) ws → get_or ws j 0 ≡ 0
zero_word [] j h = refl
zero_word (w ∷ ws) zero h = h.0
zero_word (w ∷ ws) (suc j) h = zero_word ws j h.1

module _ (cells : List (Cell Bytes Bytes)) where
  abbrev out : Bytes
  out = bytes_of cells

  pub inside_bytes : (at n : ℕ) → at + n ≤ length cells → inside (length (bytes_of cells)) at n ≡ true
  inside_bytes at n h = fits_inside (length out) at n (omega (arith, length-map cells fill))

  pub words_first : (at w : ℕ) (ws : List ℕ) → w < 4294967296 → WordsAt cells at (w ∷ ws) → (word_at (bytes_of cells) at ≡ w) × WordsAt cells (at + 4) ws
  unfolding word_cells fill word_bytes WordsAt
  words_first at w ws small h = (
    holds_word out at w small (holds_map fill (map byte (word_bytes w)) (holds_left (map byte (word_bytes w)) (word_cells ws) h)),
    holds_right (map byte (word_bytes w)) (word_cells ws) h,
  )

  -- Word j of a row of words: one law for every record, whatever its stride.
  pub row_word : (at : ℕ) (ws : List ℕ) (j : ℕ) → EachIsWord ws → j < length ws → WordsAt cells at ws → word_at (bytes_of cells) (at + 4 * j) ≡ get_or ws j 0
  unfolding EachIsWord
  row_word at [] j small lt h = absurd (omega arith)
  row_word at (w ∷ ws) zero small lt h = ap (word_at out) (add-zero at) ∙ (words_first at w ws small.0 h).0
  row_word at (w ∷ ws) (suc j) small lt h =
      ap (word_at out) (let e : at + 4 * suc j ≡ at + 4 + 4 * j = omega arith in e) ∙ row_word (at + 4) ws j small.1 (omega arith)
      (words_first at w ws small.0 h).1

  pub words_fit : (at : ℕ) (ws : List ℕ) → WordsAt cells at ws → at + 4 * length ws ≤ length cells
  unfolding WordsAt
  words_fit at ws h = omega (arith, length_word_cells ws, h.fits)

  pub words_split : (at : ℕ) (xs ys : List ℕ) → WordsAt cells at (xs ++ ys) → WordsAt cells at xs × WordsAt cells (at + 4 * length xs) ys
  unfolding WordsAt
  words_split at xs ys h =
      let both : Holds cells at (word_cells xs ++ word_cells ys) = subst (λ l. Holds cells at l) (word_cells_append xs ys) h in (
        holds_left (word_cells xs) (word_cells ys) both,
        subst (λ n. Holds cells (at + n) (word_cells ys)) (length_word_cells xs) (holds_right (word_cells xs) (word_cells ys) both),
      )

  -- Word j of the words that only the longer kind of a record has, k bytes from the record's start.
  pub longer_word : (longer : Bool) (at : ℕ) (xs ys : List ℕ) (j k : ℕ) → All (Longer longer) ys → j < length ys → 4 * length xs + 4 * j ≡ k
      → WordsAt cells at (xs ++ words_if longer ys) → word_if longer (bytes_of cells) (at + k) ≡ get_or ys j 0
  unfolding word_if
  longer_word false at xs ys j k small lt e h = sym (zero_word ys j small)
  longer_word true at xs ys j k small lt e h =
      ap (word_at out) (let e' : at + k ≡ at + 4 * length xs + 4 * j = omega arith in e')
      ∙ row_word (at + 4 * length xs) ys j (longer_words ys small) lt (words_split at xs ys h).1
