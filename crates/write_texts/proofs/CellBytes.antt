-- The bytes of cells: those of words are the words' four bytes each, those of padding are 0xAB, those of a name and of a default are its text's. Shown by
-- going through the cells one by one.
use mathlib.Core.Path.{◌≡◌, refl, ap, ◌∙◌}
use mathlib.Core.List.{List, [], ◌∷◌, ◌++◌, map, map-append}
use Prim.Native.Nat.{ℕ, zero, suc}
use lib.ListN.{length, get_or, replicate, length-map}
use Rattle.words.specs.Words.{word_bytes}
use Rattle.reflection.specs.declared.Text.{Text}
use Rattle.reflection.specs.Texts.{text_bytes}
use Rattle.write_spec.specs.Step.{Cell, byte, name_byte, default_byte, word_cells, cells_of}
use Rattle.write_spec.specs.Layout.{name_cells}
use Rattle.write_spec.specs.Canonical.{bytes_facts}
use Rattle.write_spec.specs.Through.{through, fill_through}
use Rattle.write_bytes.specs.Bytes.{joined_bytes}
pub use Rattle.write_bytes.proofs.Joined.{length_joined, joined_append}
use Rattle.write_texts.specs.Simulates.{text_facts, cell_bytes}

module _ (chunk edits : List ℕ) where
  pub length_cell_bytes : (cells : List (Cell Text Text)) → length (cell_bytes chunk edits cells) ≡ length cells
  unfolding cell_bytes
  length_cell_bytes cells = length-map cells (fill_through (text_bytes chunk edits) (text_bytes chunk edits))

  pub cell_bytes_append : (cells more : List (Cell Text Text))
      → cell_bytes chunk edits (cells ++ more) ≡ cell_bytes chunk edits cells ++ cell_bytes chunk edits more
  unfolding cell_bytes
  cell_bytes_append cells more = map-append (fill_through (text_bytes chunk edits) (text_bytes chunk edits)) cells more

  pub cell_bytes_none : cell_bytes chunk edits [] ≡ []
  unfolding cell_bytes
  cell_bytes_none = refl

  pub cell_bytes_words : (ws : List ℕ) → cell_bytes chunk edits (word_cells ws) ≡ joined_bytes ws
  unfolding word_cells joined_bytes cell_bytes fill_through word_bytes
  cell_bytes_words [] = refl
  cell_bytes_words (w ∷ ws) = cell_bytes_append (map byte (word_bytes w)) (word_cells ws) ∙ ap (λ (l : List ℕ). word_bytes w ++ l) (cell_bytes_words ws)

  pub cell_bytes_padding : (n b : ℕ) → cell_bytes chunk edits (replicate n (byte b)) ≡ replicate n b
  unfolding cell_bytes fill_through
  cell_bytes_padding zero b = refl
  cell_bytes_padding (suc n) b = λ i. b ∷ cell_bytes_padding n b i

  -- as many cells as a text has bytes, each holding the byte of its number
  cell_bytes_text : (text : List ℕ) (cell : ℕ → Cell Text Text)
      → ((j : ℕ) → fill_through (text_bytes chunk edits) (text_bytes chunk edits) (cell j) ≡ get_or text j 0)
      → cell_bytes chunk edits (cells_of (length text) cell) ≡ text
  unfolding cell_bytes cells_of
  cell_bytes_text [] cell h = refl
  cell_bytes_text (b ∷ bs) cell h =
      let rest = cell_bytes_text bs (λ j. cell (suc j)) (λ j. h (suc j)) in
      λ i. h 0 i ∷ rest i

  pub cell_bytes_name : (name : Text) → cell_bytes chunk edits (name_cells (text_facts chunk edits) name) ≡ text_bytes chunk edits name ++ (0 ∷ [])
  unfolding name_cells text_facts through bytes_facts fill_through cell_bytes
  cell_bytes_name name =
      cell_bytes_append (cells_of (length (text_bytes chunk edits name)) (name_byte name)) (byte 0 ∷ [])
      ∙ ap (λ (l : List ℕ). l ++ (0 ∷ [])) (cell_bytes_text (text_bytes chunk edits name) (name_byte name) (λ j. refl))

  pub cell_bytes_default : (default : Text)
      → cell_bytes chunk edits (cells_of (length (text_bytes chunk edits default)) (default_byte default)) ≡ text_bytes chunk edits default
  unfolding fill_through
  cell_bytes_default default = cell_bytes_text (text_bytes chunk edits default) (default_byte default) (λ j. refl)
