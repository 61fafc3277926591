-- Two nodes that differ in one of the words of their first five numbers have other numbers, since those numbers are the words.
use mathlib.Core.Path.{◌≡◌, refl, sym, ◌∙◌}
use mathlib.Core.Bool.{false}
use mathlib.Core.List.{List}
use Prim.Native.Nat.{ℕ, zero, suc, ◌<◌}
use native.Mathlib.Omega.{arith}
use borrow.Author.Tests.{lt-ltb}
use lib.ListN.{get_or}
use Rattle.text.specs.Same.{same_bytes}
use Rattle.text.proofs.SameBytes.{other_byte}
use Rattle.tables.specs.Records.{type_width, record_word, within, type_at}
use Rattle.tables.specs.Decode.{node_from_table}
use Rattle.write_spec.specs.Same.{numbers_of}
use Rattle.tables.specs.Trees.{node_at}

-- Number w of a node is its word w, for the first five.
number_is_word : (types : List ℕ) (a w : ℕ) → w < 5 → get_or (numbers_of (node_at types a).numbers) w 0 ≡ record_word type_width types a w
unfolding numbers_of node_at node_from_table type_at
number_is_word types a zero h = refl
number_is_word types a (suc zero) h = refl
number_is_word types a (suc (suc zero)) h = refl
number_is_word types a (suc (suc (suc zero))) h = refl
number_is_word types a (suc (suc (suc (suc zero)))) h = refl
number_is_word types a (suc (suc (suc (suc (suc w))))) h = absurd (omega (arith, h))

-- A word of a node's row, for the first five.
word : (x types : List ℕ) (a w : ℕ) → w < 5 → ((k : ℕ) → get_or x k 0 ≡ within type_width (record_word type_width types a) k)
    → get_or x w 0 ≡ record_word type_width types a w
word x types a w h is = is w ∙ rw (within, lt-ltb w type_width (omega arith)) refl

-- The words of node a of one table and those of node b of another.
module _ (types others : List ℕ) (a b : ℕ) (x y : List ℕ)
    (is_x : (k : ℕ) → get_or x k 0 ≡ within type_width (record_word type_width types a) k)
    (is_y : (k : ℕ) → get_or y k 0 ≡ within type_width (record_word type_width others b) k) where
  other_word : (w : ℕ) → w < 5 → (get_or x w 0 ≡ get_or y w 0 → ⊥)
      → same_bytes (numbers_of (node_at types a).numbers) (numbers_of (node_at others b).numbers) ≡ false
  other_word w h d =
      other_byte (numbers_of (node_at types a).numbers) (numbers_of (node_at others b).numbers) w (λ e.
      d (word x types a w h is_x ∙ sym (number_is_word types a w h) ∙ e ∙ number_is_word others b w h ∙ sym (word y others b w h is_y)))

  pub other_class : (get_or x 0 0 ≡ get_or y 0 0 → ⊥) → same_bytes (numbers_of (node_at types a).numbers) (numbers_of (node_at others b).numbers) ≡ false
  other_class = other_word 0 (omega arith)

  pub other_var_type : (get_or x 1 0 ≡ get_or y 1 0 → ⊥) → same_bytes (numbers_of (node_at types a).numbers) (numbers_of (node_at others b).numbers) ≡ false
  other_var_type = other_word 1 (omega arith)

  pub other_rows : (get_or x 2 0 ≡ get_or y 2 0 → ⊥) → same_bytes (numbers_of (node_at types a).numbers) (numbers_of (node_at others b).numbers) ≡ false
  other_rows = other_word 2 (omega arith)

  pub other_columns : (get_or x 3 0 ≡ get_or y 3 0 → ⊥) → same_bytes (numbers_of (node_at types a).numbers) (numbers_of (node_at others b).numbers) ≡ false
  other_columns = other_word 3 (omega arith)

  pub other_elements : (get_or x 4 0 ≡ get_or y 4 0 → ⊥) → same_bytes (numbers_of (node_at types a).numbers) (numbers_of (node_at others b).numbers) ≡ false
  other_elements = other_word 4 (omega arith)

pub ruleset other_words = (other_class, other_var_type, other_rows, other_columns, other_elements)
