-- Records that stand before what they point to: what they point to was placed first, from behind them, and their words were written last, at their place.
-- The two writes lie apart, so their order does not matter.
use mathlib.Core.Path.{◌≡◌, refl, ap, sym, ◌∙◌, subst}
use mathlib.Core.List.{List, [], ◌∷◌, ◌++◌}
use mathlib.Core.Logic.{◌⊎◌, inl, inr}
use Prim.Native.Nat.{ℕ, suc, ◌+◌, ◌*◌, ◌≤◌, ◌<◌}
use native.Mathlib.Omega.{arith}
use lib.ListN.{length, set, length-append}
use lib.Seq.{set_comm, sets}
use Rattle.words.specs.Splice.{splice, Put}
use Rattle.words.proofs.Splice.{splice_append, put_length}
use Rattle.reflection.specs.declared.Text.{Text}
use Rattle.write_spec.specs.Step.{Pools, Placed, WriteStep, reserve, word_cells}
use Rattle.write_spec.proofs.Sizes.{word_cells_length}
use Rattle.write_texts.specs.Simulates.{InStep, PastLimit, Simulates, cell_bytes}
use Rattle.write_bytes.specs.Bytes.{joined_bytes}
use Rattle.write_bytes.proofs.Joined.{length_joined}
use Rattle.write_texts.proofs.CellBytes.{cell_bytes_append, cell_bytes_words}

-- one store below a run
set_below : (ys l : List ℕ) (a b x : ℕ) → a < b → set (splice l b ys) a x ≡ splice (set l a x) b ys
unfolding splice
set_below [] l a b x h = refl
set_below (y ∷ ys) l a b x h =
    set_below ys (set l b y) a (suc b) x (omega arith) ∙ ap (λ (m : List ℕ). sets m (suc b) ys) (set_comm l b a y x (λ e. omega (arith, e)))

-- two runs that lie apart
pub splice_apart : (xs ys l : List ℕ) (a b : ℕ) → a + length xs ≤ b → splice (splice l b ys) a xs ≡ splice (splice l a xs) b ys
unfolding splice
splice_apart [] ys l a b h = refl
splice_apart (x ∷ xs) ys l a b h =
    ap (λ (m : List ℕ). splice m (suc a) xs) (set_below ys l a b x (omega arith)) ∙ splice_apart xs ys (set l a x) (suc a) b (omega arith)

pub put_reserve : {l l₁ l₂ xs ys : List ℕ} {a r₁ r₂ : ℕ} → Put l (a + length xs) ys l₁ r₁ → Put l₁ a xs l₂ r₂ → Put l a (xs ++ ys) l₂ r₁
put_reserve {l} {l₁} {l₂} {xs} {ys} {a} {r₁} {r₂} p q = record {
  list = q.list ∙ ap (λ (m : List ℕ). splice m a xs) p.list ∙ splice_apart xs ys l a (a + length xs) (omega arith) ∙ splice_append l a xs ys;
  next = omega (arith, p.next, length-append xs ys);
}

module _ (chunk edits : List ℕ) where
  -- the step ran from behind n words; then the words were written at the cursor
  pub simulates_reserve : {A : Type 0} {m : WriteStep Text Text A} (n : ℕ) (words : A → List ℕ)
      {at to end : ℕ} {ps ps' : Pools Text Text} {out out₁ out₂ : List ℕ} {a : A}
      → length (words (m (at + 4 * n) ps).result) ≡ n → Simulates chunk edits m (at + 4 * n) ps out out₁ a to ps'
      → Put out₁ at (joined_bytes (words a)) out₂ end
      → Simulates chunk edits (reserve n words m) at ps out out₂ a to ps'
  unfolding reserve
  simulates_reserve {A} {m} n words {at} {to} {end} {ps} {ps'} {out} {out₁} {out₂} {a} sized p q = by p.known
    where
      placed : Placed Text Text A
      placed = m (at + 4 * n) ps

      start : placed.result ≡ a → at + 4 * n ≡ at + length (joined_bytes (words a))
      start e = omega (arith, length_joined (words a), ap (λ (x : A). length (words x)) e, sized)

      bytes : placed.result ≡ a
          → joined_bytes (words a) ++ cell_bytes chunk edits placed.cells ≡ cell_bytes chunk edits (word_cells (words placed.result) ++ placed.cells)
      bytes e =
          ap (λ (x : A). joined_bytes (words x) ++ cell_bytes chunk edits placed.cells) (sym e)
          ∙ ap (λ (l : List ℕ). l ++ cell_bytes chunk edits placed.cells) (sym (cell_bytes_words chunk edits (words placed.result)))
          ∙ sym (cell_bytes_append chunk edits (word_cells (words placed.result)) placed.cells)

      by : InStep chunk edits m (at + 4 * n) ps out out₁ a to ps' ⊎ PastLimit m (at + 4 * n) ps out out₁ to
          → Simulates chunk edits (reserve n words m) at ps out out₂ a to ps'
      by (inl p) = record {
        known = inl (record {
          answered = p.answered;
          put = subst (λ bytes. Put out at bytes out₂ to) (bytes p.answered)
              (put_reserve (subst (λ k. Put out k (cell_bytes chunk edits placed.cells) out₁ to) (start p.answered) p.put) q);
          pools_left = p.pools_left;
        });
      }
      by (inr p) = record {
        known = inr (record {
          reached = p.reached;
          defined =
              let words-length = word_cells_length Text Text (words placed.result) in
              omega (arith, p.defined, length-append (word_cells (words placed.result)) placed.cells, words-length, sized);
          long = put_length q ∙ p.long;
        });
      }
