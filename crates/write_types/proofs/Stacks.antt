-- The two stacks in the scratch: records' words and entries of types. What is pushed is found on top, and every other word is what it was.
use mathlib.Core.Path.{◌≡◌, refl, sym, ap, ◌∙◌}
use mathlib.Core.List.{List, [], ◌∷◌, ◌++◌}
use Prim.Native.Nat.{ℕ, ◌+◌, ◌*◌, ◌-◌, ◌≤◌, ◌<◌}
use native.Mathlib.Numerals.{add-one}
use native.Mathlib.Nat.{add-zero}
use native.Mathlib.Omega.{arith}
use lib.ListN.{length, get_or, take, drop}
use lib.Seq.{length-take-le, take-add, drop_at, drop-append-le}
use Rattle.words.specs.Splice.{splice}
use Rattle.words.proofs.Splice.{length_splice}
use Rattle.words.proofs.Splice.{splice_keeps_before, splice_keeps_after, take_splice, splice_puts}
use Rattle.reflection.specs.declared.Text.{Text}
use Rattle.reflection.specs.Reflection.{TypeDesc}
use Rattle.reflection.specs.Limits.{type_room}
use Rattle.write_texts.specs.Scratch.{shared_width, inner_start, defaults_start, root_types_start, member_types_start, records_start, variables_start}
use Rattle.write_texts.specs.Scratch.{scratch_size}
use Rattle.write_texts.specs.Scratch.{region, outer_pool, inner_pool, default_pool, types_from}
use Rattle.write_texts.specs.PlacedInScratch.{Kept}
use Rattle.write_texts.proofs.Regions.{types_agree}
use Rattle.write_texts.proofs.ScratchPools.{outer_kept_before, inner_kept_before, defaults_kept_before}
use Rattle.write_types.specs.Room.{Keeps}

-- What a write leaves as it was.
pub write_kept : (s : List ℕ) (a : ℕ) (xs : List ℕ) {s' : List ℕ} → s' ≡ splice s a xs → Kept a (a + length xs) s s'
write_kept s a xs e = record {
  long = ap length e ∙ length_splice s a xs;
  before = λ i h. ap (λ (l : List ℕ). get_or l i 0) e ∙ splice_keeps_before s a i xs 0 h;
  after = λ i h. ap (λ (l : List ℕ). get_or l i 0) e ∙ splice_keeps_after s a i xs 0 h;
}

-- A write above the three pools of texts leaves them as they were.
pub record SameTexts (s s' : List ℕ) : Type 0 where
  pub outer : outer_pool s' ≡ outer_pool s
  pub inner : inner_pool s' ≡ inner_pool s
  pub defaults : default_pool s' ≡ default_pool s

pub texts_kept : {from to : ℕ} {s s' : List ℕ} → Kept from to s s' → scratch_size ≤ length s → root_types_start ≤ from → SameTexts s s'
texts_kept kept long low = record {
  outer = outer_kept_before kept long (omega (arith, low));
  inner = inner_kept_before kept long (omega (arith, low));
  defaults = defaults_kept_before kept long low;
}

-- Words pushed onto a stack that reaches from bottom to top.
region_drop : (from to : ℕ) (s : List ℕ) → from ≤ to → from ≤ length s → region from to s ≡ drop from (take to s)
unfolding region
region_drop from to s order fits =
    let sum : to ≡ from + (to - from) = omega arith in
    sym
    (ap (λ (n : ℕ). drop from (take n s)) sum
    ∙ ap (drop from) (take-add from (to - from) s)
    ∙ drop_at (take from s) (take (to - from) (drop from s)) from (length-take-le from s fits))

pub words_pushed : (s : List ℕ) (bottom top : ℕ) (xs : List ℕ) {s' : List ℕ} → s' ≡ splice s top xs → bottom ≤ top → top + length xs ≤ length s
    → region bottom (top + length xs) s' ≡ region bottom top s ++ xs
words_pushed s bottom top xs e low fits =
    ap (region bottom (top + length xs)) e
    ∙ region_drop bottom (top + length xs) (splice s top xs) (omega arith) (omega (arith, length_splice s top xs))
    ∙ ap (drop bottom) (take_splice s top xs fits)
    ∙ drop-append-le bottom (take top s) xs (omega (arith, length-take-le top s (omega arith)))
    ∙ ap (λ (l : List ℕ). l ++ xs) (sym (region_drop bottom top s low (omega arith)))

pub region_none : (s : List ℕ) (bottom : ℕ) → region bottom bottom s ≡ []
unfolding region
region_none s bottom =
    let none : bottom - bottom ≡ 0 = omega arith in
    rw none

-- An entry pushed onto n entries.
module _ (tree : ℕ → TypeDesc Text) (start : ℕ) (s : List ℕ) (base n node offset : ℕ) (s₁ : List ℕ) {s₂ : List ℕ}
    (same : (i : ℕ) → start + base * shared_width ≤ i → i < start + (base + n) * shared_width → get_or s₁ i 0 ≡ get_or s i 0)
    (e : s₂ ≡ splice s₁ (start + (base + n) * shared_width) (node ∷ offset ∷ [])) (fits : start + (base + n) * shared_width + shared_width ≤ length s₁) where
  abbrev place : ℕ
  place = start + (base + n) * shared_width

  node_there : get_or s₂ place 0 ≡ node
  node_there =
      ap (λ (l : List ℕ). get_or l place 0) e ∙ ap (λ (i : ℕ). get_or (splice s₁ place (node ∷ offset ∷ [])) i 0) (sym (add-zero place))
      ∙ splice_puts s₁ place (node ∷ offset ∷ []) fits 0 0 (omega arith)

  offset_there : get_or s₂ (place + 1) 0 ≡ offset
  offset_there = ap (λ (l : List ℕ). get_or l (place + 1) 0) e ∙ splice_puts s₁ place (node ∷ offset ∷ []) fits 1 0 (omega arith)

  pub entry_pushed : types_from tree start s₂ base (n + 1) ≡ (tree node, offset) ∷ types_from tree start s base n
  unfolding types_from
  entry_pushed =
      let others : types_from tree start s₂ base n ≡ types_from tree start s base n =
      types_agree tree start s s₂ base n
      (λ i low high. ap (λ (l : List ℕ). get_or l i 0) e ∙ splice_keeps_before s₁ place i (node ∷ offset ∷ []) 0 high ∙ same i low high) in
      ap (λ (m : ℕ). types_from tree start s₂ base m) (add-one n) ∙ (λ i. (tree (node_there i), offset_there i) ∷ others i)

-- What is kept by each step, and by steps in turn.
pub keeps_same : (s : List ℕ) (entries top : ℕ) → Keeps s s entries top
keeps_same s entries top = record {
  long = refl;
  outer = λ j h. refl;
  middle = λ j low high. refl;
  records = λ j low high. refl;
  high = λ j h. refl;
}

pub keeps_then : {s s₁ s₂ : List ℕ} {entries entries₁ top top₁ : ℕ} → Keeps s s₁ entries top → Keeps s₁ s₂ entries₁ top₁ → entries ≤ entries₁ → top ≤ top₁
    → Keeps s s₂ entries top
keeps_then p q e h = record {
  long = q.long ∙ p.long;
  outer = λ j low. q.outer j low ∙ p.outer j low;
  middle = λ j low high. q.middle j low (omega arith) ∙ p.middle j low high;
  records = λ j low high. q.records j low (omega arith) ∙ p.records j low high;
  high = λ j low. q.high j low ∙ p.high j low;
}

pub keeps_names : {s s' : List ℕ} (entries top : ℕ) → Kept inner_start defaults_start s s' → Keeps s s' entries top
keeps_names entries top p = record {
  long = p.long;
  outer = λ j h. p.before j h;
  middle = λ j low high. p.after j low;
  records = λ j low high. p.after j (omega arith);
  high = λ j h. p.after j (omega arith);
}

-- Words that lie on the records' stack above top.
pub keeps_records : {s s' : List ℕ} (entries top : ℕ) {from to : ℕ} → Kept from to s s' → entries ≤ type_room → records_start ≤ from → top ≤ from
    → to ≤ variables_start → Keeps s s' entries top
keeps_records entries top p few low above below = record {
  long = p.long;
  outer = λ j h. p.before j (omega arith);
  middle = λ j h high. p.before j (omega arith);
  records = λ j h high. p.before j (omega arith);
  high = λ j h. p.after j (omega arith);
}

-- An entry that lies on the types' stack above the first `entries`.
pub keeps_entries : {s s' : List ℕ} (entries top : ℕ) {from to : ℕ} → Kept from to s s' → member_types_start + entries * shared_width ≤ from → to ≤ records_start
    → Keeps s s' entries top
keeps_entries entries top p low below = record {
  long = p.long;
  outer = λ j h. p.before j (omega arith);
  middle = λ j h high. p.before j (omega arith);
  records = λ j h high. p.after j (omega arith);
  high = λ j h. p.after j (omega arith);
}
