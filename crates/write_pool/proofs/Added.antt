-- One entry more: its five words are written after the entries, its link is the bucket's, and the bucket's link leads to it. The entries before it stay, so
-- that every link to one of them still leads where it should.
use mathlib.Core.Path.{◌≡◌, refl, sym, ap, subst, ◌∙◌}
use mathlib.Core.Bool.{Bool}
use mathlib.Core.List.{List, [], ◌∷◌}
use Prim.Native.Nat.{ℕ, zero, suc, ◌+◌, ◌*◌, ◌≤◌, ◌<◌}
use native.Mathlib.Nat.{add-zero}
use native.Mathlib.Decide.{ℕ_discrete, dec_lt}
use native.Mathlib.Numerals.{add-one}
use native.Mathlib.Omega.{arith}
use borrow.Author.Tests.{eq-eqb, ne_eqb}
use lib.Dec.{eqb}
use lib.ListN.{length, get_or, set, length-set}
use lib.Seq.{get_or-set_same, get_or-set_other}
use Rattle.words.specs.Splice.{splice}
use Rattle.words.proofs.Splice.{length_splice, splice_puts, splice_keeps_before}
use Rattle.reflection.specs.declared.Text.{Text}
use Rattle.tables.specs.Records.{text_at}
use Rattle.reflection.specs.Texts.{text_bytes}
use Rattle.write_pool.specs.Pool.{bucket_count, entries_start, entry_width, bucket_of, entry_text, entry_offset, entry_link}
use Rattle.write_pool.specs.Pool.{entries_below, entry_count, entries, pick, newest, Indexed, Remembered}

-- the words of an entry
abbrev pub entry_words : Text → ℕ → ℕ → List ℕ
entry_words text offset link = text.source ∷ text.place ∷ text.length ∷ offset ∷ link ∷ []

-- What the words after hold: one entry more is counted, the bucket's link leads to it, its words stand after the entries, and all else that a pool reads is
-- as before.
pub record Added (p : List ℕ) (text : Text) (bucket offset : ℕ) (q : List ℕ) : Type 0 where
  pub same_length : length q ≡ length p
  pub count : get_or q 0 0 ≡ get_or p 0 0 + 1
  pub head : get_or q (1 + bucket) 0 ≡ get_or p 0 0 + 1
  pub other_heads : (b : ℕ) → b < bucket_count → (b ≡ bucket → ⊥) → get_or q (1 + b) 0 ≡ get_or p (1 + b) 0
  pub older_words : (k : ℕ) → entries_start ≤ k → k < entries_start + get_or p 0 0 * entry_width → get_or q k 0 ≡ get_or p k 0
  pub new_words : (k : ℕ) → k < entry_width → get_or q (entries_start + get_or p 0 0 * entry_width + k) 0 ≡ get_or (entry_words text offset (get_or p (1 + bucket) 0)) k 0

-- the code's three writes
module _ (p : List ℕ) (text : Text) (bucket offset : ℕ) (small : bucket < bucket_count) (room : entries_start + (get_or p 0 0 + 1) * entry_width ≤ length p) where
  with_entry : List ℕ
  with_entry = splice p (entries_start + get_or p 0 0 * entry_width) (entry_words text offset (get_or p (1 + bucket) 0))

  with_count : List ℕ
  with_count = set with_entry 0 (get_or p 0 0 + 1)

  with_head : List ℕ
  with_head = set with_count (1 + bucket) (get_or p 0 0 + 1)

  length_with_entry : length with_entry ≡ length p
  unfolding with_entry
  length_with_entry = length_splice p (entries_start + get_or p 0 0 * entry_width) (entry_words text offset (get_or p (1 + bucket) 0))

  length_with_count : length with_count ≡ length p
  unfolding with_count
  length_with_count = length-set with_entry 0 (get_or p 0 0 + 1) ∙ length_with_entry

  -- a word that is neither the count nor the bucket's link
  rest_kept : (k : ℕ) → (k ≡ 0 → ⊥) → (k ≡ 1 + bucket → ⊥) → get_or with_head k 0 ≡ get_or with_entry k 0
  unfolding with_head with_count
  rest_kept k n m = get_or-set_other with_count (1 + bucket) k (get_or p 0 0 + 1) 0 m ∙ get_or-set_other with_entry 0 k (get_or p 0 0 + 1) 0 n

  low_kept : (k : ℕ) → k < entries_start + get_or p 0 0 * entry_width → get_or with_entry k 0 ≡ get_or p k 0
  unfolding with_entry
  low_kept k h = splice_keeps_before p (entries_start + get_or p 0 0 * entry_width) k (entry_words text offset (get_or p (1 + bucket) 0)) 0 h

  new_there : (k : ℕ) → k < entry_width
      → get_or with_entry (entries_start + get_or p 0 0 * entry_width + k) 0 ≡ get_or (entry_words text offset (get_or p (1 + bucket) 0)) k 0
  unfolding with_entry
  new_there k h = splice_puts p (entries_start + get_or p 0 0 * entry_width) (entry_words text offset (get_or p (1 + bucket) 0)) (omega arith) k 0 h

  writes_add : Added p text bucket offset with_head
  unfolding with_head with_count
  writes_add = record {
    same_length = length-set with_count (1 + bucket) (get_or p 0 0 + 1) ∙ length_with_count;
    count =
        get_or-set_other with_count (1 + bucket) 0 (get_or p 0 0 + 1) 0 (λ e. omega arith)
        ∙ get_or-set_same with_entry 0 (get_or p 0 0 + 1) 0 (omega (arith, length_with_entry));
    head = get_or-set_same with_count (1 + bucket) (get_or p 0 0 + 1) 0 (omega (arith, length_with_count));
    other_heads = λ b h other. rest_kept (1 + b) (λ e. omega arith) (λ e. other (omega arith)) ∙ low_kept (1 + b) (omega arith);
    older_words = λ k from h. rest_kept k (λ e. omega arith) (λ e. omega arith) ∙ low_kept k h;
    new_words = λ k h.
        rest_kept (entries_start + get_or p 0 0 * entry_width + k) (λ e. omega arith) (λ e. omega arith)
        ∙ new_there k h;
  }

-- texts of the same three words
same_text_words : (f g : ℕ → ℕ) (k : ℕ) → f k ≡ g k → f (k + 1) ≡ g (k + 1) → f (k + 2) ≡ g (k + 2) → text_at f k ≡ text_at g k
same_text_words f g k a b c i = record { source = a i; place = b i; length = c i }

module _ (p : List ℕ) (text : Text) (bucket offset : ℕ) (q : List ℕ) (x : Added p text bucket offset q) where
  count_more : entry_count q ≡ suc (entry_count p)
  unfolding entry_count
  count_more = x.count ∙ add-one (get_or p 0 0)

  -- an older entry is as before
  module _ (i : ℕ) (h : i < entry_count p) where
    older_word : (k : ℕ) → k < entry_width → get_or q (entries_start + i * entry_width + k) 0 ≡ get_or p (entries_start + i * entry_width + k) 0
    unfolding entry_count
    older_word k w = x.older_words (entries_start + i * entry_width + k) (omega arith) (omega arith)

    older_text : entry_text q i ≡ entry_text p i
    unfolding entry_text
    older_text =
        same_text_words (λ k. get_or q k 0) (λ k. get_or p k 0) (entries_start + i * entry_width)
        (rw add-zero at (older_word 0 (omega arith))) (older_word 1 (omega arith)) (older_word 2 (omega arith))

    older_offset : entry_offset q i ≡ entry_offset p i
    unfolding entry_offset
    older_offset = older_word 3 (omega arith)

    older_link : entry_link q i ≡ entry_link p i
    unfolding entry_link
    older_link = older_word 4 (omega arith)

  -- the new one
  new_text : entry_text q (entry_count p) ≡ text
  unfolding entry_text entry_count
  new_text i = record {
    source = (rw add-zero at (x.new_words 0 (omega arith))) i;
    place = x.new_words 1 (omega arith) i;
    length = x.new_words 2 (omega arith) i;
  }

  new_offset : entry_offset q (entry_count p) ≡ offset
  unfolding entry_offset entry_count
  new_offset = x.new_words 3 (omega arith)

  new_link : entry_link q (entry_count p) ≡ get_or p (1 + bucket) 0
  unfolding entry_link entry_count
  new_link = x.new_words 4 (omega arith)

  older_entries : (n : ℕ) → n ≤ entry_count p → entries_below q n ≡ entries_below p n
  unfolding entries_below
  older_entries zero h = refl
  older_entries (suc i) h =
      let t : entry_text q i ≡ entry_text p i = older_text i h in
      let o : entry_offset q i ≡ entry_offset p i = older_offset i h in
      let r : entries_below q i ≡ entries_below p i = older_entries i (omega arith) in
      λ j. (t j, o j) ∷ r j

  entries_more : entries q ≡ (text, offset) ∷ entries p
  unfolding entries entries_below
  entries_more =
      let r : entries_below q (entry_count p) ≡ entries_below p (entry_count p) = older_entries (entry_count p) (omega arith) in
      ap (entries_below q) count_more ∙ (λ j. (new_text j, new_offset j) ∷ r j)

  module _ (chunk edits : List ℕ) where
    older_newest : (b n : ℕ) → n ≤ entry_count p → newest chunk edits q b n ≡ newest chunk edits p b n
    unfolding newest
    older_newest b zero h = refl
    older_newest b (suc i) h =
        let t : entry_text q i ≡ entry_text p i = older_text i h in
        let r : newest chunk edits q b i ≡ newest chunk edits p b i = older_newest b i (omega arith) in
        λ j. pick (eqb (bucket_of (text_bytes chunk edits (t j))) b) (suc i) (r j)

    module _ (indexed : Indexed chunk edits p) (own : bucket ≡ bucket_of (text_bytes chunk edits text)) where
      new_newest : (b : ℕ) → newest chunk edits q b (entry_count q) ≡ pick (eqb bucket b) (suc (entry_count p)) (newest chunk edits p b (entry_count p))
      unfolding newest
      new_newest b =
          let t : bucket_of (text_bytes chunk edits (entry_text q (entry_count p))) ≡ bucket =
          ap (λ (u : Text). bucket_of (text_bytes chunk edits u)) new_text ∙ sym own in
          let r : newest chunk edits q b (entry_count p) ≡ newest chunk edits p b (entry_count p) = older_newest b (entry_count p) (omega arith) in
          ap (newest chunk edits q b) count_more ∙ (λ j. pick (eqb (t j) b) (suc (entry_count p)) (r j))

      heads_kept : (b : ℕ) → b < bucket_count → get_or q (1 + b) 0 ≡ newest chunk edits q b (entry_count q)
      unfolding entry_count
      heads_kept b h =
          elim (ℕ_discrete b bucket) [
            | yes e ↦ ap (λ (k : ℕ). get_or q (1 + k) 0) e ∙ x.head ∙ add-one (get_or p 0 0)
                ∙ sym (new_newest b ∙ ap (λ (t : Bool). pick t (suc (entry_count p)) (newest chunk edits p b (entry_count p))) (eq-eqb bucket b (sym e)))
            | no n ↦ x.other_heads b h n ∙ indexed.heads b h
                ∙ sym (new_newest b ∙ ap (λ (t : Bool). pick t (suc (entry_count p)) (newest chunk edits p b (entry_count p))) (ne_eqb bucket b (λ e. n (sym e))))
          ]

      older_links : (i : ℕ) → i < entry_count p → entry_link q i ≡ newest chunk edits q (bucket_of (text_bytes chunk edits (entry_text q i))) i
      older_links i h =
          let t : entry_text q i ≡ entry_text p i = older_text i h in
          older_link i h ∙ indexed.links i h
          ∙ sym (older_newest (bucket_of (text_bytes chunk edits (entry_text p i))) i (omega arith))
          ∙ ap (λ (u : Text). newest chunk edits q (bucket_of (text_bytes chunk edits u)) i) (sym t)

      newest_link : bucket < bucket_count → (i : ℕ) → i ≡ entry_count p
          → entry_link q i ≡ newest chunk edits q (bucket_of (text_bytes chunk edits (entry_text q i))) i
      newest_link small i e =
          ap (entry_link q) e ∙ new_link ∙ indexed.heads bucket small
          ∙ sym (older_newest bucket (entry_count p) (omega arith))
          ∙ ap (λ (b : ℕ). newest chunk edits q b (entry_count p)) (own ∙ ap (λ (u : Text). bucket_of (text_bytes chunk edits u)) (sym new_text))
          ∙ ap (λ (n : ℕ). newest chunk edits q (bucket_of (text_bytes chunk edits (entry_text q n))) n) (sym e)

      still_indexed : bucket < bucket_count → entries_start + (entry_count p + 1) * entry_width ≤ length p → Indexed chunk edits q
      still_indexed small room = record {
        long = omega (arith, count_more, x.same_length);
        heads = heads_kept;
        links = λ i h.
            elim (dec_lt i (entry_count p)) [
              | yes older ↦ older_links i older
              | no not-older ↦ newest_link small i (omega (arith, count_more))
            ];
      }

  added_is_in_pool : bucket < bucket_count → entries_start + (entry_count p + 1) * entry_width ≤ length p → Remembered p text bucket offset q
  added_is_in_pool small room = record {
    same_length = x.same_length;
    one_entry_more = entries_more;
    one_more_counted = count_more ∙ sym (add-one (entry_count p));
    indexed = λ chunk edits indexed own. still_indexed chunk edits indexed own small room;
  }

-- the code's three writes, as it made them: the entry's words, the count, the bucket's link
module _ (p : List ℕ) (text : Text) (bucket offset : ℕ) (small : bucket < bucket_count) (room : entries_start + (entry_count p + 1) * entry_width ≤ length p) where
  pub writes_remember : {q : List ℕ} → q ≡ splice p (entries_start + get_or p 0 0 * entry_width) (entry_words text offset (get_or p (1 + bucket) 0))
      → Remembered p text bucket offset (set (set q 0 (get_or p 0 0 + 1)) (1 + bucket) (get_or p 0 0 + 1))
  unfolding with_head with_count with_entry entry_count
  writes_remember entry-put =
      subst (λ (l : List ℕ). Remembered p text bucket offset (set (set l 0 (get_or p 0 0 + 1)) (1 + bucket) (get_or p 0 0 + 1))) (sym entry-put)
      (added_is_in_pool p text bucket offset (with_head p text bucket offset small room) (writes_add p text bucket offset small room) small room)
