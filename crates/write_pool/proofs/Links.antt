-- A search by the links finds what a search of all entries finds: the entries that the links pass over lie in other buckets, and equal bytes have equal
-- buckets.
use Rattle.std.specs.Prelude.{Option, None, Some}
use mathlib.Core.Path.{◌≡◌, refl, sym, ap, ◌∙◌}
use mathlib.Core.Bool.{Bool, true, false}
use mathlib.Core.List.{List}
use Prim.Native.Nat.{ℕ, zero, suc, ◌+◌, ◌≤◌, ◌<◌}
use native.Mathlib.Omega.{arith}
use borrow.Author.Tests.{eqb-true, eqb-false}
use lib.Dec.{eqb}
use lib.ListN.{get_or}
use Rattle.text.specs.Same.{same_bytes}
use Rattle.text.proofs.SameBytes.{same_bytes_equal}
use Rattle.text.proofs.Bools.{false_unless}
use Rattle.reflection.specs.declared.Text.{Text}
use Rattle.reflection.specs.Texts.{text_bytes}
use Rattle.write_spec.specs.Step.{find}
use Rattle.write_pool.specs.Pool.{bucket_of, entry_text, entry_offset, entry_link, entries_below, entry_count, entries, newest, Indexed}
use Rattle.write_pool.proofs.Hashes.{bucket_is_below_count}

module _ (chunk edits p : List ℕ) where
  -- the bytes of an entry's text, and their bucket
  abbrev bytes_at : ℕ → List ℕ
  bytes_at i = text_bytes chunk edits (entry_text p i)

  abbrev bucket_at : ℕ → ℕ
  bucket_at i = bucket_of (bytes_at i)

  -- an entry of the bucket, and one of another bucket
  newest_of_bucket : (b i : ℕ) → eqb (bucket_at i) b ≡ true → newest chunk edits p b (suc i) ≡ suc i
  unfolding newest
  newest_of_bucket b i e = rw e

  newest_of_other : (b i : ℕ) → eqb (bucket_at i) b ≡ false → newest chunk edits p b (suc i) ≡ newest chunk edits p b i
  unfolding newest
  newest_of_other b i e = rw e

  -- a link leads to one of the first n entries
  pub newest_is_no_later : (b n : ℕ) → newest chunk edits p b n ≤ n
  unfolding newest
  newest_is_no_later b zero = omega arith
  newest_is_no_later b (suc i) = by_bucket (eqb (bucket_at i) b) refl (newest_is_no_later b i)
    where
      by_bucket : (t : Bool) → eqb (bucket_at i) b ≡ t → newest chunk edits p b i ≤ i → newest chunk edits p b (suc i) ≤ suc i
      by_bucket true e h = omega (arith, newest_of_bucket b i e)
      by_bucket false e h = omega (arith, newest_of_other b i e)

  -- the entry that a link leads to is itself the newest up to there
  pub newest_of_newest : (b n : ℕ) → newest chunk edits p b (newest chunk edits p b n) ≡ newest chunk edits p b n
  unfolding newest
  newest_of_newest b zero = refl
  newest_of_newest b (suc i) = by_bucket (eqb (bucket_at i) b) refl (newest_of_newest b i)
    where
      by_bucket : (t : Bool) → eqb (bucket_at i) b ≡ t → newest chunk edits p b (newest chunk edits p b i) ≡ newest chunk edits p b i
          → newest chunk edits p b (newest chunk edits p b (suc i)) ≡ newest chunk edits p b (suc i)
      by_bucket true e h = ap (newest chunk edits p b) (newest_of_bucket b i e)
      by_bucket false e h = ap (newest chunk edits p b) (newest_of_other b i e) ∙ h ∙ sym (newest_of_other b i e)

  -- so it lies in the bucket
  pub linked_entry_is_of_bucket : (b i : ℕ) → newest chunk edits p b (suc i) ≡ suc i → bucket_at i ≡ b
  linked_entry_is_of_bucket b i own = by_bucket (eqb (bucket_at i) b) refl
    where
      by_bucket : (t : Bool) → eqb (bucket_at i) b ≡ t → bucket_at i ≡ b
      by_bucket true e = eqb-true (bucket_at i) b e
      by_bucket false e = absurd (omega (arith, newest_of_other b i e, newest_is_no_later b i))

  module _ (wanted : List ℕ) where
    -- what a search for the bytes finds among entries; among the first n; the newest of these in the bucket of the bytes
    abbrev found_in : List (Text × ℕ) → Option ℕ
    found_in es = find (λ t. same_bytes wanted (text_bytes chunk edits t)) es

    abbrev found_below : ℕ → Option ℕ
    found_below n = found_in (entries_below p n)

    abbrev newest_below : ℕ → ℕ
    newest_below n = newest chunk edits p (bucket_of wanted) n

    -- an entry of another bucket has other bytes
    other_bucket_other_bytes : (i : ℕ) → eqb (bucket_at i) (bucket_of wanted) ≡ false → same_bytes wanted (bytes_at i) ≡ false
    other_bucket_other_bytes i e =
        false_unless (same_bytes wanted (bytes_at i))
        (λ same. eqb-false (bucket_at i) (bucket_of wanted) e (ap bucket_of (sym (same_bytes_equal wanted (bytes_at i) same))))

    -- the search passes over an entry with other bytes, and ends at one with the same
    find_at_other : (i : ℕ) → same_bytes wanted (bytes_at i) ≡ false → found_below (suc i) ≡ found_below i
    unfolding find entries_below
    find_at_other i e = rw e

    find_at_same : (i : ℕ) → same_bytes wanted (bytes_at i) ≡ true → found_below (suc i) ≡ Some (entry_offset p i)
    unfolding find entries_below
    find_at_same i e = rw e

    pub find_from_newest : (n : ℕ) → found_below n ≡ found_below (newest_below n)
    unfolding newest
    find_from_newest zero = refl
    find_from_newest (suc i) = by_bucket (eqb (bucket_at i) (bucket_of wanted)) refl (find_from_newest i)
      where
        by_bucket : (t : Bool) → eqb (bucket_at i) (bucket_of wanted) ≡ t → found_below i ≡ found_below (newest_below i)
            → found_below (suc i) ≡ found_below (newest_below (suc i))
        by_bucket true e h = ap found_below (sym (newest_of_bucket (bucket_of wanted) i e))
        by_bucket false e h = find_at_other i (other_bucket_other_bytes i e) ∙ h ∙ ap found_below (sym (newest_of_other (bucket_of wanted) i e))

    -- Where a search by the links stands: at an entry of the bucket or at None, and what is left to search answers the same.
    pub record Searching (link : ℕ) : Type 0 where
      pub counted : link ≤ entry_count p
      pub of_bucket : newest_below link ≡ link
      pub same_answer : found_in (entries p) ≡ found_below link

    -- it begins at the bucket's link
    pub searching_begins : Indexed chunk edits p → {link : ℕ} → link ≡ get_or p (1 + bucket_of wanted) 0 → Searching link
    unfolding entries
    searching_begins x {link} e =
        let h : link ≡ newest_below (entry_count p) = e ∙ x.heads (bucket_of wanted) (bucket_is_below_count wanted) in
        record {
          counted = omega (arith, newest_is_no_later (bucket_of wanted) (entry_count p));
          of_bucket = ap newest_below h ∙ newest_of_newest (bucket_of wanted) (entry_count p) ∙ sym h;
          same_answer = find_from_newest (entry_count p) ∙ ap found_below (sym h);
        }

    module _ (i : ℕ) {link : ℕ} (e : link ≡ suc i) (s : Searching link) where
      -- an entry with the same bytes is the answer
      pub searching_ends : same_bytes wanted (bytes_at i) ≡ true → found_in (entries p) ≡ Some (entry_offset p i)
      searching_ends same = s.same_answer ∙ ap found_below e ∙ find_at_same i same

      module _ (x : Indexed chunk edits p) where
        next_link : entry_link p i ≡ newest_below i
        next_link =
            let in-bucket = linked_entry_is_of_bucket (bucket_of wanted) i (ap newest_below (sym e) ∙ s.of_bucket ∙ e) in
            x.links i (omega (arith, s.counted)) ∙ ap (λ (b : ℕ). newest chunk edits p b i) in-bucket

        -- an entry's link leads to an older one
        pub link_falls : entry_link p i < link
        link_falls = omega (arith, next_link, newest_is_no_later (bucket_of wanted) i)

        -- past an entry with other bytes the search goes on at its link
        pub searching_goes_on : same_bytes wanted (bytes_at i) ≡ false → Searching (entry_link p i)
        searching_goes_on other = record {
          counted = omega (arith, link_falls, s.counted);
          of_bucket = ap newest_below next_link ∙ newest_of_newest (bucket_of wanted) i ∙ sym next_link;
          same_answer = s.same_answer ∙ ap found_below e ∙ find_at_other i other ∙ find_from_newest i ∙ ap found_below (sym next_link);
        }

    -- at no entry there is nothing left
    pub searching_finds_none : {link : ℕ} → link ≡ 0 → Searching link → found_in (entries p) ≡ None
    unfolding find entries_below
    searching_finds_none e s = s.same_answer ∙ ap found_below e
