-- A text is placed interned: where its pool has an equal one its offset is that one's and nothing changes; else its bytes are written at the cursor and its
-- pool has one entry more. A step sees a pool's entries only through the search, so one law serves every pool of texts, and names and defaults.
use Rattle.std.specs.Prelude.{Option, Some, None}
use mathlib.Core.Path.{◌≡◌, refl, ap, sym, ◌∙◌, subst}
use mathlib.Core.Bool.{Bool, true, false}
use mathlib.Core.List.{List, [], ◌∷◌, ◌++◌}
use Prim.Native.Nat.{ℕ, ◌+◌, ◌≤◌}
use native.Mathlib.Omega.{arith}
use lib.Dec.{eqb}
use lib.ListN.{length, replicate, drop, length-replicate, length-append, length-take, length-drop}
use Rattle.words.specs.Parts.{inside, part}
use Rattle.words.proofs.Parts.{part_inside, part_outside}
use Rattle.words.specs.Splice.{Put, splice}
use Rattle.words.proofs.Splice.{splice_append}
use Rattle.text.specs.Same.{same_bytes}
use Rattle.reflection.specs.declared.Text.{Text}
use Rattle.reflection.specs.Texts.{text_bytes}
use Rattle.reflection.specs.Limits.{chunk_limit}
use Rattle.write_spec.specs.Step.{Pools, WriteStep, padding_at, find, interned, cells_of, default_byte}
use Rattle.write_spec.specs.Layout.{name_cells}
use Rattle.write_spec.specs.Canonical.{bytes_facts}
use Rattle.write_spec.specs.Through.{through}
use Rattle.write_pool.specs.Pool.{Indexed, entries, bucket_of, Remembered}
use Rattle.write_texts.specs.Simulates.{Simulates, text_facts}
use Rattle.write_texts.specs.PlacedInPool.{SourcesFit, HasRoom, Grown, placed_limit, PlacedInPool}
use Rattle.write_texts.specs.PlacedInPool.{TextPool, OuterNames, InnerNames, Defaults, entries_of, with_entries, add_text}
use Rattle.write_texts.specs.PlacedInPool.{write_name, write_text, same_text, place_text, text_written, text_start}
use Rattle.write_texts.specs.Cursor.{Placement}
use Rattle.write_texts.proofs.CellBytes.{cell_bytes_name, cell_bytes_default}
use Rattle.write_bytes.proofs.Stores.{padding_short}
use Rattle.write_texts.proofs.Runs.{ran_bind, ran_append, ran_pad, simulates_add_to_pool}
use Rattle.write_texts.proofs.Runs.{simulates_interned_found, simulates_interned_fresh, ran_like}

-- a text is no longer than the buffer that it lies in
length_part_up : (s : List ℕ) (place n : ℕ) → length (part s place n) ≤ length s
length_part_up s place n = by_test (inside (length s) place n) refl
  where
    by_test : (b : Bool) → inside (length s) place n ≡ b → length (part s place n) ≤ length s
    by_test true e = omega (arith, ap length (part_inside s place n e), length-take n (drop place s), length-drop place s)
    by_test false e = omega (arith, ap length (part_outside s place n e))

pub text_short : {chunk edits : List ℕ} → SourcesFit chunk edits → (text : Text) → length (text_bytes chunk edits text) ≤ chunk_limit
unfolding text_bytes
text_short {chunk} {edits} short text = by_source (eqb text.source 0) (eqb text.source 1)
  where
    bytes : Bool → Bool → List ℕ
    bytes a b = elim a [
      | true ↦ part chunk text.place text.length
      | false ↦ elim b [ true ↦ part edits text.place text.length | false ↦ [] ]
    ]

    by_source : (a b : Bool) → length (bytes a b) ≤ chunk_limit
    by_source true b = omega (arith, length_part_up chunk text.place text.length, short.chunk_short)
    by_source false true = omega (arith, length_part_up edits text.place text.length, short.edits_short)
    by_source false false = omega arith

-- one run that was put in two parts
module _ {l l' : List ℕ} (xs ys : List ℕ) {a r n : ℕ} (p : Put l a (xs ++ ys) l' r) (e : length xs ≡ n) where
  put_first : Put l a xs (splice l a xs) (a + n)
  put_first = record { list = refl; next = ap (λ (k : ℕ). a + k) (sym e) }

  put_rest : Put (splice l a xs) (a + n) ys l' r
  put_rest = record {
    list = p.list ∙ sym (splice_append l a xs ys) ∙ ap (λ (k : ℕ). splice (splice l a xs) (a + k) ys) e;
    next = omega (arith, p.next, length-append xs ys, e);
  }

-- the pools with a pool's own entries are what they were
with_own : (texts : TextPool) (ps : Pools Text Text) → ps ≡ with_entries texts (entries_of texts ps) ps
with_own OuterNames ps = refl
with_own InnerNames ps = refl
with_own Defaults ps = refl

module _ (chunk edits : List ℕ) where
  -- what a search for a text's bytes finds among entries
  abbrev search : Text → List (Text × ℕ) → Option ℕ
  search text es = find (λ t. same_bytes (text_bytes chunk edits text) (text_bytes chunk edits t)) es

  -- the search that the code made, in a pool's words
  pub record Looked (text : Text) (pool wanted : List ℕ) (looked : Option ℕ) : Type 0 where
    pub wanted-is : wanted ≡ text_bytes chunk edits text
    pub looked_is : looked ≡ find (λ t. same_bytes wanted (text_bytes chunk edits t)) (entries pool)

  look_is : {text : Text} {pool wanted : List ℕ} {looked : Option ℕ} → Looked text pool wanted looked → search text (entries pool) ≡ looked
  look_is {text} {pool} l = ap (λ (w : List ℕ). find (λ t. same_bytes w (text_bytes chunk edits t)) (entries pool)) (sym l.wanted-is) ∙ sym l.looked_is

  -- a pool that was not touched, and one that has one entry more
  grown_none : (pool : List ℕ) → Indexed chunk edits pool → Grown chunk edits pool pool
  grown_none pool indexed = record { indexed = indexed; long = refl; count_low = omega arith; count_high = omega arith }

  grown_one : {pool pool' : List ℕ} {text : Text} {bucket offset : ℕ} → Indexed chunk edits pool → bucket ≡ bucket_of (text_bytes chunk edits text)
      → Remembered pool text bucket offset pool' → Grown chunk edits pool pool'
  grown_one indexed e remembered = record {
    indexed = remembered.indexed chunk edits indexed e;
    long = remembered.same_length;
    count_low = omega (arith, remembered.one_more_counted);
    count_high = omega (arith, remembered.one_more_counted);
  }

  -- a text that is looked up; `write add` is what is done for one that is not there, and remembers it by `add`
  module _ (texts : TextPool) (text : Text) (write : (ℕ → Pools Text Text → Pools Text Text) → WriteStep Text Text ℕ) where
    abbrev looked_up : WriteStep Text Text ℕ
    looked_up = interned true (λ ps. search text (entries_of texts ps)) (write (add_text texts text))

    module _ {at : ℕ} {pool out wanted : List ℕ} {looked : Option ℕ} (open-pool : HasRoom chunk edits pool) (l : Looked text pool wanted looked) where
      text_found : {offset : ℕ} → looked ≡ Some offset → PlacedInPool chunk edits texts looked_up at pool pool out out (record { offset = offset; at = at })
      text_found {offset} known = record {
        ran = λ ps e.
            ran_like chunk edits refl (with_own texts ps ∙ ap (λ (es : List (Text × ℕ)). with_entries texts es ps) e) refl
            (simulates_interned_found chunk edits (λ qs. search text (entries_of texts qs)) (write (add_text texts text)) offset at ps out
            (ap (search text) e ∙ look_is l ∙ known));
        pool_grown = grown_none pool open-pool.indexed;
        near_low = omega arith;
        near_high = omega arith;
      }

      text_fresh : {pool' out' : List ℕ} {offset to : ℕ} → looked ≡ None → Remembered pool text (bucket_of wanted) offset pool' → at ≤ to → to ≤ at + placed_limit
          → ((add : ℕ → Pools Text Text → Pools Text Text) (ps : Pools Text Text) → Simulates chunk edits (write add) at ps out out' offset to (add offset ps))
          → PlacedInPool chunk edits texts looked_up at pool pool' out out' (record { offset = offset; at = to })
      text_fresh {offset = offset} absent remembered low high written = record {
        ran = λ ps e.
            let one_more = ap (λ (es : List (Text × ℕ)). (text, offset) ∷ es) e ∙ sym remembered.one_entry_more in
            ran_like chunk edits refl (ap (λ (es : List (Text × ℕ)). with_entries texts es ps) one_more) refl
            (simulates_interned_fresh chunk edits (λ qs. search text (entries_of texts qs)) (ap (search text) e ∙ look_is l ∙ absent)
            (written (add_text texts text) ps));
        pool_grown = grown_one open-pool.indexed (ap bucket_of l.wanted-is) remembered;
        near_low = low;
        near_high = high;
      }

  -- what is written for a text, in cells and in bytes
  name_ran : (name : Text) {at offset to : ℕ} {out out' : List ℕ} → offset ≡ at → Put out at (text_bytes chunk edits name ++ (0 ∷ [])) out' to
      → (add : ℕ → Pools Text Text → Pools Text Text) (ps : Pools Text Text)
      → Simulates chunk edits (write_name (text_facts chunk edits) name add) at ps out out' offset to (add offset ps)
  name_ran name {at} {to = to} {out' = out'} starts put add ps =
      rw starts
      (ran_bind chunk edits _ (ran_append chunk edits (name_cells (text_facts chunk edits) name) (cell_bytes_name chunk edits name) put)
      (simulates_add_to_pool chunk edits add at to ps out'))

  text_ran : (texts : TextPool) (text : Text) {at offset to : ℕ} {out out' : List ℕ} → offset ≡ text_start texts at
      → Put out at (text_written texts at (text_bytes chunk edits text)) out' to → (add : ℕ → Pools Text Text → Pools Text Text) (ps : Pools Text Text)
      → Simulates chunk edits (write_text (text_facts chunk edits) texts text add) at ps out out' offset to (add offset ps)
  unfolding text_facts through bytes_facts
  text_ran OuterNames name starts put add ps = name_ran name starts put add ps
  text_ran InnerNames name starts put add ps = name_ran name starts put add ps
  text_ran Defaults default {at} {to = to} {out' = out'} starts put add ps =
      let padded = put_first (replicate (padding_at at) 0xab) _ put (length-replicate {A = ℕ} (padding_at at) 0xab) in
      rw starts (
      ran_bind chunk edits _ (ran_pad chunk edits padded)
      (ran_bind chunk edits _
      (ran_append chunk edits (cells_of (length (text_bytes chunk edits default)) (default_byte default)) (cell_bytes_default chunk edits default)
      (put_rest (replicate (padding_at at) 0xab) _ put (length-replicate {A = ℕ} (padding_at at) 0xab)))
      (simulates_add_to_pool chunk edits add (at + padding_at at) to ps out')))

  text_near : (texts : TextPool) (text : Text) {at to : ℕ} {out out' : List ℕ} → SourcesFit chunk edits
      → Put out at (text_written texts at (text_bytes chunk edits text)) out' to → to ≤ at + placed_limit
  text_near OuterNames name short put = omega (arith, put.next, length-append (text_bytes chunk edits name) (0 ∷ []), text_short short name)
  text_near InnerNames name short put = omega (arith, put.next, length-append (text_bytes chunk edits name) (0 ∷ []), text_short short name)
  text_near Defaults default {at} short put =
      omega (
        arith,
        put.next,
        length-append (replicate (padding_at at) 0xab) (text_bytes chunk edits default),
        length-replicate {A = ℕ} (padding_at at) 0xab,
        padding_short at,
        text_short short default,
      )

  -- texts are the same where their bytes are
  same_by_bytes : (texts : TextPool) (text : Text)
      → same_text (text_facts chunk edits) texts text ≡ (λ (t : Text). same_bytes (text_bytes chunk edits text) (text_bytes chunk edits t))
  unfolding text_facts through bytes_facts
  same_by_bytes OuterNames name = refl
  same_by_bytes InnerNames name = refl
  same_by_bytes Defaults default = refl

  looks_alike : (texts : TextPool) (text : Text) {at : ℕ} {pool pool' out out' : List ℕ} {r : Placement}
      → PlacedInPool chunk edits texts (looked_up texts text (write_text (text_facts chunk edits) texts text)) at pool pool' out out' r
      → PlacedInPool chunk edits texts (place_text (text_facts chunk edits) texts text) at pool pool' out out' r
  looks_alike texts text {at} {pool} {pool'} {out} {out'} {r} =
      subst
      (λ (same : Text → Bool).
      PlacedInPool chunk edits texts (interned true (λ ps. find same (entries_of texts ps)) (write_text (text_facts chunk edits) texts text (add_text texts text)))
      at pool pool' out out' r)
      (sym (same_by_bytes texts text))

  -- a text placed through its pool: it was found, or it was written and remembered
  module _ (texts : TextPool) (text : Text) {at : ℕ} {pool out wanted : List ℕ} {looked : Option ℕ}
      (open-pool : HasRoom chunk edits pool) (l : Looked text pool wanted looked) where
    pub placed_found : {offset : ℕ} → looked ≡ Some offset
        → PlacedInPool chunk edits texts (place_text (text_facts chunk edits) texts text) at pool pool out out (record { offset = offset; at = at })
    placed_found known = looks_alike texts text (text_found texts text (write_text (text_facts chunk edits) texts text) open-pool l known)

    pub placed_fresh : {pool' out' : List ℕ} {offset to : ℕ} → looked ≡ None → SourcesFit chunk edits → offset ≡ text_start texts at
        → Put out at (text_written texts at wanted) out' to → Remembered pool text (bucket_of wanted) offset pool'
        → PlacedInPool chunk edits texts (place_text (text_facts chunk edits) texts text) at pool pool' out out' (record { offset = offset; at = to })
    placed_fresh {out' = out'} {to = to} absent short starts put remembered =
        let put-text = subst (λ w. Put out at (text_written texts at w) out' to) l.wanted-is put in
        looks_alike texts text
        (text_fresh texts text (write_text (text_facts chunk edits) texts text) open-pool l absent remembered (omega (arith, put.next))
        (text_near texts text short put-text) (text_ran texts text starts put-text))
