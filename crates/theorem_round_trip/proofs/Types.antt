-- Where a type is placed, its descriptor reads as the type and lies below the cursor: by induction on the type. A type that a pool has is an equal one.
use Rattle.std.specs.Prelude.{Some}
use mathlib.Core.Path.{◌≡◌, refl, sym, subst}
use mathlib.Core.List.{List, [], ◌∷◌}
use mathlib.Core.Bool.{Bool, true, false, ◌&&◌}
use Prim.Native.Nat.{ℕ, ◌+◌, ◌*◌, ◌<◌, ◌≤◌}
use native.Mathlib.Omega.{arith}
use borrow.Author.Tests.{eqb-true}
use lib.ListN.{length}
use lib.Dec.{eqb}
use Rattle.text.specs.Same.{same_bytes}
use Rattle.text.proofs.Bools.{and-true}
use Rattle.text.proofs.SameBytes.{same_bytes_equal}
use Rattle.reflection.specs.Limits.{chunk_limit}
use Rattle.reflection.specs.Reflection.{TypeNumbers, TypeDesc, type_desc, Members, no_member, member, member_count}
use Rattle.reflection.specs.Contents.{Bytes}
use Rattle.reflection.proofs.Equalities.{equal_type_numbers}
use Rattle.read_spec.specs.Read.{type_stride}
use Rattle.write_spec.specs.Step.{Cell, Pools, ◌>>=◌, append, pad, word_cells, find, unless_empty, add_type}
use Rattle.write_spec.specs.Records.{type_words_in_chunk}
use Rattle.write_spec.specs.Same.{numbers_of, same_type, same_members}
use Rattle.write_spec.specs.Layout.{write_type, place_type, place_members}
use Rattle.write_spec.specs.Canonical.{bytes_facts}
use Rattle.theorem_round_trip.proofs.Lists.{found_entry}
use Rattle.theorem_round_trip.proofs.Holds.{holds_nothing, length_word_cells, WordsAt, words_fit}
use Rattle.theorem_round_trip.proofs.Texts.{NameOrEmpty}
use Rattle.theorem_round_trip.proofs.Steps.{TypeAt, PoolsHold, Leaves, bind_leaves, in_member_pool_leaves, return_leaves}
use Rattle.theorem_round_trip.proofs.Steps.{add_to_pool_if_leaves, Appended, append_leaves, pad_leaves, interned_leaves, unless_empty_leaves}
use Rattle.theorem_round_trip.proofs.Steps.{weaken_leaves}
use Rattle.theorem_round_trip.proofs.Names.{place_inner_name_leaves, place_type_name_leaves}
use Rattle.theorem_round_trip.proofs.Conditions.{ReadableType, ReadableMembers}
use Rattle.theorem_round_trip.proofs.TypeReading.{length_type_words, MembersAt, members_later, no_members, type_at}

-- Types that the test finds equal are equal.
same_numbers : (k k' : TypeNumbers) → same_bytes (numbers_of k) (numbers_of k') ≡ true → k ≡ k'
unfolding numbers_of
same_numbers k k' e =
    equal_type_numbers k k' (same_bytes_equal (numbers_of k) (numbers_of k') e)

mutual
  unfolding same_type

  pub same_type_equal : (s t : TypeDesc Bytes) → same_type same_bytes s t ≡ true → s ≡ t
  same_type_equal (type_desc k n ms) (type_desc k' n' ms') e =
      let (numbers, e₁) = and-true (same_bytes (numbers_of k) (numbers_of k')) (same_bytes n n' && same_members same_bytes ms ms') e in
      let (names, members) = and-true (same_bytes n n') (same_members same_bytes ms ms') e₁ in
      let a = same_numbers k k' numbers in
      let b = same_bytes_equal n n' names in
      let c = same_members_equal ms ms' members in
      λ i. type_desc (a i) (b i) (c i)

  pub same_members_equal : (ms ns : Members Bytes) → same_members same_bytes ms ns ≡ true → ms ≡ ns
  same_members_equal no_member no_member e = refl
  same_members_equal no_member (member n o t ns) e = cc
  same_members_equal (member n o t ms) no_member e = cc
  same_members_equal (member n o t ms) (member n' o' t' ms') e =
      let (names, e₁) = and-true (same_bytes n n') (eqb o o' && (same_type same_bytes t t' && same_members same_bytes ms ms')) e in
      let (offsets, e₂) = and-true (eqb o o') (same_type same_bytes t t' && same_members same_bytes ms ms') e₁ in
      let (types, others) = and-true (same_type same_bytes t t') (same_members same_bytes ms ms') e₂ in
      let a = same_bytes_equal n n' names in
      let b = eqb-true o o' offsets in
      let c = same_type_equal t t' types in
      let d = same_members_equal ms ms' others in
      λ i. member (a i) (b i) (c i) (d i)

module _ (cells : List (Cell Bytes Bytes)) (short : length cells ≤ chunk_limit) (sm5 : Bool) where
  -- The type lies at o, below the cursor.
  abbrev TypeBelow : TypeDesc Bytes → ℕ → ℕ → Type 0
  TypeBelow t o at = TypeAt cells sm5 o t × (o < at)

  old_type : (at : ℕ) (t : TypeDesc Bytes) (ps : Pools Bytes Bytes) (o : ℕ) → PoolsHold cells sm5 at ps → find (same_type same_bytes t) ps.types ≡ Some o
      → TypeBelow t o at
  old_type at t ps o inv e =
      let (k, same, h) = found_entry (λ e. TypeAt cells sm5 e.1 e.0 × (e.1 < at)) (same_type same_bytes t) ps.types o inv.types e in
      (subst (TypeAt cells sm5 o) (sym (same_type_equal t k same)) h.0, h.1)

  -- Member records stand at the offset, which is at most the cursor.
  abbrev RecordsAt : List ℕ → ℕ → ℕ → Type 0
  RecordsAt ws members at = WordsAt cells members ws × (members ≤ at)

  records_leave : (count : ℕ) (ws : List ℕ) (at : ℕ) → (count ≡ 0 → ◌≡◌ {A = List ℕ} [] ws)
      → Leaves cells sm5 at (unless_empty count (pad >>= λ _. append (word_cells ws))) (RecordsAt ws)
  unfolding WordsAt word_cells
  records_leave count ws at empty =
      unless_empty_leaves count (λ e. (subst (λ l. WordsAt cells 0 l) (empty e) (holds_nothing cells), omega arith))
      (λ _. bind_leaves (pad_leaves at) λ _ at₁ le₁ _.
      weaken_leaves (λ members at₂ put. (put.stands, omega (arith, put.began, put.ends))) (append_leaves at₁ (word_cells ws)))

  fresh_type : (k : TypeNumbers) (n : Bytes) (ms : Members Bytes) (ws : List ℕ) (at₂ members at₃ at₄ name o at₅ : ℕ) → ReadableType sm5 (type_desc k n ms)
      → NameOrEmpty cells name n
      → MembersAt cells sm5 ms ws at₂ → at₂ ≤ at₃ → RecordsAt ws members at₃ → at₃ ≤ at₄
      → Appended cells at₄ (word_cells (type_words_in_chunk sm5 k (member_count ms) members name)) o at₅
      → TypeBelow (type_desc k n ms) o at₅
  unfolding WordsAt
  fresh_type k n ms ws at₂ members at₃ at₄ name o at₅ fine named all le₃ records le₄ put =
      let row = type_words_in_chunk sm5 k (member_count ms) members name in
      let stands : WordsAt cells o row = put.stands in
      let fits : o + 4 * length row ≤ length cells = words_fit cells o row stands in
      let long : 4 ≤ 4 * length row = long_enough sm5 (4 * length row) (length_type_words sm5 k (member_count ms) members name) in (
        type_at cells sm5 short o members name k n ms ws fine (omega (arith, records.1, put.began))
            (members_later cells sm5 ms ws at₂ o (omega (arith, put.began)) all) named records.0
            (omega arith) stands,
        omega (arith, put.began, put.ends, length_word_cells row),
      )
    where
      long_enough : (v : Bool) (n : ℕ) → n ≡ type_stride v → 4 ≤ n
      long_enough false n e = omega arith
      long_enough true n e = omega arith

  mutual
    unfolding place_type write_type ReadableType bytes_facts

    pub place_type_leaves : (t : TypeDesc Bytes) → ReadableType sm5 t → (share : Bool) (at : ℕ)
        → Leaves cells sm5 at (place_type bytes_facts sm5 share t) (TypeBelow t)
    place_type_leaves (type_desc k n ms) fine share at =
        interned_leaves (share && eqb k.elements 0) (old_type at (type_desc k n ms))
        (bind_leaves
        (bind_leaves (place_type_name_leaves cells sm5 at n fine.4) λ name at₁ le₁ named.
        bind_leaves (place_members_leaves ms fine.3 at₁) λ ws at₂ le₂ all.
        bind_leaves (records_leave (member_count ms) ws at₂ (λ e. no_members cells sm5 ms ws at₂ e all)) λ members at₃ le₃ records.
        bind_leaves (pad_leaves at₃) λ _ at₄ le₄ _.
        weaken_leaves (λ o at₅ put. fresh_type k n ms ws at₂ members at₃ at₄ name o at₅ fine named all le₃ records le₄ put)
        (append_leaves at₄ (word_cells (type_words_in_chunk sm5 k (member_count ms) members name)))) λ o at₅ le₅ there.
        add_to_pool_if_leaves share (add_type (type_desc k n ms)) o
        (λ ps inv. record {
          cursor = inv.cursor;
          outer_names = inv.outer_names;
          inner_names = inv.inner_names;
          types = (there, inv.types);
          member_types =
              inv.member_types;
          defaults = inv.defaults;
        })
        there)

    pub place_members_leaves : (ms : Members Bytes) → ReadableMembers sm5 ms → (at : ℕ)
        → Leaves cells sm5 at (place_members bytes_facts sm5 ms) (MembersAt cells sm5 ms)
    place_members_leaves no_member fine at = return_leaves [] tt
    place_members_leaves (member n f t ms) fine at =
        bind_leaves (place_inner_name_leaves cells sm5 at n fine.3) λ name at₁ le₁ named.
        bind_leaves (in_member_pool_leaves (place_type_leaves t fine.1 true at₁)) λ type at₂ le₂ there.
        bind_leaves (place_members_leaves ms fine.2 at₂) λ ws at₃ le₃ others.
        return_leaves (name ∷ type ∷ f ∷ ws) (named, there.0, omega (arith, there.1), refl, others)
