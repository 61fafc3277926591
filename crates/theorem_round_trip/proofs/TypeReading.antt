-- A type descriptor whose words, name and member records stand in the final cells reads as the type. Every descriptor below it lies at a smaller offset, so
-- no path meets itself.
use mathlib.Core.Path.{◌≡◌, refl, ap, sym, ◌∙◌, subst}
use mathlib.Core.List.{List, [], ◌∷◌, ◌++◌}
use mathlib.Core.Bool.{Bool, true, false, not}
use Prim.Native.Nat.{ℕ, zero, suc, ◌+◌, ◌*◌, ◌<◌, ◌≤◌, ◌/◌, ◌%◌}
use native.Mathlib.Omega.{arith}
use native.Mathlib.Nat.{add-zero, add_assoc}
use lib.ListN.{length, get_or}
use Rattle.words.specs.Words.{word_at, low_at, high_at}
use Rattle.text.specs.Strings.{span}
use Rattle.std.specs.Prelude.{Some}
use Rattle.text.specs.Strings.{cstring_at}
use Rattle.reflection.specs.Limits.{chunk_limit}
use Rattle.reflection.specs.Strides.{type_stride, member_stride}
use Rattle.reflection.specs.Reflection.{TypeNumbers, TypeDesc, type_desc, Members, no_member, member, member_count, map_type, map_members}
use Rattle.tables.proofs.Levels.{Fits, FitsAll}
use Rattle.reflection.specs.Texts.{in_chunk}
use Rattle.reflection.specs.Contents.{Bytes}
use Rattle.reflection.proofs.Equalities.{equal_type_numbers}
use Rattle.read_spec.specs.Step.{room}
use Rattle.read_spec.specs.Read.{on_path, read_members, cstring_or_empty, type_name_at, numbers_from, read_type}
use Rattle.words.specs.Words.{word_if}
use Rattle.write_spec.specs.Step.{Cell}
use Rattle.write_spec.specs.Records.{halves, type_words_in_chunk, words_if}
use Rattle.theorem_round_trip.specs.RoundTrip.{EachIsWord}
use Rattle.theorem_round_trip.proofs.Lists.{All, all_weaken}
use Rattle.theorem_round_trip.proofs.Holds.{bytes_of, WordsAt, Longer, inside_bytes, words_first, row_word, words_fit, words_split, longer_word}
use Rattle.theorem_round_trip.proofs.Rooms.{Takes, Reads, then_takes, free_then, then_free}
use Rattle.theorem_round_trip.proofs.Rooms.{return_takes, returns, check_takes, text_takes, type_takes, below_not_on_path}
use Rattle.theorem_round_trip.proofs.Texts.{text_in, name_in, NameAt, NameOrEmpty}
use Rattle.theorem_round_trip.proofs.Steps.{type_size, members_size, TypeAt}
use Rattle.theorem_round_trip.proofs.Conditions.{ReadableNumbers, NamedIf, ReadableType, ReadableMembers}

-- Two numbers of 16 bits in a word.
low_of_halves : (w a b : ℕ) → w ≡ halves a b → a < 65536 → w % 65536 ≡ a
unfolding halves
low_of_halves w a b e h = omega arith

high_of_halves : (w a b : ℕ) → w ≡ halves a b → a < 65536 → w / 65536 ≡ b
unfolding halves
high_of_halves w a b e h = omega arith

halves_small : (a b : ℕ) → a < 65536 → b < 65536 → halves a b < 4294967296
unfolding halves
halves_small a b h k = omega arith

pub length_type_words : (sm5 : Bool) (k : TypeNumbers) (count members name : ℕ) → 4 * length (type_words_in_chunk sm5 k count members name) ≡ type_stride sm5
unfolding type_words_in_chunk
length_type_words false k count members name = refl
length_type_words true k count members name = refl

-- What the words of a descriptor at o are read as.
module _ (cells : List (Cell Bytes Bytes)) (sm5 : Bool) (k : TypeNumbers) (count members name o : ℕ) (fine : ReadableNumbers sm5 k) (few : count < 65536)
    (small_members : members < 4294967296) (small_name : Longer sm5 name) (stands : WordsAt cells o (type_words_in_chunk sm5 k count members name)) where
  abbrev first : List ℕ
  first = halves k.class k.var_type ∷ halves k.rows k.columns ∷ halves k.elements count ∷ members ∷ []

  abbrev longer : List ℕ
  longer = k.extra0 ∷ k.extra1 ∷ k.extra2 ∷ k.extra3 ∷ name ∷ []

  row : WordsAt cells o (first ++ words_if sm5 longer)
  unfolding type_words_in_chunk
  row = stands

  word : (j : ℕ) → j < 4 → word_at (bytes_of cells) (o + 4 * j) ≡ get_or first j 0
  unfolding EachIsWord
  word j lt =
      row_word cells o first j (
        halves_small _ _ fine.class fine.var_type,
        (halves_small _ _ fine.rows fine.columns, (halves_small _ _ fine.elements few, (small_members, tt))),
      ) lt
      (words_split cells o first (words_if sm5 longer) row).0

  longer_is : (j m : ℕ) → j < 5 → type_stride false + 4 * j ≡ m → word_if sm5 (bytes_of cells) (o + m) ≡ get_or longer j 0
  longer_is j m lt e = longer_word cells sm5 o first longer j m (fine.extra0, (fine.extra1, (fine.extra2, (fine.extra3, (small_name, tt))))) lt e row

  word_0 : word_at (bytes_of cells) o ≡ halves k.class k.var_type
  word_0 = ap (word_at (bytes_of cells)) (sym (add-zero o)) ∙ word 0 (omega arith)

  word_1 : word_at (bytes_of cells) (o + 4) ≡ halves k.rows k.columns
  word_1 = word 1 (omega arith)

  word_2 : word_at (bytes_of cells) (o + 8) ≡ halves k.elements count
  word_2 = word 2 (omega arith)

  numbers_read : numbers_from (bytes_of cells) sm5 o ≡ k
  unfolding numbers_from low_at high_at
  numbers_read = equal_type_numbers _ k (λ i.
      low_of_halves _ k.class k.var_type word_0 fine.class i
      ∷ high_of_halves _ k.class k.var_type word_0 fine.class i
      ∷ low_of_halves _ k.rows k.columns word_1 fine.rows i
      ∷ high_of_halves _ k.rows k.columns word_1 fine.rows i
      ∷ low_of_halves _ k.elements count word_2 fine.elements i
      ∷ longer_is 0 16 (omega arith) refl i ∷ longer_is 1 20 (omega arith) refl i ∷ longer_is 2 24 (omega arith) refl i
      ∷ longer_is 3 28 (omega arith) refl i ∷ [])

  count_read : high_at (bytes_of cells) (o + 8) ≡ count
  unfolding high_at
  count_read = high_of_halves _ k.elements count word_2 fine.elements

  members_read : word_at (bytes_of cells) (o + 12) ≡ members
  members_read = word 3 (omega arith)

  descriptor_fits : o + type_stride sm5 ≤ length cells
  descriptor_fits = omega (arith, words_fit cells o (type_words_in_chunk sm5 k count members name) stands, length_type_words sm5 k count members name)

name_small : (cells : List (Cell Bytes Bytes)) (sm5 : Bool) (o : ℕ) (n : Bytes) → length cells ≤ chunk_limit → NamedIf sm5 n → NameOrEmpty cells o n
    → Longer sm5 o
name_small cells false o n short named h = h.empty named
name_small cells true o n short named h = omega (arith, h.small)

type_name_found : (cells : List (Cell Bytes Bytes)) (sm5 : Bool) (at o : ℕ) (n : Bytes) → NamedIf sm5 n → NameOrEmpty cells o n
    → word_if sm5 (bytes_of cells) (at + 32) ≡ o
    → type_name_at (bytes_of cells) sm5 at ≡ Some (span o (length n))
unfolding type_name_at word_if
type_name_found cells false at o n named h e = λ i. Some (span (e i) (sym named i))
type_name_found cells true at o n named h e = ap (cstring_or_empty (bytes_of cells)) e ∙ h.found

-- The words of member records: each name is found, each type reads and lies below o.
abbrev pub MembersAt : List (Cell Bytes Bytes) → Bool → Members Bytes → List ℕ → ℕ → Type 0
MembersAt cells sm5 no_member [] o = Unit {0}
MembersAt cells sm5 no_member (x ∷ ws) o = ⊥
MembersAt cells sm5 (member n f t ms) [] o = ⊥
MembersAt cells sm5 (member n f t ms) (x ∷ []) o = ⊥
MembersAt cells sm5 (member n f t ms) (x ∷ y ∷ []) o = ⊥
MembersAt cells sm5 (member n f t ms) (name ∷ type ∷ offset ∷ ws) o = NameAt cells name n × TypeAt cells sm5 type t × (type < o) × (offset ≡ f)
    × MembersAt cells sm5 ms ws o

pub members_later : (cells : List (Cell Bytes Bytes)) (sm5 : Bool) (ms : Members Bytes) (ws : List ℕ) (o o' : ℕ) → o ≤ o' → MembersAt cells sm5 ms ws o
    → MembersAt cells sm5 ms ws o'
members_later cells sm5 no_member [] o o' le h = tt
members_later cells sm5 no_member (x ∷ ws) o o' le h = h
members_later cells sm5 (member n f t ms) [] o o' le h = h
members_later cells sm5 (member n f t ms) (x ∷ []) o o' le h = h
members_later cells sm5 (member n f t ms) (x ∷ y ∷ []) o o' le h = h
members_later cells sm5 (member n f t ms) (name ∷ type ∷ offset ∷ ws) o o' le h =
    (h.0, h.1, omega (arith, h.2), h.3, members_later cells sm5 ms ws o o' le h.4)

pub no_members : (cells : List (Cell Bytes Bytes)) (sm5 : Bool) (ms : Members Bytes) (ws : List ℕ) (o : ℕ) → member_count ms ≡ 0 → MembersAt cells sm5 ms ws o
    → ◌≡◌ {A = List ℕ} [] ws
unfolding member_count
no_members cells sm5 no_member [] o e h = refl
no_members cells sm5 no_member (x ∷ ws) o e h = absurd h
no_members cells sm5 (member n f t ms) ws o e h = absurd (omega (arith, e))

module _ (cells : List (Cell Bytes Bytes)) (sm5 : Bool) (short : length cells ≤ chunk_limit) where
  -- One member record, and what is read for its type and for the other members.
  member_read : (levels : ℕ) (path : List ℕ) (n : Bytes) (f : ℕ) (t : TypeDesc Bytes) (ms : Members Bytes) (name type at : ℕ) (ws : List ℕ)
      → NameAt cells name n → type < 4294967296 → f < 4294967296
      → WordsAt cells at (name ∷ type ∷ f ∷ ws) → Reads (read_type (bytes_of cells) sm5 levels path type) (room 0 0 0 (type_size t)) (map_type (text_in cells))
      (map_type name_in t)
      → (WordsAt cells (at + member_stride) ws
      → Reads (read_members (read_type (bytes_of cells) sm5 levels path) (bytes_of cells) (member_count ms) (at + member_stride))
      (room 0 0 0 (members_size ms)) (map_members (text_in cells)) (map_members name_in ms))
      → Reads (read_members (read_type (bytes_of cells) sm5 levels path) (bytes_of cells) (suc (member_count ms)) at) (room 0 0 0 (type_size t + members_size ms))
      (map_members (text_in cells)) (map_members name_in (member n f t ms))
  unfolding read_members map_members
  member_read levels path n f t ms name type at ws named small-type small-offset h read-type read-others =
      record {
        found = member (in_chunk name (length n)) f read-type.found others.found;
        takes =
            free_then _ _ (check_takes _ _ (inside_bytes cells at member_stride (omega (arith, words_fit cells at (name ∷ type ∷ f ∷ ws) h))))
            (free_then _ _ (text_takes _ _ name (length n) (ap (cstring_at (bytes_of cells)) first.0 ∙ named.found))
            (then_takes _ (room 0 0 0 (type_size t)) (room 0 0 0 (members_size ms))
            (subst (λ x. Takes (read_type (bytes_of cells) sm5 levels path x) (room 0 0 0 (type_size t)) read-type.found) (sym second.0) read-type.takes)
            (then_free _ _ others.takes (returns _ _ (ap (λ (x : ℕ). member (in_chunk name (length n)) x read-type.found others.found) offset)))));
        is = λ i. member (named.is i) f (read-type.is i) (others.is i);
      }
    where
      first : (word_at (bytes_of cells) at ≡ name) × WordsAt cells (at + 4) (type ∷ f ∷ ws)
      first = words_first cells at name (type ∷ f ∷ ws) (omega (arith, named.below_end)) h

      second : (word_at (bytes_of cells) (at + 4) ≡ type) × WordsAt cells (at + 4 + 4) (f ∷ ws)
      second = words_first cells (at + 4) type (f ∷ ws) small-type first.1

      third : (word_at (bytes_of cells) (at + 4 + 4) ≡ f) × WordsAt cells (at + 4 + 4 + 4) ws
      third = words_first cells (at + 4 + 4) f ws small-offset second.1

      offset : word_at (bytes_of cells) (at + 8) ≡ f
      offset = ap (word_at (bytes_of cells)) (sym (add_assoc at 4 4)) ∙ third.0

      others : Reads (read_members (read_type (bytes_of cells) sm5 levels path) (bytes_of cells) (member_count ms) (at + member_stride))
          (room 0 0 0 (members_size ms)) (map_members (text_in cells)) (map_members name_in ms)
      others = read-others (subst (λ a. WordsAt cells a ws) (let e : at + 4 + 4 + 4 ≡ at + member_stride = omega arith in e) third.1)

  members_read_back : (o levels : ℕ) (path : List ℕ) → All (λ q. o < q) path → (ms : Members Bytes) (ws : List ℕ) (at : ℕ) → ReadableMembers sm5 ms
      → FitsAll ms levels
      → MembersAt cells sm5 ms ws o → WordsAt cells at ws
      → Reads (read_members (read_type (bytes_of cells) sm5 levels (o ∷ path)) (bytes_of cells) (member_count ms) at) (room 0 0 0 (members_size ms))
      (map_members (text_in cells)) (map_members name_in ms)
  unfolding read_members member_count map_members FitsAll members_size ReadableMembers
  members_read_back o levels path above no_member [] at fine fits all h = record { found = no_member; takes = return_takes no_member; is = refl }
  members_read_back o levels path above no_member (x ∷ ws) at fine fits all h = absurd all
  members_read_back o levels path above (member n f t ms) [] at fine fits all h = absurd all
  members_read_back o levels path above (member n f t ms) (x ∷ []) at fine fits all h = absurd all
  members_read_back o levels path above (member n f t ms) (x ∷ y ∷ []) at fine fits all h = absurd all
  members_read_back o levels path above (member n f t ms) (name ∷ type ∷ offset ∷ ws) at fine fits all h =
      member_read levels (o ∷ path) n f t ms name type at ws all.0 (omega (arith, all.1.below_end)) fine.0
      (subst (λ x. WordsAt cells at (name ∷ type ∷ x ∷ ws)) all.3 h)
      (all.1.reads levels (o ∷ path) fits.0 (all.2, all_weaken (λ q lt. omega (arith, all.2)) path above))
      (λ next. members_read_back o levels path above ms ws (at + member_stride) fine.2 fits.1 all.4 next)

  -- The descriptor at o, its member records at `members`, its name at `name`.
  pub type_at : (o members name : ℕ) (k : TypeNumbers) (n : Bytes) (ms : Members Bytes) (ws : List ℕ) → ReadableType sm5 (type_desc k n ms) → members ≤ o
      → MembersAt cells sm5 ms ws o
      → NameOrEmpty cells name n → WordsAt cells members ws → o < length cells → WordsAt cells o (type_words_in_chunk sm5 k (member_count ms) members name)
      → TypeAt cells sm5 o (type_desc k n ms)
  unfolding read_type Fits map_type type_size ReadableType
  type_at o members name k n ms ws fine le all named records below_end h = record { reads = reads; below_end = below_end }
    where
      small_members : members < 4294967296
      small_members = omega arith

      small_name : Longer sm5 name
      small_name = name_small cells sm5 name n short fine.1 named

      count : high_at (bytes_of cells) (o + 8) ≡ member_count ms
      count = count_read cells sm5 k (member_count ms) members name o fine.0 fine.2 small_members small_name h

      where_members : word_at (bytes_of cells) (o + 12) ≡ members
      where_members = members_read cells sm5 k (member_count ms) members name o fine.0 fine.2 small_members small_name h

      numbers : numbers_from (bytes_of cells) sm5 o ≡ k
      numbers = numbers_read cells sm5 k (member_count ms) members name o fine.0 fine.2 small_members small_name h

      where_name : word_if sm5 (bytes_of cells) (o + 32) ≡ name
      where_name = longer_is cells sm5 k (member_count ms) members name o fine.0 fine.2 small_members small_name h 4 32 (omega arith) refl

      fits_here : o + type_stride sm5 ≤ length cells
      fits_here = descriptor_fits cells sm5 k (member_count ms) members name o fine.0 fine.2 small_members small_name h

      reads : (levels : ℕ) (path : List ℕ) → Fits (type_desc k n ms) levels → All (λ q. o < q) path
          → Reads (read_type (bytes_of cells) sm5 levels path o) (room 0 0 0 (1 + members_size ms)) (map_type (text_in cells)) (map_type name_in (type_desc k n ms))
      reads zero path fits above = absurd fits
      reads (suc levels) path fits above =
          let ps = members_read_back o levels path above ms ws members fine.3 fits all records in
          record {
            found = type_desc k (in_chunk name (length n)) ps.found;
            takes =
                free_then _ _ (check_takes (not (on_path o path)) _ (ap not (below_not_on_path o path above)))
                (then_takes _ (room 0 0 0 1) (room 0 0 0 (members_size ms)) type_takes
                (free_then _ _ (check_takes _ _ (inside_bytes cells o (type_stride sm5) fits_here))
                (then_free _ _ (subst (λ x. Takes (read_members (read_type (bytes_of cells) sm5 levels (o ∷ path)) (bytes_of cells) x
                (word_at (bytes_of cells) (o + 12))) (room 0 0 0 (members_size ms)) ps.found) (sym count)
                (subst (λ x. Takes (read_members (read_type (bytes_of cells) sm5 levels (o ∷ path)) (bytes_of cells) (member_count ms) x)
                (room 0 0 0 (members_size ms)) ps.found) (sym where_members) ps.takes))
                (then_free _ _ (text_takes _ _ name (length n) (type_name_found cells sm5 o name n fine.1 named where_name))
                (returns _ _ (ap (λ (x : TypeNumbers). type_desc x (in_chunk name (length n)) ps.found) numbers))))));
            is = λ i. type_desc k (named.is i) (ps.is i);
          }
