-- What is read is readable: names and defaults, and types with their members. Reading tests the names' bytes and places, a word's halves are below 65,536, and
-- each node is taken from the room once.
use Rattle.std.proofs.lemmas.Option.{none-some}
use Rattle.text.proofs.Written.{span_parts}
use Rattle.std.specs.Prelude.{None, Some}
use mathlib.Core.Path.{◌≡◌, refl, sym, ap, ◌∙◌}
use mathlib.Core.Bool.{Bool, true, false, ◌&&◌, ◌||◌, or-true}
use mathlib.Core.List.{List, [], ◌∷◌, ◌++◌}
use Prim.Native.Nat.{ℕ, zero, suc, ◌+◌, ◌≤◌, ◌<◌}
use native.Mathlib.Omega.{arith}
use borrow.Author.Tests.{le-leb, eq-eqb}
use lib.Dec.{eqb}
use lib.ListN.{length, get_or, length-append}
use Rattle.words.specs.Words.{word_at, low_at, high_at}
use Rattle.words.specs.Parts.{inside}
use Rattle.words.proofs.Words.{word_bounded}
use Rattle.words.proofs.Parts.{inside_fits, fits_inside, part_inside}
use Rattle.text.specs.Strings.{span}
use Rattle.text.specs.Utf8.{well_formed, run}
use Rattle.text.specs.Strings.{without_nul, cstring_at}
use Rattle.text.proofs.Written.{StringAt, cstring_found}
use Rattle.reflection.specs.Strides.{member_stride}
use Rattle.reflection.specs.declared.Text.{Text}
use Rattle.reflection.specs.Reflection.{TypeDesc, Members, member_count}
use Rattle.tables.specs.Nodes.{Node, nodes_of, nodes_of_members}
use Rattle.reflection.specs.Texts.{in_chunk}
use Rattle.reflection.proofs.TextParts.{place_in_chunk}
use Rattle.reflection.specs.Contents.{Bytes}
use Rattle.read_spec.specs.Step.{Room, ReadStep, return, refuse}
use Rattle.read_spec.specs.Read.{read_members, cstring_or_empty, type_name_at, numbers_from, read_type, default_at}
use Rattle.words.specs.Words.{word_if}
use Rattle.readable.specs.Readable.{every, name_readable, zero_unless, numbers_readable}
use Rattle.readable.specs.Checks.{name_checked, default_checked}
use Rattle.readable.proofs.RecordTests.{name_in_chunk}
use Rattle.readable.proofs.TypeTests.{type_held, members_held}
use Rattle.readable.proofs.Leaves.{Leaves, Spent, none_spent, then_leaves, check_leaves, text_leaves, type_leaves}

module _ (chunk edits : Bytes) where
  -- A string that is found is a readable name; so is the empty one.
  pub string_held : (at place k : ℕ) → cstring_at chunk at ≡ Some (span place k) → name_checked chunk edits (in_chunk place k) ≡ true
  unfolding name_readable
  string_held at place k e =
      let found : StringAt chunk at place k = cstring_found chunk at place k e in
      let in_place : inside (length chunk) place k ≡ true = fits_inside (length chunk) place k (omega arith) in
      name_in_chunk chunk edits (in_chunk place k) refl
      ∙ ap (λ bs. inside (length chunk) place k && (without_nul bs && well_formed bs)) (part_inside chunk place k in_place)
      ∙ (λ i. in_place i && (found.no_nul i && found.formed i))

  pub empty_held : name_checked chunk edits (in_chunk 0 0) ≡ true
  unfolding name_readable without_nul well_formed run
  empty_held =
      let in_place : inside (length chunk) 0 0 ≡ true = fits_inside (length chunk) 0 0 (omega arith) in
      name_in_chunk chunk edits (in_chunk 0 0) refl
      ∙ ap (λ bs. inside (length chunk) 0 0 && (without_nul bs && well_formed bs)) (part_inside chunk 0 0 in_place)
      ∙ ap (λ b. b && true) in_place

  -- A type's name, which is empty for major 4.
  pub type_name_held : (sm5 : Bool) (at place k : ℕ) → type_name_at chunk sm5 at ≡ Some (span place k)
      → (name_checked chunk edits (in_chunk place k) ≡ true) × (zero_unless sm5 (k ∷ []) ≡ true)
  unfolding type_name_at cstring_or_empty zero_unless every
  type_name_held false at place k e = let first = (span_parts e).0 in let none = (span_parts e).1 in (cc empty_held, cc)
  type_name_held true at place k e = (go (word_at chunk (at + 32)) e, refl)
    where
      go : (offset : ℕ) → cstring_or_empty chunk offset ≡ Some (span place k) → name_checked chunk edits (in_chunk place k) ≡ true
      go zero f = let first = (span_parts f).0 in let none = (span_parts f).1 in cc empty_held
      go (suc offset) f = string_held (suc offset) place k f

  -- A default: empty, or of the size that was asked for.
  placed_held : (size place k : ℕ) → place + k ≤ length chunk → (eqb k 0 || eqb k size) ≡ true → default_checked chunk edits size (in_chunk place k) ≡ true
  unfolding default_checked
  placed_held size place k h e = (λ i. (place_in_chunk chunk edits (in_chunk place k) refl ∙ fits_inside (length chunk) place k h) i && e i)

  pub default_held : (offset size place k : ℕ) → default_at chunk offset size ≡ Some (span place k) → default_checked chunk edits size (in_chunk place k) ≡ true
  unfolding default_at
  default_held zero size place k e =
      let first : 0 ≡ place = (span_parts e).0 in
      let none : 0 ≡ k = (span_parts e).1 in
      placed_held size place k (omega arith) (ap (λ b. b || eqb k size) (eq-eqb k 0 (sym none)))
  default_held (suc offset) size place k e = go (inside (length chunk) (suc offset) size) refl e
    where
      go : (b : Bool) → inside (length chunk) (suc offset) size ≡ b → elim b [ true ↦ Some (span (suc offset) size) | false ↦ None ] ≡ Some (span place k)
          → default_checked chunk edits size (in_chunk place k) ≡ true
      go true fits f =
          let here : suc offset ≡ place = (span_parts f).0 in
          let long : size ≡ k = (span_parts f).1 in
          placed_held size place k (omega (arith, inside_fits (length chunk) (suc offset) size fits))
          (ap (λ b. eqb k 0 || b) (eq-eqb k size (sym long)) ∙ or-true (eqb k 0))
      go false fits f = absurd (none-some _ f)

module _ (chunk : Bytes) (bytes : (i : ℕ) → get_or chunk i 0 < 256) where
  low_fits : (at : ℕ) → low_at chunk at ≤ 65535
  unfolding low_at
  low_fits at = omega arith

  pub high_fits : (at : ℕ) → high_at chunk at ≤ 65535
  unfolding high_at
  high_fits at = omega (arith, word_bounded chunk at bytes)

  -- Words that only major 5 has are 0 for major 4.
  pub longer_held : (sm5 : Bool) (a b c d : ℕ) → zero_unless sm5 (word_if sm5 chunk a ∷ word_if sm5 chunk b ∷ word_if sm5 chunk c ∷ word_if sm5 chunk d ∷ []) ≡ true
  unfolding zero_unless word_if every
  longer_held true a b c d = refl
  longer_held false a b c d = refl

  pub numbers_held : (sm5 : Bool) (at : ℕ) → numbers_readable sm5 (numbers_from chunk sm5 at) ≡ true
  unfolding numbers_readable numbers_from every
  numbers_held sm5 at =
      (λ i. (le-leb (low_at chunk at) 65535 (low_fits at) i
      && (le-leb (high_at chunk at) 65535 (high_fits at) i
      && (le-leb (low_at chunk (at + 4)) 65535 (low_fits (at + 4)) i
      && (le-leb (high_at chunk (at + 4)) 65535 (high_fits (at + 4)) i && (le-leb (low_at chunk (at + 8)) 65535 (low_fits (at + 8)) i && true)))))
      && longer_held sm5 (at + 16) (at + 20) (at + 24) (at + 28) i)

nodes_spent : (xs ys : List (Node Text)) (r r' r'' : Room) → Spent 0 0 0 (length xs) r r' → Spent 0 0 0 (length ys) r' r'' → Spent 0 0 0 (length (xs ++ ys)) r r''
nodes_spent xs ys r r' r'' p q =
    record {
      bindings = omega (arith, p.bindings, q.bindings);
      buffers = omega (arith, p.buffers, q.buffers);
      variables = omega (arith, p.variables, q.variables);
      types = omega (arith, p.types, q.types, length-append xs ys);
    }

-- A type and members that were read: held, and their nodes taken from the room.
module _ (chunk edits : Bytes) (sm5 : Bool) where
  pub record TypeRead (levels : ℕ) (r : Room) (t : TypeDesc Text) (r' : Room) : Type 0 where
    pub held : type_held chunk edits sm5 t levels ≡ true
    pub spent : (n : Text) (o : ℕ) → Spent 0 0 0 (length (nodes_of n o t)) r r'

  pub record MembersRead (levels n : ℕ) (r : Room) (ms : Members Text) (r' : Room) : Type 0 where
    pub held : members_held chunk edits sm5 ms levels ≡ true
    pub count : member_count ms ≡ n
    pub spent : Spent 0 0 0 (length (nodes_of_members ms)) r r'

  members_read : (levels : ℕ) (read : ℕ → ReadStep (TypeDesc Text)) → ((at : ℕ) (r : Room) → Leaves (TypeRead levels r) (read at r))
      → (n at : ℕ) (r : Room) → Leaves (MembersRead levels n r) (read_members read chunk n at r)
  unfolding read_members return members_held member_count nodes_of_members
  members_read levels read h zero at r = record { held = refl; count = refl; spent = none_spent r }
  members_read levels read h (suc n) at r =
      check_leaves (MembersRead levels (suc n) r) _ _ _ r (λ inside.
      text_leaves (MembersRead levels (suc n) r) _ _ _ r (λ place k named.
      then_leaves (TypeRead levels r) (MembersRead levels (suc n) r) _ _ r (h _ r) (λ t r' typed.
      then_leaves (MembersRead levels n r') (MembersRead levels (suc n) r) _ _ r' (members_read levels read h n (at + member_stride) r') (λ ms r'' others.
      record {
        held = (λ i. (typed.held i && string_held chunk edits _ place k named i) && others.held i);
        count = ap suc others.count;
        spent = nodes_spent (nodes_of (in_chunk place k) (word_at chunk (at + 8)) t) (nodes_of_members ms) r r' r''
            (typed.spent (in_chunk place k) (word_at chunk (at + 8))) others.spent;
      }))))

  node_spent : (n : ℕ) (r r' r'' : Room) → Spent 0 0 0 1 r r' → Spent 0 0 0 n r' r'' → Spent 0 0 0 (suc n) r r''
  node_spent n r r' r'' p q =
      record {
        bindings = omega (arith, p.bindings, q.bindings);
        buffers = omega (arith, p.buffers, q.buffers);
        variables = omega (arith, p.variables, q.variables);
        types = omega (arith, p.types, q.types);
      }

  pub type_read_lem : ((i : ℕ) → get_or chunk i 0 < 256) → (levels : ℕ) (path : List ℕ) (at : ℕ) (r : Room)
      → Leaves (TypeRead levels r) (read_type chunk sm5 levels path at r)
  unfolding read_type return refuse type_held nodes_of
  type_read_lem bytes zero path at r = tt
  type_read_lem bytes (suc levels) path at r =
      check_leaves (TypeRead (suc levels) r) _ _ _ r (λ fresh.
      type_leaves (TypeRead (suc levels) r) _ r (λ r' taken.
      check_leaves (TypeRead (suc levels) r) _ _ _ r' (λ fits.
      then_leaves (MembersRead levels (high_at chunk (at + 8)) r') (TypeRead (suc levels) r) _ _ r'
      (members_read levels _ (λ below. type_read_lem bytes levels (at ∷ path) below) (high_at chunk (at + 8)) (word_at chunk (at + 12)) r') (λ ms r'' members.
      text_leaves (TypeRead (suc levels) r) _ _ _ r'' (λ place k named.
      let name = type_name_held chunk edits sm5 at place k named in
      let few : member_count ms ≤ 65535 = omega (arith, members.count, high_fits chunk bytes (at + 8)) in
      record {
        held = (λ i. (numbers_held chunk bytes sm5 at i && (le-leb (member_count ms) 65535 few i && (name.1 i && name.0 i))) && members.held i);
        spent = λ n o. node_spent (length (nodes_of_members ms)) r r' r'' taken members.spent;
      })))))
