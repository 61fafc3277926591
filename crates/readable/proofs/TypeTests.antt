-- Readable types, by their nodes: the walk over the nodes passes exactly where the nodes build a type, each name of which lies in its buffer and which is
-- readable by its contents. By induction on the levels, and on the members of each type.
use Rattle.std.specs.Prelude.{Option, None, Some}
use mathlib.Core.Path.{◌≡◌, refl, sym, ap, ◌∙◌}
use mathlib.Core.Bool.{Bool, true, false, ◌&&◌, ◌||◌, not, true-and, and-false}
use mathlib.Core.List.{List, [], ◌∷◌}
use Prim.Native.Nat.{ℕ, zero, suc}
use lib.Dec.{leb}
use lib.ListN.{length}
use Rattle.reflection.specs.declared.Text.{Text}
use Rattle.reflection.specs.Reflection.{TypeDesc, type_desc, Members, no_member, member, member_count, map_type, map_members}
use Rattle.tables.specs.Nodes.{Node, Built, ◌>>=◌, members_from_nodes, type_from_nodes}
use Rattle.tables.specs.Decode.{guard}
use Rattle.reflection.specs.Texts.{in_place, text_bytes}
use Rattle.tables.proofs.Options.{then_was}
use Rattle.reflection.proofs.TextParts.{length_bytes}
use Rattle.reflection.specs.Contents.{Bytes, type_names, member_names}
use Rattle.readable.specs.Readable.{every, name_readable, zero_unless, numbers_readable, type_readable, members_readable}
use Rattle.readable.specs.Checks.{name_checked, node_checked, members_left, type_left}
use Rattle.readable.proofs.Bools.{tests-in-order, then_same, check_first, check_then, some_then, every_append}

-- A test of the length of a text that lies in its buffer may look at the length that the text says.
pub length_held : (chunk edits : Bytes) (t : Text) (test : ℕ → Bool)
    → (in_place chunk edits t && test (length (text_bytes chunk edits t))) ≡ (in_place chunk edits t && test t.length)
length_held chunk edits t test = go (in_place chunk edits t) refl
  where
    go : (b : Bool) → in_place chunk edits t ≡ b → (b && test (length (text_bytes chunk edits t))) ≡ (b && test t.length)
    go true e = ap test (length_bytes chunk edits t e)
    go false e = refl

pub count_map : {N M : Type 0} (f : N → M) (ms : Members N) → member_count (map_members f ms) ≡ member_count ms
unfolding member_count map_members
count_map f no_member = refl
count_map f (member n o t ms) = ap suc (count_map f ms)

module _ (chunk edits : Bytes) (sm5 : Bool) where
  abbrev bytes : Text → Bytes
  bytes = text_bytes chunk edits

  -- A type of at most so many levels whose names are held.
  unfoldable mutual
    pub type_held : TypeDesc Text → ℕ → Bool
    type_held (type_desc k n ms) zero = false
    type_held (type_desc k n ms) (suc levels) =
        (numbers_readable sm5 k && (leb (member_count ms) 65535 && (zero_unless sm5 (n.length ∷ []) && name_checked chunk edits n))) && members_held ms levels

    pub members_held : Members Text → ℕ → Bool
    members_held no_member levels = true
    members_held (member n o t ms) levels = (type_held t levels && name_checked chunk edits n) && members_held ms levels

  of_type : (place own names others z z' numbers count below all : Bool) → (place && z) ≡ (place && z') → (others && (names && below)) ≡ all
      → ((place && others) && ((own && names) && (numbers && (count && (z && below))))) ≡ ((numbers && (count && (z' && (place && own)))) && all)
  of_type true own names others z z' numbers count below all e h = rw (e, ← h) (simp (true-and, tests-in-order))
  of_type false own names others z z' numbers count below all e h = simp and-false

  of_member : (place own type-places type-own type_read_lem places owns reads type all : Bool)
      → (type-places && (type-own && type_read_lem)) ≡ type → (places && (owns && reads)) ≡ all
      → ((place && (type-places && places)) && ((own && (type-own && owns)) && (type_read_lem && reads))) ≡ ((type && (place && own)) && all)
  of_member place own type-places type-own type_read_lem places owns reads type all e h = rw (← e, ← h) (simp tests-in-order)

  mutual
    unfolding type_names member_names map_type map_members type_readable members_readable every name_checked member_count type_held members_held

    -- The names and the numbers of a type, by contents.
    pub type_held_lem : (t : TypeDesc Text) (levels : ℕ)
        → (every (in_place chunk edits) (type_names t) && (every name_readable (type_names (map_type bytes t)) && type_readable sm5 (map_type bytes t) levels))
        ≡ type_held t levels
    type_held_lem (type_desc k n ms) zero = simp and-false
    type_held_lem (type_desc k n ms) (suc levels) =
        rw (count_map bytes ms)
        (of_type (in_place chunk edits n) (name_readable (bytes n)) (every name_readable (member_names (map_members bytes ms)))
        (every (in_place chunk edits) (member_names ms))
        (zero_unless sm5 (length (bytes n) ∷ [])) (zero_unless sm5 (n.length ∷ [])) (numbers_readable sm5 k) (leb (member_count ms) 65535)
        (members_readable sm5 (map_members bytes ms) levels) (members_held ms levels)
        (length_held chunk edits n (λ long. zero_unless sm5 (long ∷ []))) (members_held_lem ms levels))

    pub members_held_lem : (ms : Members Text) (levels : ℕ)
        → (every (in_place chunk edits) (member_names ms) && (every name_readable (member_names (map_members bytes ms))
        && members_readable sm5 (map_members bytes ms) levels)) ≡ members_held ms levels
    members_held_lem no_member levels = refl
    members_held_lem (member n o t ms) levels =
        rw (
          every_append (in_place chunk edits) (type_names t) (member_names ms),
          every_append name_readable (type_names (map_type bytes t))
              (member_names (map_members bytes ms)),
        )
        (of_member (in_place chunk edits n) (name_readable (bytes n))
        (every (in_place chunk edits) (type_names t)) (every name_readable (type_names (map_type bytes t))) (type_readable sm5 (map_type bytes t) levels)
        (every (in_place chunk edits) (member_names ms)) (every name_readable (member_names (map_members bytes ms)))
        (members_readable sm5 (map_members bytes ms) levels)
        (type_held t levels) (members_held ms levels) (type_held_lem t levels) (members_held_lem ms levels))

  -- As many members are built as were asked for.
  counted : {N : Type 0} (mn : N) (mo : ℕ) (t : TypeDesc N) (others ms : Members N × List (Node N)) (n : ℕ)
      → Some (member mn mo t others.0, others.1) ≡ Some ms → member_count others.0 ≡ n → member_count ms.0 ≡ suc n
  unfolding member_count
  counted mn mo t others ms n e h = let same : (member mn mo t others.0, others.1) ≡ ms = cc in ap (λ p. member_count p.0) (sym same) ∙ ap suc h

  pub members_counted : {N : Type 0} (build : List (Node N) → Option (Built N)) (n : ℕ) (xs : List (Node N)) (ms : Members N × List (Node N))
      → members_from_nodes build n xs ≡ Some ms → member_count ms.0 ≡ n
  unfolding members_from_nodes member_count
  members_counted build zero xs ms e = let same : (no_member, xs) ≡ ms = cc in ap (λ p. member_count p.0) (sym same)
  members_counted build (suc n) xs ms e =
      let first = then_was (build xs) _ ms e in
      let others = then_was (members_from_nodes build n first.0.left) _ ms first.2 in
      counted first.0.member_name first.0.member_offset first.0.type others.0 ms n others.2
      (members_counted build n first.0.left others.0 others.1)

  -- What is left after a type that passes its tests.
  abbrev pub passed : Bool → ℕ → Built Text → Option (List (Node Text))
  passed inner levels t = guard (type_held t.type levels && (not inner || name_checked chunk edits t.member_name)) >>= λ _. Some t.left

  abbrev members_passed : ℕ → Members Text × List (Node Text) → Option (List (Node Text))
  members_passed levels ms = guard (members_held ms.0 levels) >>= λ _. Some ms.1

  -- The walk over the members, once the walk over a type is known.
  members_left_lem : (levels : ℕ) → ((xs : List (Node Text)) → type_left (node_checked chunk edits sm5) true levels xs
      ≡ (type_from_nodes levels xs >>= passed true levels))
      → (n : ℕ) (xs : List (Node Text)) → members_left (type_left (node_checked chunk edits sm5) true levels) n xs
      ≡ (members_from_nodes (type_from_nodes levels) n xs >>= members_passed levels)
  unfolding members_left members_from_nodes members_held guard ◌>>=◌
  members_left_lem levels walk zero xs = refl
  members_left_lem levels walk (suc n) xs = ap (λ o. o >>= members_left (type_left (node_checked chunk edits sm5) true levels) n) (walk xs)
      ∙ go (λ ys. members_left_lem levels walk n ys) (type_from_nodes levels xs)
    where
      go : ((ys : List (Node Text)) → members_left (type_left (node_checked chunk edits sm5) true levels) n ys
          ≡ (members_from_nodes (type_from_nodes levels) n ys >>= members_passed levels))
          → (o : Option (Built Text)) → ((o >>= passed true levels) >>= members_left (type_left (node_checked chunk edits sm5) true levels) n)
          ≡ ((o >>= λ t. (members_from_nodes (type_from_nodes levels) n t.left >>= λ ms. Some
          (member t.member_name t.member_offset t.type ms.0, ms.1))) >>= members_passed levels)
      go others None = refl
      go others (Some t) =
          check_then (type_held t.type levels && name_checked chunk edits t.member_name) t.left
          (members_left (type_left (node_checked chunk edits sm5) true levels) n)
          ∙ ap (λ o. guard (type_held t.type levels && name_checked chunk edits t.member_name) >>= λ _. o) (others t.left)
          ∙ check_first (type_held t.type levels && name_checked chunk edits t.member_name) (members_from_nodes (type_from_nodes levels) n t.left)
          (λ ms. members_held ms.0 levels) (λ ms. ms.1)
          ∙ sym (some_then (members_from_nodes (type_from_nodes levels) n t.left) (λ ms. (member t.member_name t.member_offset t.type ms.0, ms.1))
          (members_passed levels))

  of_node : (numbers count zeros named as_member all : Bool)
      → ((numbers && (count && (zeros && (named && as_member)))) && all) ≡ (((numbers && (count && (zeros && named))) && all) && as_member)
  of_node numbers count zeros named as_member all = simp tests-in-order

  -- A node and its members pass where the type that they build does.
  node_held : (inner : Bool) (x : Node Text) (levels : ℕ) (ms : Members Text) → member_count ms ≡ x.member_count
      → (node_checked chunk edits sm5 inner x && members_held ms levels) ≡
      (type_held (type_desc x.numbers x.name ms) (suc levels) && (not inner || name_checked chunk edits x.member_name))
  unfolding node_checked type_held
  node_held inner x levels ms e =
      of_node (numbers_readable sm5 x.numbers) (leb x.member_count 65535) (zero_unless sm5 (x.name.length ∷ [])) (name_checked chunk edits x.name)
      (not inner || name_checked chunk edits x.member_name) (members_held ms levels)
      ∙ ap (λ count. ((numbers_readable sm5 x.numbers && (leb count 65535 && (zero_unless sm5 (x.name.length ∷ []) && name_checked chunk edits x.name)))
      && members_held ms levels)
      && (not inner || name_checked chunk edits x.member_name)) (sym e)

  -- The walk over a type's nodes: it passes where they build a type, and that passes.
  pub type_left_lem : (levels : ℕ) (inner : Bool) (xs : List (Node Text)) → type_left (node_checked chunk edits sm5) inner levels xs
      ≡ (type_from_nodes levels xs >>= passed inner levels)
  unfolding type_left type_from_nodes ◌>>=◌
  type_left_lem zero inner xs = refl
  type_left_lem (suc levels) inner [] = refl
  type_left_lem (suc levels) inner (x ∷ xs) =
      ap (λ o. guard (node_checked chunk edits sm5 inner x) >>= λ _. o) (members_left_lem levels (type_left_lem levels true) x.member_count xs)
      ∙ check_first (node_checked chunk edits sm5 inner x) (members_from_nodes (type_from_nodes levels) x.member_count xs) (λ ms. members_held ms.0 levels)
      (λ ms. ms.1)
      ∙ then_same (members_from_nodes (type_from_nodes levels) x.member_count xs) _ _
      (λ ms e. ap (λ b. guard b >>= λ _. Some ms.1) (node_held inner x levels ms.0 (members_counted (type_from_nodes levels) x.member_count xs ms e)))
      ∙ sym (some_then (members_from_nodes (type_from_nodes levels) x.member_count xs)
      (λ ms. record { type = type_desc x.numbers x.name ms.0; member_name = x.member_name; member_offset = x.member_offset; left = ms.1 })
      (passed inner (suc levels)))
