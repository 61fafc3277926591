-- The walks over nodes and variables, turn by turn: what is left after a type, after the next member, after the next variable. A function's proof takes
-- the cases of its walk together.
use Rattle.std.specs.Prelude.{Option, None, Some}
use mathlib.Core.Path.{◌≡◌, refl, sym, ap, ◌∙◌}
use mathlib.Core.Bool.{Bool, true, false, ◌&&◌, and-false}
use mathlib.Core.List.{List, [], ◌∷◌, map}
use Prim.Native.Nat.{ℕ, zero, suc, ◌+◌, ◌-◌, ◌≤◌, ◌<◌}
use native.Mathlib.Omega.{arith}
use borrow.Author.Tests.{eqb-true, eqb-false, eq-eqb, ne_eqb}
use lib.Dec.{eqb}
use Rattle.reflection.specs.declared.Text.{Text}
use Rattle.reflection.specs.declared.CBufferVariable.{CBufferVariable as VariableRecord}
use Rattle.tables.specs.Nodes.{Node, ◌>>=◌, type_levels}
use Rattle.tables.specs.Records.{variable_at, type_at}
use Rattle.tables.specs.Decode.{guard, records_from, node_from_table}
use Rattle.reflection.specs.Contents.{Bytes}
use Rattle.readable.specs.Checks.{passes, node_checked, members_left, type_left, nodes_from, variable_checked, variables_take, variables_checked}
use Rattle.readable.proofs.RecordTests.{records_none, records_next}

module _ (types : List ℕ) (k count : ℕ) where
  nodes_none : count ≤ k → nodes_from types k (count - k) ≡ []
  unfolding nodes_from
  nodes_none e = ap (map node_from_table) (records_none (type_at types) k count e)

  nodes_next : k < count → nodes_from types k (count - k) ≡ node_from_table (type_at types k) ∷ nodes_from types (k + 1) (count - (k + 1))
  unfolding nodes_from
  nodes_next e = ap (map node_from_table) (records_next (type_at types) k count e)

  -- A type: no level or no node is left, or its node fails, or its members are next.
  module _ (test : Bool → Node Text → Bool) (inner : Bool) (levels : ℕ) where
    pub no_level : levels ≡ 0 → type_left test inner levels (nodes_from types k (count - k)) ≡ None
    unfolding type_left
    no_level e = ap (λ n. type_left test inner n (nodes_from types k (count - k))) e

    pub no_node : count ≤ k → type_left test inner levels (nodes_from types k (count - k)) ≡ None
    unfolding type_left
    no_node e = ap (type_left test inner levels) (nodes_none e) ∙ go levels
      where
        go : (n : ℕ) → type_left test inner n [] ≡ None
        go zero = refl
        go (suc n) = refl

    type_next : 0 < levels → k < count → type_left test inner levels (nodes_from types k (count - k))
        ≡ (guard (test inner (node_from_table (type_at types k))) >>= λ _. members_left (type_left test true (levels - 1))
        (type_at types k).member_count (nodes_from types (k + 1) (count - (k + 1))))
    unfolding type_left node_from_table
    type_next some e =
        let one_more : levels ≡ suc (levels - 1) = omega arith in
        ap (type_left test inner levels) (nodes_next e)
        ∙ ap (λ n. type_left test inner n (node_from_table (type_at types k) ∷ nodes_from types (k + 1) (count - (k + 1)))) one_more

    pub node_fails : 0 < levels → k < count → test inner (node_from_table (type_at types k)) ≡ false
        → type_left test inner levels (nodes_from types k (count - k)) ≡ None
    unfolding guard ◌>>=◌
    node_fails some e fails =
        type_next some e
        ∙ ap (λ b. guard b >>= λ _. members_left (type_left test true (levels - 1)) (type_at types k).member_count
        (nodes_from types (k + 1) (count - (k + 1)))) fails

    pub node_passes : 0 < levels → k < count → test inner (node_from_table (type_at types k)) ≡ true
        → type_left test inner levels (nodes_from types k (count - k))
        ≡ members_left (type_left test true (levels - 1)) (type_at types k).member_count (nodes_from types (k + 1) (count - (k + 1)))
    unfolding guard ◌>>=◌
    node_passes some e passes =
        type_next some e
        ∙ ap (λ b. guard b >>= λ _. members_left (type_left test true (levels - 1)) (type_at types k).member_count
        (nodes_from types (k + 1) (count - (k + 1)))) passes

pub ruleset type_cases = (no_level, no_node, node_fails, node_passes)

-- The members from i to n: none is left, or the next fails, or the next passes.
module _ (walk : List (Node Text) → Option (List (Node Text))) (i n : ℕ) (xs : List (Node Text)) where
  pub members_done : n ≤ i → members_left walk (n - i) xs ≡ Some xs
  unfolding members_left
  members_done e = let none : n - i ≡ 0 = omega arith in ap (λ m. members_left walk m xs) none

  members_next : i < n → members_left walk (n - i) xs ≡ (walk xs >>= members_left walk (n - (i + 1)))
  unfolding members_left
  members_next e = let one_more : n - i ≡ suc (n - (i + 1)) = omega arith in ap (λ m. members_left walk m xs) one_more

  pub member_fails : i < n → walk xs ≡ None → members_left walk (n - i) xs ≡ None
  unfolding ◌>>=◌
  member_fails e fails = members_next e ∙ ap (λ o. o >>= members_left walk (n - (i + 1))) fails

  pub member_passes : (ys : List (Node Text)) → i < n → walk xs ≡ Some ys → members_left walk (n - i) xs ≡ members_left walk (n - (i + 1)) ys
  unfolding ◌>>=◌
  member_passes ys e passes = members_next e ∙ ap (λ o. o >>= members_left walk (n - (i + 1))) passes

pub ruleset member_cases = (members_done, member_fails, member_passes)

-- The variables from i to n and the nodes from k to end: none is left, or the next variable fails itself or in its type, or it passes.
module _ (chunk edits : Bytes) (sm5 : Bool) (variables types : List ℕ) where
  nodes_done : (k n : ℕ) → variables_take chunk edits sm5 [] (nodes_from types k n) ≡ eqb n 0
  unfolding variables_take nodes_from records_from
  nodes_done k zero = refl
  nodes_done k (suc n) = sym (ne_eqb (suc n) 0 (λ e. omega arith))

  module _ (i n k end : ℕ) where
    abbrev others : List VariableRecord
    others = records_from (variable_at variables) (i + 1) (n - (i + 1))

    abbrev below : Option (List (Node Text))
    below = type_left (node_checked chunk edits sm5) false type_levels (nodes_from types k (end - k))

    pub variables_done : n ≤ i → k ≤ end → variables_checked chunk edits sm5 variables types i (n - i) k (end - k) ≡ eqb k end
    unfolding variables_checked
    variables_done e within =
        ap (λ vs. variables_take chunk edits sm5 vs (nodes_from types k (end - k))) (records_none (variable_at variables) i n e) ∙ nodes_done k (end - k)
        ∙ go (eqb k end) refl
      where
        go : (b : Bool) → eqb k end ≡ b → eqb (end - k) 0 ≡ b
        go true e = eq-eqb (end - k) 0 (omega (arith, eqb-true k end e))
        go false e = ne_eqb (end - k) 0 (λ none_left. eqb-false k end e (omega arith))

    variables_next : i < n → variables_checked chunk edits sm5 variables types i (n - i) k (end - k)
        ≡ (variable_checked chunk edits sm5 (variable_at variables i) && passes (variables_take chunk edits sm5 others) below)
    unfolding variables_checked variables_take
    variables_next e = ap (λ vs. variables_take chunk edits sm5 vs (nodes_from types k (end - k))) (records_next (variable_at variables) i n e)

    pub variable_fails : i < n → variable_checked chunk edits sm5 (variable_at variables i) ≡ false
        → variables_checked chunk edits sm5 variables types i (n - i) k (end - k) ≡ false
    variable_fails e fails = variables_next e ∙ ap (λ b. b && passes (variables_take chunk edits sm5 others) below) fails

    pub type_fails : i < n → below ≡ None → variables_checked chunk edits sm5 variables types i (n - i) k (end - k) ≡ false
    type_fails e fails =
        variables_next e
        ∙ ap (λ o. variable_checked chunk edits sm5 (variable_at variables i) && passes (variables_take chunk edits sm5 others) o) fails
        ∙ and-false (variable_checked chunk edits sm5 (variable_at variables i))

    pub variable_passes : (m : ℕ) → i < n → variable_checked chunk edits sm5 (variable_at variables i) ≡ true
        → below ≡ Some (nodes_from types m (end - m))
        → variables_checked chunk edits sm5 variables types i (n - i) k (end - k)
        ≡ variables_checked chunk edits sm5 variables types (i + 1) (n - (i + 1)) m (end - m)
    unfolding variables_checked
    variable_passes m e itself walked = variables_next e ∙ (λ j. itself j && passes (variables_take chunk edits sm5 others) (walked j))

pub ruleset variable_cases = (variables_done, variable_fails, type_fails, variable_passes)
