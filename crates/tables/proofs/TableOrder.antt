-- The order of the tables: the nodes of later variables come later, and the variables of later buffers come later.
use mathlib.Core.Path.{◌≡◌, ap, sym}
use mathlib.Core.List.{List}
use Prim.Native.Nat.{ℕ, suc, ◌+◌, ◌≤◌}
use native.Mathlib.Numerals.{add-one}
use native.Mathlib.Omega.{arith}
use Rattle.tables.specs.Nodes.{type_levels}
use Rattle.tables.specs.Trees.{tree_at}
use Rattle.tables.specs.TableReflection.{root_at, count_at, first_variable}
use Rattle.tables.proofs.RecordLists.{rises_below}
use Rattle.tables.proofs.Trees.{tree_up}

pub root_next : (types : List ℕ) (variable : ℕ) → (tree_at types type_levels (root_at types variable)).next ≡ root_at types (variable + 1)
unfolding root_at
root_next types variable = ap (root_at types) (sym (add-one variable))

root_up : (types : List ℕ) (variable : ℕ) → root_at types variable ≤ root_at types (suc variable)
unfolding root_at
root_up types variable = omega (arith, tree_up types type_levels (root_at types variable))

pub root_below : (types : List ℕ) (variable later : ℕ) → variable ≤ later → root_at types variable ≤ root_at types later
root_below types = rises_below (root_at types) (root_up types)

pub first_next : (buffers : List ℕ) (buffer : ℕ) → first_variable buffers buffer + count_at buffers buffer ≡ first_variable buffers (buffer + 1)
unfolding first_variable
first_next buffers buffer = ap (first_variable buffers) (sym (add-one buffer))

first_up : (buffers : List ℕ) (buffer : ℕ) → first_variable buffers buffer ≤ first_variable buffers (suc buffer)
unfolding first_variable
first_up buffers buffer = omega arith

pub first_below : (buffers : List ℕ) (buffer later : ℕ) → buffer ≤ later → first_variable buffers buffer ≤ first_variable buffers later
first_below buffers = rises_below (first_variable buffers) (first_up buffers)
