-- `place_type_name` meets its contract: an empty name is not placed.
use mathlib.Core.Path.{sym, ap, ◌∙◌}
use mathlib.Core.List.{List}
use Prim.Native.Nat.{ℕ}
use borrow.Author.Tests.{eqb-true, eqb-false}
use lib.ListN.{length}
use Rattle.write_types.proofs.Writing.{name_empty, name_placed}
use Rattle.write_types.proofs.write.place_type_name.Goals as goal

pub returns-then-is_empty-clause-placed : goal.returns-then-is_empty-clause-placed
returns-then-is_empty-clause-placed c =
    let none = eqb-true (length c.name_part-bytes.result.now) 0 (sym c.is_empty.ensures ∙ c.if-is_empty.true) in
    name_empty c.args.name c.requires.pools_ready (sym (ap (λ (l : List ℕ). length l) c.name_part-bytes.ensures) ∙ none)

pub returns-clause-placed : goal.returns-clause-placed
returns-clause-placed c =
    let some = eqb-false (length c.name_part-bytes.result.now) 0 (sym c.is_empty.ensures ∙ c.if-is_empty.false) in
    name_placed c.args.name (λ e. some (ap (λ (l : List ℕ). length l) c.name_part-bytes.ensures ∙ e))
    c.place_inner_name.ensures.placed
