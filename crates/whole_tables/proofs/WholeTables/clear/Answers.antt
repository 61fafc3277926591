-- `WholeTables::clear` meets its contract: `fill` leaves as many zeros as each array is long.
use mathlib.Core.Path.{◌≡◌, ap, ◌∙◌}
use Prim.Native.Nat.{ℕ}
use lib.ListN.{length, replicate}
use borrow.Author.Rules.{rules}
use Rattle.reflection.specs.Limits.{binding_table, variable_table, type_table}
use Rattle.whole_tables.proofs.WholeTables.clear.Goals as goal

pub returns-clause-bindings : goal.returns-clause-bindings
returns-clause-bindings c =
    let long : length c.args.self.now.bindings ≡ binding_table = search rules in
    c.fill.ensures.after (λ y same. same) ∙ ap (λ (n : ℕ). replicate n 0) long

pub returns-clause-variables : goal.returns-clause-variables
returns-clause-variables c =
    let long : length c.args.self.now.variables ≡ variable_table = search rules in
    c.fill-3.ensures.after (λ y same. same) ∙ ap (λ (n : ℕ). replicate n 0) long

pub returns-clause-types : goal.returns-clause-types
returns-clause-types c =
    let long : length c.args.self.now.types ≡ type_table = search rules in
    c.fill-4.ensures.after (λ y same. same) ∙ ap (λ (n : ℕ). replicate n 0) long
