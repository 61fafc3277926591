-- `same_bindings` meets its contract: its iterator tests each pair of bindings.
use mathlib.Core.Path.{refl, ◌∙◌}
use Prim.Native.Nat.{ℕ}
use native.Mathlib.Omega.{arith}
use Rattle.std.proofs.Common.{rules, tests}
use Rattle.std.proofs.lemmas.Iterator.{YieldsList-from_range}
use Rattle.std.proofs.lemmas.Iterator.Search.{all_from_yields_List}
use Rattle.write_spec.specs.Same.{same_binding}
use Rattle.compare_types.specs.Same.{same_in}
use Rattle.compare.specs.Fields.{binding_in_table}
use Rattle.compare.proofs.Walks.{all_equal}
use Rattle.compare.proofs.reflections.same_bindings.Goals as goal

pub returns : goal.returns
unfolding binding_in_table
returns c =
    let same = same_in c.args.texts in
    all_from_yields_List (λ (i : ℕ). same_binding same same
    (binding_in_table c.args.bindings.now i) (binding_in_table c.args.others.now i)) _ _ c.all.result c.all.ensures.ran
    (YieldsList-from_range 0 c.args.count c.args.count refl (omega arith)) (λ i b q k. search (rules, tests))
    ∙ all_equal (same_binding same same)
    (binding_in_table c.args.bindings.now) (binding_in_table c.args.others.now) 0 c.args.count
