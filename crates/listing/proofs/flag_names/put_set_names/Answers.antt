-- `put_set_names` meets its contract: each name is joined to those before it, in the order of the bits.
use mathlib.Core.List.{[]}
use mathlib.Core.Path.{◌≡◌, refl}
use native.Mathlib.Omega.{arith}
use Rattle.text_output.proofs.Appended.{appended_none}
use Rattle.listing.specs.Listing.{joined_by}
use Rattle.listing.proofs.Joined.{five_joined, joined_nil, pair_first, put_joined}
use Rattle.listing.proofs.flag_names.put_set_names.Goals as goal
use Rattle.listing.proofs.flag_names.put_set_names.Goals.{then-set, else-set}

pub loop-set-init : goal.loop-set-init
loop-set-init c =
    let a = c.args in
    let joined = five_joined a.flags.0 c.user_packed.ensures c.comparison_sampler.ensures c.texture_component_0.ensures c.texture_component_1.ensures
    c.unused.ensures in
    ((refl, (omega (arith, c.requires), (omega arith, (omega arith, (omega arith, (omega arith, (omega arith, tt))))))), ([], (appended_none a.out.now, joined)))

pub put_name-requires : goal.put_name-requires
put_name-requires c =
    let left = rw (pair_first _ _ c.loop-set-test.true) at c.loop-set.invariant.0.1 in
    omega (arith, left.0)

pub loop-set-preserved : goal.loop-set-preserved
loop-set-preserved c =
    let l = c.loop-set in
    let left = rw (pair_first _ _ c.loop-set-test.true) at l.invariant.0.1 in
    let (before, (put, joined)) = l.invariant.1 in
    let next = rw (pair_first _ _ c.loop-set-test.true) at joined in
    elim c.if-set.branch [
      | then-set w ↦
          let named = put_joined before _ left.1.0 put (rw l.invariant.0.0 at w.put_name.ensures.text) in
          rw w.out-is ((l.invariant.0.0, (omega (arith, w.put_name.ensures.near, left.0), left.1.1)), (_, (named, rw w.if-set.true at next)))
      | else-set w ↦
          let same = rw (← joined_nil 59 before) at put in
          rw w.out-is ((l.invariant.0.0, (omega (arith, left.0), left.1.1)), (joined_by 59 before [], (same, rw w.if-set.false at next)))
    ]

pub returns : goal.returns
returns c =
    let l = c.loop-set in
    let end : l.set-index ≡ 5 = omega (arith, c.loop-set-test.false, l.auto.set-index-end) in
    let (before, (put, joined)) = l.invariant.1 in
    rw (← (rw end at joined)) put
