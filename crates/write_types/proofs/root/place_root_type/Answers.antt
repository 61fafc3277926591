-- `place_root_type` meets its contract: the type's offset is known, or it was written and then pushed where it may be shared.
use mathlib.Core.Path.{refl}
use native.Mathlib.Omega.{arith}
use Rattle.write_types.proofs.Ready.{node_early}
use Rattle.write_types.proofs.RootType.{known_here, root_known, root_new, root_shared, root_unshared}
use Rattle.write_types.proofs.root.place_root_type.Goals as goal

pub invariant_of-x : goal.invariant_of-x
invariant_of-x c = omega (arith, node_early c.requires.type_ready)

pub returns-in-Some-clause-placed : goal.returns-in-Some-clause-placed
returns-in-Some-clause-placed c =
    let known = known_here c.requires.type_ready c.requires.root_types_bound c.args.share c.known_offset.ensures in
    root_known c.requires.type_ready c.args.share known c.in-Some.is c.skip_type-w.ensures

pub write_type-offset-requires : goal.write_type-offset-requires
write_type-offset-requires c = c.requires.type_ready

pub returns-then-share-clause-placed : goal.returns-then-share-clause-placed
returns-then-share-clause-placed c =
    let known = known_here c.requires.type_ready c.requires.root_types_bound c.args.share c.known_offset.ensures in
    let start = c.requires.type_ready in
    root_shared start c.args.share _ refl c.requires.root_types_bound (root_new start c.args.share known c.in_default.is)
    c.write_type-offset.ensures.placed c.overwrite.ensures c.if-share.true

pub returns-else-share-clause-placed : goal.returns-else-share-clause-placed
returns-else-share-clause-placed c =
    let known = known_here c.requires.type_ready c.requires.root_types_bound c.args.share c.known_offset.ensures in
    let start = c.requires.type_ready in
    root_unshared start c.args.share _ refl c.requires.root_types_bound (root_new start c.args.share known c.in_default.is)
    c.write_type-offset.ensures.placed c.if-share.false
