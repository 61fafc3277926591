-- `find_shared` meets its contract: an array's type, or one that may not be shared, is not looked up.
use mathlib.Core.Path.{sym, ◌∙◌}
use Prim.Native.Nat.{◌/◌}
use lib.ListN.{length}
use Rattle.write_texts.specs.Scratch.{shared_width}
use Rattle.write_types.proofs.Finding.{shared_looks, array_fresh, unshared_fresh}
use Rattle.write_types.proofs.find.find_shared.Goals.{else-share-via-then-share+else-type_at-eq0, else-share-via-else-share}
use Rattle.write_types.proofs.find.find_shared.Goals as goal

pub returns-then-type_at-eq0 : goal.returns-then-type_at-eq0
returns-then-type_at-eq0 c =
    let args = c.args in
    c.find_type.ensures
    ∙ sym (shared_looks args.texts.chunk.now args.texts.edits.now args.x.types.now args.levels args.x.node args.entries.now 0 0
    (length args.entries.now / shared_width) c.type_at.ensures args.share c.if-share.true c.if-type_at-eq0.true)

pub returns : goal.returns
returns c =
    let args = c.args in
    elim c.else-share.branch [
      | else-share-via-then-share+else-type_at-eq0 w ↦
          sym (array_fresh args.texts.chunk.now args.texts.edits.now args.x.types.now args.levels args.x.node args.entries.now 0 0
          (length args.entries.now / shared_width) w.type_at.ensures args.share w.if-type_at-eq0.false)
      | else-share-via-else-share w ↦
          sym (unshared_fresh args.texts.chunk.now args.texts.edits.now args.x.types.now args.levels args.x.node args.entries.now 0 0
          (length args.entries.now / shared_width) args.share w.if-share.false)
    ]
