-- `overwrite`: the items that are left, written over the table as it is, give what all items give over the table as it was.
use Rattle.std.proofs.Common.{◌≡◌, length}
use Rattle.words.specs.Splice.{splice}
use Rattle.words.proofs.overwrite.Given as goal

abbrev pub invariant-loop-place : goal.invariant-loop-place
invariant-loop-place g l = record {
  end : l.place-iterator.a.end ≡ length l.fn.table;
  rest : splice l.table l.place-iterator.a.start l.place-iterator.b.rest.now ≡ splice l.fn.table l.at l.items;
}
