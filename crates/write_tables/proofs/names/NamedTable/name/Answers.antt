-- `name` meets its contract: where the table holds the record, its first three words are read, and none of the products wraps.
use mathlib.Core.Path.{◌∙◌}
use Rattle.write_tables.specs.Placed.{name_at}
use Rattle.write_tables.proofs.NamesLoop.{name_inside, name_outside}
use Rattle.write_tables.proofs.names.NamedTable.name.Goals as goal

pub returns-then-i-self : goal.returns-then-i-self
unfolding name_at
returns-then-i-self c =
    let args = c.args in
    c.from.ensures ∙ name_inside args.self.width args.self.table.now args.i c.if-i-self.true

pub returns : goal.returns
unfolding name_at
returns c =
    let args = c.args in
    c.in_chunk.ensures ∙ name_outside args.self.width args.self.table.now args.i c.if-i-self.false
