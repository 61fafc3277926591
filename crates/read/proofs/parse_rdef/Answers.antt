-- `parse_rdef` meets its contract: what `read_tables` left, cleared after the records or whole, is what the outcome says. Assumes nothing.
use Rattle.read.specs.Parsed.{read_in}
use Rattle.read.proofs.Cleared.{refused_parses, read_parses}
use Rattle.read.proofs.parse_rdef.Goals as goal

pub returns-in-Err-clause-parsed : goal.returns-in-Err-clause-parsed
returns-in-Err-clause-parsed c =
    let out = read_in c.args.chunk.now c.args.tables.now in
    let kept = c.read_tables.ensures.long in
    let zeros = c.clear.ensures.zeros in
    refused_parses {out = out} kept.bindings kept.buffers kept.variables kept.types c.in-Err.refusal c.in-Err.ensures.filled
    zeros.bindings zeros.buffers zeros.variables zeros.types

pub returns-in-Ok-clause-parsed : goal.returns-in-Ok-clause-parsed
returns-in-Ok-clause-parsed c =
    let out = read_in c.args.chunk.now c.args.tables.now in
    let kept = c.read_tables.ensures.long in
    let zeros = c.clear_after.ensures.zeros in
    read_parses {out = out} kept.bindings kept.buffers kept.variables kept.types c.in-Ok.def c.in-Ok.ensures.filled
    zeros.bindings zeros.buffers zeros.variables zeros.types
