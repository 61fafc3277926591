-- `write_and_read` meets its contract: a refusal of the writer, and cleared tables; or n bytes at the start of the output, which were read.
use Rattle.theorem_functions.proofs.Called.{called_refused, called_written}
use Rattle.theorem_functions.proofs.write_and_read.Goals as goal

pub returns-in-Err-clause-calls : goal.returns-in-Err-clause-calls
returns-in-Err-clause-calls c =
    let wrote = c.write_rdef_canonical.ensures in
    let zeros = c.clear.ensures in
    called_refused _ _ _ wrote.written.answer wrote.written.out wrote.scratch _ c.in-Err.is zeros.bindings zeros.buffers zeros.variables zeros.types

pub returns-in-Ok-clause-calls : goal.returns-in-Ok-clause-calls
returns-in-Ok-clause-calls c =
    let wrote = c.write_rdef_canonical.ensures in
    let room = c.read-parsed.ensures.room in
    let read = c.read-parsed.ensures.parsed in
    called_written _ _ _ wrote.written.answer wrote.written.out wrote.scratch _ _ _ _ room.bindings room.buffers room.variables room.types
    c.in-Ok.n c.in-Ok.is _ _ c.part.ensures read.answer read.bindings read.buffers read.variables read.types
