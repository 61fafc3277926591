-- What reading a chunk answers: the header, or why the chunk was refused.
use Rattle.reflection.specs.Outcome.{Outcome}
use Rattle.reflection.specs.declared.ResourceDef.{ResourceDef as Header}

abbrev pub Parsed : Type 0
Parsed = Outcome Header
