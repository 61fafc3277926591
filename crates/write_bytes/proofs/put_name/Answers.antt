-- `put_name` meets its contract: the bytes, and after them the NUL.
use mathlib.Core.Path.{refl}
use Rattle.text_output.proofs.Appended.{appended_then}
use Rattle.write_bytes.proofs.put_name.Goals as goal

pub returns : goal.returns
returns c = appended_then c.put_bytes.ensures (record { text = record { list = c.overwrite.ensures; next = refl }; same = refl })
