-- Vocabulary of the payload's laws (proofs/HandedBack.antt); no contract cites it.
-- Bytes that read as a reflection, with document 01's whole room: every number, name and default of it, byte for byte.
use Rattle.std.specs.Prelude.{◌≡◌, [], Ok}
use Rattle.reflection.specs.declared.Text.{Text}
use Rattle.reflection.specs.Reflection.{ResourceDef}
use Rattle.reflection.specs.Contents.{Bytes, contents}
use Rattle.read_spec.specs.Step.{full_room}
use Rattle.read_spec.specs.Read.{read}

pub record ReadsBack (bytes : Bytes) (r : ResourceDef Bytes Bytes) : Type 0 where
  pub read_back : ResourceDef Text Text
  pub reads : read full_room bytes ≡ Ok read_back
  pub restored : contents bytes [] read_back ≡ r
