-- The field of a name or a default.
use Rattle.std.specs.Prelude.{List, ◌∷◌, ℕ}
use Rattle.reflection.specs.Texts.{text_bytes}
use Rattle.reflection.specs.declared.Text.{Text}
use Rattle.reflection.specs.declared.names.Texts.{Texts}
use Rattle.stdout.specs.Output.{hex}

-- Its bytes in hex, with a tab before them.
abbrev pub text_field : Texts → Text → List ℕ
text_field texts t = 9 ∷ hex (text_bytes texts.chunk.now texts.edits.now t)
