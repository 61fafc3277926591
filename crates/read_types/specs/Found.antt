-- Vocabulary of internal contracts: no contract of an exported function and no demand cites it. What was found in a chunk, as a text of it.
use Rattle.std.specs.Prelude.{Option, None, Some, Ok, Err}
use Rattle.text.specs.declared.Span.{Span}
use Rattle.reflection.specs.Outcome.{Outcome}
use Rattle.reflection.specs.declared.Text.{Text}
use Rattle.reflection.specs.declared.refusal.Refusal.{Refusal}
use Rattle.reflection.specs.Texts.{in_chunk}

-- The text, if there is one.
abbrev pub text_in : Option Span → Option Text
text_in (Some found) = Some (in_chunk found.place found.length)
text_in None = None

-- The text, or a refusal where there is none.
abbrev pub found_or : Refusal → Option Span → Outcome Text
found_or e (Some found) = Ok (in_chunk found.place found.length)
found_or e None = Err e
