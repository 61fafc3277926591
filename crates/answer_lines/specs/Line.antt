-- What `put_line` adds, and the refusal that is kept after it.
use Rattle.std.specs.Prelude.{List, [], ◌∷◌, ◌++◌, ℕ, Option, Result, Ok, Err}
use Rattle.words.specs.Parts.{part}
use Rattle.reflection.specs.declared.refusal.Refusal.{Refusal}
use Rattle.reflection.specs.Refusals.{refusal_number}
use Rattle.stdout.specs.Output.{refused_line}
use Rattle.stderr.specs.Refused.{first_of}

-- The line that was made, or that of its refusal.
abbrev pub line_of : List ℕ → Result ℕ Refusal → List ℕ
line_of line (Ok length) = part line 0 length ++ 10 ∷ []
line_of line (Err refusal) = refused_line (refusal_number refusal)

-- The first refusal, after one line more.
abbrev pub first_after : Option Refusal → Result ℕ Refusal → Option Refusal
first_after first (Ok length) = first
first_after first (Err refusal) = first_of first refusal
