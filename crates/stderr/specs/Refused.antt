-- What is said of the refusals that a program met.
use Rattle.std.specs.Prelude.{cond, List, [], ◌∷◌, ◌++◌, ℕ, eqb, Option, None, Some}
use Rattle.std.specs.List.{starts_with}
use Rattle.std.specs.Fmt.{decimal}
use Rattle.reflection.specs.declared.refusal.Refusal.{Refusal}
use Rattle.reflection.specs.Refusals.{refusal_number}
use Rattle.text_output.specs.Ascii.{ascii}
use Rattle.refusal_text.specs.Sentences.{sentence}

-- The first refusal, or what stands for it, after one more.
abbrev pub first_of : {A : Type 0} → Option A → A → Option A
first_of None refusal = Some refusal
first_of (Some first) refusal = Some first

-- What is said of a chunk that begins as a DXBC container does.
abbrev pub container : List ℕ → List ℕ
container chunk =
    cond (starts_with eqb chunk (ascii "DXBC")) (ascii "the input is a DXBC container, of which an RDEF chunk is a part: take that out first" ++ 10 ∷ []) []

-- The line of a refusal with this number, and what is said of the chunk.
abbrev pub about : List ℕ → ℕ → List ℕ
about chunk number = ascii "refused " ++ decimal number ++ ascii ": " ++ sentence number ++ 10 ∷ container chunk

-- The message by a number; 0 is the number of no refusal, of which nothing is said.
abbrev pub message_of_number : List ℕ → ℕ → List ℕ
message_of_number chunk number = cond (eqb number 0) [] (about chunk number)

-- The message; nothing is said where nothing was refused.
abbrev pub message : List ℕ → Option Refusal → List ℕ
message chunk None = []
message chunk (Some refusal) = about chunk (refusal_number refusal)
