-- Vocabulary of internal contracts: no contract of an exported function and no demand cites it. A text that is being written, before its end.
use Rattle.reflection.specs.Outcome.{Outcome}
use Rattle.std.specs.Prelude.{List, ℕ, ◌≡◌, Option, None, Some, Ok, Err}
use Rattle.text_output.specs.declared.output.Output.{Output}
use Rattle.text_output.specs.Output.{Appended}

-- What a text is, by what was answered: the bytes that were put, or none; for a text that may be refused, the bytes or the refusal.
abbrev pub put_whole : Option (Unit {0}) → List ℕ → Option (List ℕ)
put_whole (Some done) bytes = Some bytes
put_whole None bytes = None

abbrev pub put_unrefused : Outcome (Unit {0}) → List ℕ → Outcome (List ℕ)
put_unrefused (Ok done) bytes = Ok bytes
put_unrefused (Err why) bytes = Err why

-- A text that may not be there: its bytes were put. Where there is none, some bytes may have been put before that was seen.
pub record MayPut (text : Option (List ℕ)) (before after : Output) (done : Option (Unit {0})) : Type 0 where
  pub bytes : List ℕ
  pub is : text ≡ put_whole done bytes
  pub put : Appended before after bytes

-- The same for a text that may be refused.
pub record Puts (outcome : Outcome (List ℕ)) (before after : Output) (done : Outcome (Unit {0})) : Type 0 where
  pub bytes : List ℕ
  pub is : outcome ≡ put_unrefused done bytes
  pub put : Appended before after bytes
