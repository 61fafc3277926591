-- Vocabulary of internal contracts: no contract of an exported function and no demand cites it. A lent output with its cursor, while text is written to it.
use Rattle.std.specs.Prelude.{◌≡◌, ℕ, List}
use Rattle.words.specs.Splice.{Put}
use Rattle.text_output.specs.declared.output.Output.{Output}

-- These bytes stand at the cursor and the cursor after them, and the output is still the one that was lent.
pub record Appended (before after : Output) (xs : List ℕ) : Type 0 where
  pub text : Put before.bytes.now before.at xs after.bytes.now after.at
  pub same : after.bytes.ghost_name ≡ before.bytes.ghost_name
