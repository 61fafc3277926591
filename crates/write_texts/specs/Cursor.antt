-- Vocabulary of internal contracts: no contract of an exported function and no demand cites it. Where the writer stands, and where something was placed.
use Rattle.std.specs.Prelude.{ℕ}

-- Where something was placed, and the output's cursor after it.
pub record Placement : Type 0 where
  pub offset : ℕ
  pub at : ℕ

-- The output's cursor, the next type node, and how many types of members and of variables may be shared.
pub record WriteCursor : Type 0 where
  pub at : ℕ
  pub node : ℕ
  pub member_types : ℕ
  pub root_types : ℕ
