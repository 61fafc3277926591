-- A name has no more bytes than its length says.
use mathlib.Core.Bool.{Bool, true, false}
use mathlib.Core.List.{List}
use mathlib.Core.Path.{◌≡◌, refl}
use Prim.Native.Nat.{ℕ, ◌≤◌}
use native.Mathlib.Omega.{arith}
use lib.ListN.{length}
use Rattle.reflection.specs.declared.Text.{Text}
use Rattle.reflection.specs.Texts.{in_place, text_bytes}
use Rattle.reflection.proofs.TextParts.{length_bytes, no_bytes}

pub name_at_most : (chunk edits : List ℕ) (name : Text) → length (text_bytes chunk edits name) ≤ name.length
name_at_most chunk edits name = by_place (in_place chunk edits name) refl
  where
    by_place : (b : Bool) → in_place chunk edits name ≡ b → length (text_bytes chunk edits name) ≤ name.length
    by_place true e = omega (arith, length_bytes chunk edits name e)
    by_place false e = rw (no_bytes chunk edits name e) (omega arith)
