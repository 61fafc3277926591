-- NONINTERFERENCE OF THE CANONICAL WRITER (document 01, demand 3), of the functions themselves: the contract of `write_pair` (src/lib.rt), which calls
-- `write_rdef_canonical` for A and for B and `parse_rdef` on what each wrote.
--
-- In plain words. A and B each lend a chunk, a text of edits, a header, four tables, scratch and an output, whatever lies in them. Suppose that what the tables
-- of A and of B hold shares every field and name and each default's length, that two defaults are equal in A exactly where the same two are in B, and that
-- scratch and output are as long in A as in B. Then
--   * both are refused, with the same number, and output and scratch of both are zeros; or
--   * both are written, with the same length n; `parse_rdef` of the first n bytes of each output, into tables of the whole room, finds each default at the same
--     place in both; every one of the first n bytes outside these places is equal; at each place stand that side's own bytes; bytes past n are as they were;
--     the scratch is zero.
--
-- Definitions that this rests on: `table_contents`, what tables hold (crates/readable/specs/Readable.antt); `SameButDefaults`, two reflections that
-- differ only in the bytes of their defaults, and `Covered`, a byte's index lies in one of some texts
-- (crates/theorem_noninterference/specs/Noninterference.antt); `variable_at`, a variable's record in a table (crates/tables/specs/Records.antt); `text_bytes`,
-- the bytes of a text (crates/reflection/specs/Texts.antt); what was lent and what is left: Calls.antt. proofs/Noninterference.antt proves it.
use Rattle.reflection.specs.declared.refusal.Refusal.{Refusal}
use Rattle.std.specs.Prelude.{◌≡◌, List, [], map, ℕ, ◌<◌, ◌≤◌, length, get_or, take, drop, replicate, Option, None, Some, Ok, Err}
use Rattle.reflection.specs.declared.Text.{Text}
use Rattle.reflection.specs.declared.ResourceDef.{ResourceDef as Header}
use Rattle.reflection.specs.declared.CBufferVariable.{CBufferVariable as VariableRecord}
use Rattle.reflection.specs.Reflection.{ResourceDef}
use Rattle.tables.specs.Records.{variable_at}
use Rattle.tables.specs.Decode.{records_from}
use Rattle.reflection.specs.Texts.{text_bytes}
use Rattle.reflection.specs.Contents.{Bytes, defaults_of}
use Rattle.theorem_noninterference.specs.Noninterference.{SameButDefaults, Covered}
use Rattle.theorem_functions.specs.declared.WrittenPair.{WrittenPair}
use Rattle.theorem_functions.specs.Calls.{Lent, Left, reflection_in, WroteAndRead, wrote}

-- What tables hold differs only in the bytes of the defaults; where neither side's tables hold a reflection, that counts as sharing.
abbrev pub SharedButDefaults : Option (ResourceDef Bytes Bytes) → Option (ResourceDef Bytes Bytes) → Type 0
SharedButDefaults None None = Unit {0}
SharedButDefaults (Some a) (Some b) = SameButDefaults a b
SharedButDefaults None (Some b) = ⊥
SharedButDefaults (Some a) None = ⊥

-- What A and B are to have in common.
pub record Shared (a b : Lent) : Type 0 where
  pub reflections : SharedButDefaults (reflection_in a) (reflection_in b)
  pub scratch : length a.scratch ≡ length b.scratch
  pub output : length a.out ≡ length b.out

-- Where `parse_rdef` found the defaults: the place of each variable's default, in order, as its record in the table says.
unfoldable pub places_found : ℕ → Left → List Text
places_found count after = map (λ (v : VariableRecord). v.default_value) (records_from (variable_at after.found_variables) 0 count)

-- The defaults of what a side's tables hold.
abbrev pub defaults_held : Option (ResourceDef Bytes Bytes) → List Bytes
defaults_held None = []
defaults_held (Some r) = defaults_of r

-- A side that was refused: zeros.
pub record RefusedSide (l : Lent) (after : Left) : Type 0 where
  pub out_zero : after.out ≡ replicate (length l.out) 0
  pub scratch_zero : after.scratch ≡ replicate (length l.scratch) 0

-- A side of which n bytes were written, with its defaults at these places.
pub record WrittenSide (l : Lent) (after : Left) (n : ℕ) (places : List Text) : Type 0 where
  pub fits : n ≤ length after.out
  pub own_bytes : map (text_bytes (take n after.out) []) places ≡ defaults_held (reflection_in l)
  pub past_as_before : drop n after.out ≡ drop n l.out
  pub scratch_zero : after.scratch ≡ replicate (length l.scratch) 0

-- Two sides of which n bytes were written, and whose variables' tables were found with so many records: alike in all but the defaults' own bytes.
pub record SidesAlike (a b : Lent) (after-a after-b : Left) (n count-a count-b : ℕ) : Type 0 where
  pub same_places : places_found count-a after-a ≡ places_found count-b after-b
  pub same_outside : (p : ℕ) → p < n → (Covered p (places_found count-a after-a) → ⊥) → get_or after-a.out p 0 ≡ get_or after-b.out p 0
  pub side_a : WrittenSide a after-a n (places_found count-a after-a)
  pub side_b : WrittenSide b after-b n (places_found count-b after-b)

pub data SameAnswers (a b : Lent) (after-a after-b : Left) (answer : WrittenPair) : Type 0 where
  both_refused :
      (e : Refusal) → answer.a ≡ Err e → answer.b ≡ Err e → RefusedSide a after-a → RefusedSide b after-b → SameAnswers a b after-a after-b answer
  both_written :
      (n : ℕ) (found-a found-b : Header) → answer.a ≡ wrote n (Ok found-a) → answer.b ≡ wrote n (Ok found-b)
      → SidesAlike a b after-a after-b n found-a.variable_count found-b.variable_count → SameAnswers a b after-a after-b answer

-- What `write_pair` answers and leaves: of each side what `write_and_read` does, and demand 3.
pub record Noninterference (a b : Lent) (after-a after-b : Left) (answer : WrittenPair) : Type 0 where
  pub calls_a : WroteAndRead a after-a answer.a
  pub calls_b : WroteAndRead b after-b answer.b
  pub demand : Shared a b → SameAnswers a b after-a after-b answer
