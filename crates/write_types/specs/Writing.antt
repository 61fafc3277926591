-- Vocabulary of internal contracts: no contract of an exported function and no demand cites it.
-- The parts of writing a type (crate write_spec, Layout) that one function of the code does.
use Rattle.std.specs.Prelude.{Bool, true, false, List, ℕ, zero, suc, Option, None}
use Rattle.reflection.specs.declared.Text.{Text}
use Rattle.reflection.specs.Reflection.{TypeNumbers, TypeDesc, type_desc, member_count}
use Rattle.write_spec.specs.Step.{TextFacts, WriteStep, ◌>>=◌, append, pad, word_cells, unless_empty}
use Rattle.write_spec.specs.Records.{type_words_in_chunk}
use Rattle.write_spec.specs.Layout.{write_type, place_inner_name, place_members}
use Rattle.write_texts.specs.Simulates.{text_facts}

-- What is written for a type that is not shared.
unfoldable pub write_tree : {N D : Type 0} → TextFacts N D → Bool → TypeDesc N → WriteStep N D ℕ
write_tree O sm5 (type_desc k n ms) = write_type O sm5 k n (member_count ms) (place_members O sm5 ms)

-- A type's name is placed; nothing where it is empty.
abbrev pub place_type_name : List ℕ → List ℕ → Text → WriteStep Text Text ℕ
place_type_name chunk edits name = unless_empty ((text_facts chunk edits).name_length name) (place_inner_name (text_facts chunk edits) name)

-- The records of a type's members, after padding; nothing where it has none.
unfoldable pub append_records : {N D : Type 0} → ℕ → List ℕ → WriteStep N D ℕ
append_records count records = unless_empty count (do
  _ ← pad
  append (word_cells records))

-- What is written for a type once its name and its members are placed: the members' records and the descriptor.
unfoldable pub close_type : {N D : Type 0} → Bool → TypeNumbers → ℕ → ℕ → List ℕ → WriteStep N D ℕ
close_type sm5 k count name records = do
  members ← append_records count records
  _ ← pad
  append (word_cells (type_words_in_chunk sm5 k count members name))

-- How many members a type with so many levels has, where its node counts `count`.
abbrev pub count_within : ℕ → ℕ → ℕ
count_within zero count = 0
count_within (suc levels) count = count

-- What is looked up only where a type may be shared.
abbrev pub only_if : Bool → Option ℕ → Option ℕ
only_if true looked = looked
only_if false looked = None
