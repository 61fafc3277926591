-- Vocabulary of internal contracts: no contract of an exported function and no demand cites it.
-- The walk of a type: what it leaves.
use Rattle.text.specs.declared.Span.{Span}
use Rattle.std.specs.Prelude.{◌≡◌, Bool, List, [], ◌∷◌, ◌++◌, ℕ, ◌+◌, ◌*◌, ◌-◌, take, Option, None, Some}
use Rattle.words.specs.Words.{high_at}
use Rattle.reflection.specs.Limits.{type_width, type_levels}
use Rattle.reflection.specs.declared.Text.{Text}
use Rattle.reflection.specs.Reflection.{TypeDesc, type_desc, Members, no_member, member, member_count}
use Rattle.reflection.specs.Texts.{in_chunk}
use Rattle.tables.specs.Nodes.{Node}
use Rattle.tables.specs.Records.{type_words_in_table}
use Rattle.tables.specs.Tables.{type_record}
use Rattle.read_spec.specs.Step.{Room, Walk}
use Rattle.read_spec.specs.Read.{read_type, read_members, numbers_from, type_name_at}
use Rattle.read_spec.specs.declared.Counts.{Counts}
use Rattle.read_types.specs.Progress.{Progress, progress}
use Rattle.read_types.specs.Walked.{Walked}

-- A type's nodes in walk order, after the words w.
unfoldable mutual
  pub append_type : Text → ℕ → TypeDesc Text → List ℕ → List ℕ
  append_type mn mo (type_desc k n ms) w =
      append_members ms (w ++ type_words_in_table (type_record (record {
        numbers = k;
        member_count = member_count ms;
        name = n;
        member_name = mn;
        member_offset = mo;
      })))

  pub append_members : Members Text → List ℕ → List ℕ
  append_members no_member w = w
  append_members (member n o t ms) w = append_members ms (append_type n o t w)

-- Where a text was found; at place 0 and empty where it is bad.
abbrev pub found_text : Option Span → Text
found_text (Some found) = in_chunk found.place found.length
found_text None = in_chunk 0 0

-- The node of the type at an offset, which a member's name and offset lead to.
unfoldable pub node_from_chunk : List ℕ → Bool → ℕ → Text → ℕ → Node Text
node_from_chunk s sm5 at mn mo =
    record { numbers = numbers_from s sm5 at; member_count = high_at s (at + 8); name = found_text (type_name_at s sm5 at); member_name = mn; member_offset = mo }

-- The path from the root, which the code keeps root first, as the definition has it: the nearest descriptor first.
unfoldable pub turned_onto : List ℕ → List ℕ → List ℕ
turned_onto [] onto = onto
turned_onto (x ∷ xs) onto = turned_onto xs (x ∷ onto)

abbrev pub turned : List ℕ → List ℕ
turned xs = turned_onto xs []

-- What reading a type, or n members, appends to the nodes' words.
unfoldable pub type_progress : List ℕ → Bool → ℕ → List ℕ → ℕ → Text → ℕ → List ℕ → Room → Progress (List ℕ)
type_progress s sm5 levels path at mn mo w r = progress (append_type mn mo) (read_type s sm5 levels path at r) w

unfoldable pub members_progress : List ℕ → Bool → ℕ → List ℕ → ℕ → ℕ → List ℕ → Room → Progress (List ℕ)
members_progress s sm5 levels path n at w r = progress append_members (read_members (λ below. read_type s sm5 levels path below) s n at r) w

-- What so many nodes of a table hold.
abbrev pub nodes_in : List ℕ → Counts → List ℕ
nodes_in types n = take (n.types * type_width) types

-- The walk of a type fills the nodes only.
abbrev pub up_to_types : Counts → Counts → Counts
up_to_types capacity n = record { bindings = n.bindings; buffers = n.buffers; variables = n.variables; types = capacity.types }

-- What the walk of a type leaves: its progress, and the path down to its own level as it was.
pub record WalkedType (out : List ℕ → Room → Progress (List ℕ)) (levels : ℕ) (capacity n : Counts) (types types' path path' : List ℕ) (r : Walk) : Type 0 where
  pub walked : Walked out capacity (up_to_types capacity n) n (nodes_in types) (nodes_in types') r
  pub above : take (type_levels - levels) path' ≡ take (type_levels - levels) path
