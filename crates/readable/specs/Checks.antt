-- Vocabulary of internal contracts: no contract of an exported function and no demand cites it.
-- Readable, record by record: what the functions of this crate test, each part a recursion over one table's records. `proofs/Split` shows that the parts
-- together are `readable`.
use Rattle.std.specs.Prelude.{◌≡◌, Bool, true, false, ◌&&◌, ◌||◌, not, List, [], ◌∷◌, map, ℕ, zero, suc, ◌-◌, ◌/◌, ◌≤◌, eqb, leb, length, Option}
use Rattle.std.specs.Prelude.{None, Some, IfSome, option_map}
use Rattle.reflection.specs.declared.Text.{Text}
use Rattle.reflection.specs.declared.ResourceDef.{ResourceDef as Header}
use Rattle.reflection.specs.declared.ResourceBinding.{ResourceBinding as BindingRecord}
use Rattle.reflection.specs.declared.CBufferDef.{CBufferDef as BufferRecord}
use Rattle.reflection.specs.declared.CBufferVariable.{CBufferVariable as VariableRecord}
use Rattle.reflection.specs.Reflection.{is_sm5, is_wide}
use Rattle.reflection.specs.Limits.{chunk_limit, binding_room, buffer_room, variable_room, type_room}
use Rattle.tables.specs.Nodes.{Node, ◌>>=◌, type_levels}
use Rattle.tables.specs.Records.{binding_width, buffer_width, variable_width, type_width, binding_at, buffer_at, variable_at, type_at}
use Rattle.tables.specs.Decode.{guard, records_from, binding_from_table, node_from_table}
use Rattle.reflection.specs.Rd11.{rd11_from_header}
use Rattle.reflection.specs.Texts.{in_place, text_bytes}
use Rattle.reflection.specs.Contents.{Bytes}
use Rattle.readable.specs.Readable.{every, name_readable, zero_unless, version_readable, binding_readable, numbers_readable, rd11_absent}

-- A name that lies in its buffer and is readable.
unfoldable pub name_checked : Bytes → Bytes → Text → Bool
name_checked chunk edits t = in_place chunk edits t && name_readable (text_bytes chunk edits t)

-- A default that lies in its buffer, empty or of that size.
unfoldable pub default_checked : Bytes → Bytes → ℕ → Text → Bool
default_checked chunk edits size t = in_place chunk edits t && (eqb t.length 0 || eqb t.length size)

-- So many records, which a table of that many words holds, and no more than there is room for.
unfoldable pub count_checked : ℕ → ℕ → ℕ → ℕ → Bool
count_checked width long most n = leb n (long / width) && leb n most

-- The four counts, against the tables' lengths in words.
unfoldable pub counts_checked : Header → ℕ → ℕ → ℕ → ℕ → Bool
counts_checked h bindings buffers variables types =
    count_checked binding_width bindings binding_room h.binding_count
    && (count_checked buffer_width buffers buffer_room h.buffer_count
    && (count_checked variable_width variables variable_room h.variable_count && count_checked type_width types type_room h.type_count))

-- The header: both buffers' lengths, the version and the RD11 words, the creator.
unfoldable pub header_checked : Bytes → Bytes → Header → Bool
header_checked chunk edits h =
    (leb (length chunk) chunk_limit && leb (length edits) chunk_limit)
    && (rd11_absent h && (version_readable h.target_version (rd11_from_header h) && name_checked chunk edits h.creator))

-- A binding.
unfoldable pub binding_checked : Bytes → Bytes → Bool → BindingRecord → Bool
binding_checked chunk edits wide b = name_checked chunk edits b.name && binding_readable wide (binding_from_table b)

-- The bindings from i on, n of them.
unfoldable pub bindings_checked : Bytes → Bytes → Bool → List ℕ → ℕ → ℕ → Bool
bindings_checked chunk edits wide t i n = every (binding_checked chunk edits wide) (records_from (binding_at t) i n)

-- Buffers that take so many variables, each as many as it counts; none is left over.
unfoldable pub buffers_take : Bytes → Bytes → List BufferRecord → ℕ → Bool
buffers_take chunk edits [] left = eqb left 0
buffers_take chunk edits (b ∷ bs) left =
    name_checked chunk edits b.name && (leb b.variable_count left && buffers_take chunk edits bs (left - b.variable_count))

-- The buffers from i on, n of them, which take so many variables.
unfoldable pub buffers_checked : Bytes → Bytes → List ℕ → ℕ → ℕ → ℕ → Bool
buffers_checked chunk edits t i n left = buffers_take chunk edits (records_from (buffer_at t) i n) left

-- A variable, its type aside: for major 4 without slots.
unfoldable pub variable_checked : Bytes → Bytes → Bool → VariableRecord → Bool
variable_checked chunk edits sm5 v =
    name_checked chunk edits v.name
    && (default_checked chunk edits v.size v.default_value
    && zero_unless sm5 (v.texture_start ∷ v.texture_size ∷ v.sampler_start ∷ v.sampler_size ∷ []))

-- A type's node: its numbers, its name (for major 4 empty) and, of a member, its name as a member.
unfoldable pub node_checked : Bytes → Bytes → Bool → Bool → Node Text → Bool
node_checked chunk edits sm5 inner x =
    numbers_readable sm5 x.numbers
    && (leb x.member_count 65535
    && (zero_unless sm5 (x.name.length ∷ []) && (name_checked chunk edits x.name && (not inner || name_checked chunk edits x.member_name))))

-- The nodes left after those of n types, `walk` walking one.
unfoldable pub members_left : (List (Node Text) → Option (List (Node Text))) → ℕ → List (Node Text) → Option (List (Node Text))
members_left walk zero xs = Some xs
members_left walk (suc n) xs = do
  left ← walk xs
  members_left walk n left

-- The nodes left after those of one type of at most so many levels, where each passes the test; `inner` where the type is a member's.
unfoldable pub type_left : (Bool → Node Text → Bool) → Bool → ℕ → List (Node Text) → Option (List (Node Text))
type_left test inner zero xs = None
type_left test inner (suc levels) [] = None
type_left test inner (suc levels) (x ∷ xs) = do
  _ ← guard (test inner x)
  members_left (type_left test true levels) x.member_count xs

-- The test of what an option has; false where it has nothing.
abbrev pub passes : {A : Type 0} → (A → Bool) → Option A → Bool
passes test None = false
passes test (Some a) = test a

-- Variables, each with the nodes of its type; no node is left over.
unfoldable pub variables_take : Bytes → Bytes → Bool → List VariableRecord → List (Node Text) → Bool
variables_take chunk edits sm5 [] [] = true
variables_take chunk edits sm5 [] (x ∷ xs) = false
variables_take chunk edits sm5 (v ∷ vs) xs =
    variable_checked chunk edits sm5 v && passes (variables_take chunk edits sm5 vs) (type_left (node_checked chunk edits sm5) false type_levels xs)

-- The nodes from k on, n of them.
unfoldable pub nodes_from : List ℕ → ℕ → ℕ → List (Node Text)
nodes_from t k n = map node_from_table (records_from (type_at t) k n)

-- What a walk over nodes answers: the first of the `count` nodes that is left, or that there are none such.
pub record NodesWalked (out : Option (List (Node Text))) (types : List ℕ) (count : ℕ) (r : Option ℕ) : Type 0 where
  pub outcome : out ≡ option_map (λ m. nodes_from types m (count - m)) r
  pub within : IfSome r (λ m. m ≤ count)

-- The variables from i on, n of them, and the nodes from k on, m of them.
unfoldable pub variables_checked : Bytes → Bytes → Bool → List ℕ → List ℕ → ℕ → ℕ → ℕ → ℕ → Bool
variables_checked chunk edits sm5 variables types i n k m = variables_take chunk edits sm5 (records_from (variable_at variables) i n) (nodes_from types k m)

-- The records of the four tables, as many as the header counts.
unfoldable pub records_checked : Bytes → Bytes → Header → List ℕ → List ℕ → List ℕ → List ℕ → Bool
records_checked chunk edits h bindings buffers variables types =
    bindings_checked chunk edits (is_wide (rd11_from_header h)) bindings 0 h.binding_count
    && (buffers_checked chunk edits buffers 0 h.buffer_count h.variable_count
    && variables_checked chunk edits (is_sm5 (rd11_from_header h)) variables types 0 h.variable_count 0 h.type_count)
