-- The canonical form's layout: document 01, "Canonical form", in the order of the Rust's `write_rdef_canonical`.
use Rattle.std.specs.Prelude.{Bool, true, ◌&&◌, List, [], ◌∷◌, ◌++◌, map, ℕ, ◌*◌, eqb, length}
use Rattle.reflection.specs.Reflection.{TypeNumbers, TypeDesc, type_desc, Members, no_member, member, member_count, CBufferVariable, CBufferDef}
use Rattle.reflection.specs.Reflection.{ResourceDef, is_sm5, is_wide}
use Rattle.write_spec.specs.Step.{Cell, byte, name_byte, default_byte, TextFacts, pools, Placed, WriteStep, ◌>>=◌, return, append}
use Rattle.write_spec.specs.Step.{add_to_pool, pad, word_cells, reserve, find, interned, add_to_pool_if, unless_empty, in_member_pool, add_outer_name}
use Rattle.write_spec.specs.Step.{add_inner_name, add_type, add_default, cells_of}
use Rattle.write_spec.specs.Records.{type_words_in_chunk, VariableOffsets, variable_words_in_chunk, variable_size, Section, buffer_words_in_chunk}
use Rattle.write_spec.specs.Records.{buffer_size, binding_words_in_chunk, binding_size, header_words_in_chunk, header_word_count, BodyOffsets, rows}
use Rattle.write_spec.specs.Same.{same_type}

unfoldable pub zip : {A B : Type 0} → List A → List B → List (A × B)
zip [] bs = []
zip (a ∷ xs) [] = []
zip (a ∷ xs) (b ∷ bs) = (a, b) ∷ zip xs bs

module _ {N D : Type 0} (O : TextFacts N D) where
  -- A name and its NUL.
  unfoldable pub name_cells : N → List (Cell N D)
  name_cells n = cells_of (O.name_length n) (name_byte n) ++ (byte 0 ∷ [])

  -- A name of a binding or a buffer, and any other name: each in its own pool, equal text written interned.
  unfoldable pub place_outer_name : N → WriteStep N D ℕ
  place_outer_name n = interned true (λ ps. find (O.same_name n) ps.outer_names) do
    o ← append (name_cells n)
    add_to_pool (add_outer_name n) o

  unfoldable pub place_inner_name : N → WriteStep N D ℕ
  place_inner_name n = interned true (λ ps. find (O.same_name n) ps.inner_names) do
    o ← append (name_cells n)
    add_to_pool (add_inner_name n) o

  -- A default: equal bytes written interned in the chunk, after padding. An empty one has offset 0.
  unfoldable pub place_default : D → WriteStep N D ℕ
  place_default d = unless_empty (O.default_length d) (interned true (λ ps. find (O.same_default d) ps.defaults) do
    _ ← pad
    o ← append (cells_of (O.default_length d) (default_byte d))
    add_to_pool (add_default d) o)

  -- What is written for a type: its name if any; for each member its name, then its type (`place_members`, which hands back the words of their records);
  -- if there are members, padding and their records; padding; the descriptor.
  unfoldable pub write_type : Bool → TypeNumbers → N → ℕ → WriteStep N D (List ℕ) → WriteStep N D ℕ
  write_type sm5 k n count place_members = do
    name ← unless_empty (O.name_length n) (place_inner_name n)
    records ← place_members
    members ← unless_empty count (do
      _ ← pad
      append (word_cells records))
    _ ← pad
    append (word_cells (type_words_in_chunk sm5 k count members name))

  -- A type is looked up before anything is written, if it may be shared and is no array: array types are always fresh.
  unfoldable mutual
    pub place_type : Bool → Bool → TypeDesc N → WriteStep N D ℕ
    place_type sm5 share (type_desc k n ms) = interned (share && eqb k.elements 0) (λ ps. find (same_type O.same_name (type_desc k n ms)) ps.types) do
      o ← write_type sm5 k n (member_count ms) (place_members sm5 ms)
      add_to_pool_if share (add_type (type_desc k n ms)) o

    pub place_members : Bool → Members N → WriteStep N D (List ℕ)
    place_members sm5 no_member = return []
    place_members sm5 (member n offset t ms) = do
      name ← place_inner_name n
      type ← in_member_pool (place_type sm5 true t)
      records ← place_members sm5 ms
      return (name ∷ type ∷ offset ∷ records)

  -- A variable: its name, type and default. A top-level type is shared only where its buffer's type is 0.
  unfoldable pub place_variable : Bool → Bool → CBufferVariable N D → WriteStep N D VariableOffsets
  place_variable sm5 share v = do
    name ← place_inner_name v.name
    type ← place_type sm5 share v.var_type
    default ← place_default v.default-value
    return (record { name = name; type = type; default = default })

  unfoldable pub place_variables : Bool → Bool → List (CBufferVariable N D) → WriteStep N D (List VariableOffsets)
  place_variables sm5 share [] = return []
  place_variables sm5 share (v ∷ vs) = do
    o ← place_variable sm5 share v
    os ← place_variables sm5 share vs
    return (o ∷ os)

  -- A buffer's variables: padding, their records, and then what the records point to.
  unfoldable pub place_section : Bool → CBufferDef N D → WriteStep N D Section
  place_section sm5 b = do
    start ← pad
    os ← reserve (length b.variables * variable_size sm5) (rows (variable_words_in_chunk sm5) b.variables)
        (place_variables sm5 (eqb b.cb_type 0) b.variables)
    return (record { start = start; offsets = os })

  unfoldable pub place_sections : Bool → List (CBufferDef N D) → WriteStep N D (List Section)
  place_sections sm5 [] = return []
  place_sections sm5 (b ∷ bs) = do
    s ← place_section sm5 b
    ss ← place_sections sm5 bs
    return (s ∷ ss)

  unfoldable pub place_outer_names : List N → WriteStep N D (List ℕ)
  place_outer_names [] = return []
  place_outer_names (n ∷ ns) = do
    o ← place_outer_name n
    os ← place_outer_names ns
    return (o ∷ os)

  -- After the buffers' records: their names, then the variables of each.
  unfoldable pub place_buffer_parts : Bool → List (CBufferDef N D) → WriteStep N D (List (ℕ × Section))
  place_buffer_parts sm5 bs = do
    names ← place_outer_names (map (λ b. b.name) bs)
    sections ← place_sections sm5 bs
    return (zip names sections)

  -- The buffers: padding, their records, their parts. With none their offset is 0 and the padding is left out.
  unfoldable pub place_buffers : Bool → List (CBufferDef N D) → WriteStep N D (ℕ × List (ℕ × Section))
  place_buffers sm5 [] = return (0, [])
  place_buffers sm5 (b ∷ bs) = do
    start ← pad
    sections ← reserve (length (b ∷ bs) * buffer_size) (rows buffer_words_in_chunk (b ∷ bs)) (place_buffer_parts sm5 (b ∷ bs))
    return (start, sections)

  -- After the header: bindings and their names, the buffers, the creator and padding.
  unfoldable pub place_body : ResourceDef N D → WriteStep N D BodyOffsets
  place_body r = do
    _ ← reserve (length r.bindings * binding_size (is_wide r.rd11)) (rows (binding_words_in_chunk (is_wide r.rd11)) r.bindings)
        (place_outer_names (map (λ b. b.name) r.bindings))
    buffers ← place_buffers (is_sm5 r.rd11) r.constant_buffers
    creator ← place_inner_name r.creator
    _ ← pad
    return (record { buffers = buffers.0; sections = buffers.1; creator = creator })

  unfoldable pub place_chunk : ResourceDef N D → WriteStep N D BodyOffsets
  place_chunk r = reserve (header_word_count (is_sm5 r.rd11)) (header_words_in_chunk r) (place_body r)

  -- The whole chunk, from its start and empty pools.
  unfoldable pub layout : ResourceDef N D → Placed N D BodyOffsets
  layout r = place_chunk r 0 (pools [] [] [] [] [])
