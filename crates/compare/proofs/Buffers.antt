-- Buffers and reflections as the tables hold them, compared part by part: the first part that differs decides.
use mathlib.Core.Path.{◌≡◌, refl, sym, ap, ◌∙◌}
use mathlib.Core.Bool.{Bool, true, false, ◌&&◌}
use mathlib.Core.List.{List, [], ◌∷◌, map}
use Prim.Native.Nat.{ℕ, zero, suc, ◌+◌, ◌≤◌, ◌<◌}
use native.Mathlib.Omega.{arith}
use Rattle.text.specs.Same.{same_bytes}
use Rattle.reflection.specs.declared.Text.{Text}
use Rattle.reflection.specs.declared.ResourceDef.{ResourceDef as Header}
use Rattle.reflection.specs.declared.CBufferDef.{CBufferDef as BufferRecord}
use Rattle.reflection.specs.declared.CBufferVariable.{CBufferVariable as VariableRecord}
use Rattle.reflection.specs.Reflection.{ResourceBinding}
use Rattle.reflection.specs.Limits.{variable_room, type_room}
use Rattle.tables.specs.Nodes.{type_levels}
use Rattle.tables.specs.Records.{binding_at, buffer_at, variable_at}
use Rattle.tables.specs.Decode.{records_from, binding_from_table, variable_from_table, buffer_from_table}
use Rattle.tables.proofs.RecordLists.{length_records}
use Rattle.write_spec.specs.Same.{same_list, same_binding, same_variable, same_buffer, same_def}
use Rattle.tables.specs.Trees.{farthest_node, tree_at, type_tree}
use Rattle.tables.specs.TableReflection.{root_at, variable_in_table, count_at, first_variable, buffer_in_table, reflection_in_tables}
use Rattle.compare.specs.Fields.{same_fields, header_numbers, binding_in_table}
use Rattle.tables.proofs.TableOrder.{root_next, root_below, first_next, first_below}
use Rattle.compare.proofs.Walks.{other_lengths, equal_start, equal_onward, equal_stops, equal_end}

and_assoc : (a b c : Bool) → (a && (b && c)) ≡ ((a && b) && c)
and_assoc true b c = refl
and_assoc false b c = refl

-- What was read of a table is what it holds.
is_variable : (variables types : List ℕ) (j : ℕ) {x : VariableRecord} {k : ℕ} → x ≡ variable_at variables j → k ≡ root_at types j
    → variable_from_table x (type_tree types type_levels k) ≡ variable_in_table variables types j
unfolding variable_in_table
is_variable variables types j p q = λ z. variable_from_table (p z) (type_tree types type_levels (q z))

-- Variables i, as they were read of two tables.
pub variables_at : (same : Text → Text → Bool) (i : ℕ) (b : Bool) (variables types others other-types : List ℕ) {x y : VariableRecord} {k l : ℕ}
    → x ≡ variable_at variables i → k ≡ root_at types i → y ≡ variable_at others i → l ≡ root_at other-types i
    → same_variable same same (variable_from_table x (type_tree types type_levels k)) (variable_from_table y (type_tree other-types type_levels l)) ≡ b
    → same_variable same same (variable_in_table variables types i) (variable_in_table others other-types i) ≡ b
variables_at same i b variables types others other-types p r q t e =
    (λ z. same_variable same same (sym (is_variable variables types i p r) z) (sym (is_variable others other-types i q t) z)) ∙ e

-- A cursor at the type of variable i is no farther than the node after the last, and skips to the type of the next variable.
module _ (types : List ℕ) (i k : ℕ) (at : k ≡ root_at types i) where
  pub root_within : (end : ℕ) → root_at types end ≤ type_room → i < end → k ≤ farthest_node
  root_within end few h = omega (arith, at, few, root_below types i end (omega (arith, h)))

  pub root_after : {next : ℕ} → next ≡ (tree_at types type_levels k).next → next ≡ root_at types (i + 1)
  root_after e = e ∙ ap (λ (n : ℕ). (tree_at types type_levels n).next) at ∙ root_next types i

pub root_first : (types : List ℕ) → 0 ≡ root_at types 0
unfolding root_at
root_first types = refl

pub first_first : (buffers : List ℕ) → 0 ≡ first_variable buffers 0
unfolding first_variable
first_first buffers = refl

-- Buffer i, of those before buffer `end`, has n variables, from variable `first` on.
module _ (buffers : List ℕ) (end i first n : ℕ) {x : BufferRecord} (is_x : x ≡ buffer_at buffers i) (at : first ≡ first_variable buffers i)
    (own : n ≡ x.variable_count) where
  pub first_after : first + n ≡ first_variable buffers (i + 1)
  unfolding count_at
  first_after = (λ z. at z + (own ∙ ap (λ (b : BufferRecord). b.variable_count) is_x) z) ∙ first_next buffers i

  module _ (h : i < end) where
    pub first_within : first_variable buffers end ≤ variable_room → first + n ≤ variable_room
    first_within few = omega (arith, few, first_after, first_below buffers (i + 1) end (omega (arith, h)))

    pub nodes_within : (types : List ℕ) → root_at types (first_variable buffers end) ≤ type_room → root_at types (first + n) ≤ type_room
    nodes_within types few =
        omega (
          arith,
          few,
          ap (root_at types) first_after,
          root_below types (first_variable buffers (i + 1)) (first_variable buffers end) (first_below buffers (i + 1) end (omega (arith, h))),
        )

pub ruleset variable_walk = (equal_start, equal_onward, equal_stops, equal_end, variables_at, root_after)

module _ (same : Text → Text → Bool) (buffers variables types other-buffers other-variables other-types : List ℕ) where
  abbrev equal_buffers : ℕ → Bool
  equal_buffers i = same_buffer same same (buffer_in_table buffers variables types i) (buffer_in_table other-buffers other-variables other-types i)

  abbrev equal_variables : ℕ → ℕ → ℕ → Bool
  equal_variables first m n = same_list (same_variable same same) (records_from (variable_in_table variables types) first m)
      (records_from (variable_in_table other-variables other-types) first n)

  -- Buffers i, whose records are x and y and whose variables begin at the same variable.
  module _ (i first : ℕ) {x y : BufferRecord} (is_x : x ≡ buffer_at buffers i) (is_y : y ≡ buffer_at other-buffers i)
      (is_first : first ≡ first_variable buffers i) (is-other : first ≡ first_variable other-buffers i) where
    parts : equal_buffers i ≡ same_fields same x y && equal_variables first x.variable_count y.variable_count
    unfolding same_buffer buffer_in_table buffer_from_table count_at same_fields
    parts =
        (λ z. same_buffer same same (buffer_from_table (sym is_x z) (records_from (variable_in_table variables types) (sym is_first z)
        (sym is_x z).variable_count))
        (buffer_from_table (sym is_y z) (records_from (variable_in_table other-variables other-types) (sym is-other z) (sym is_y z).variable_count)))
        ∙ and_assoc (same x.name y.name) (same_bytes (x.size ∷ x.flags ∷ x.cb_type ∷ []) (y.size ∷ y.flags ∷ y.cb_type ∷ []))
        (equal_variables first x.variable_count y.variable_count)

    pub other_fields : same_fields same x y ≡ false → equal_buffers i ≡ false
    other_fields e = parts ∙ rw e

    module _ (fields : same_fields same x y ≡ true) where
      by_variables : equal_buffers i ≡ equal_variables first x.variable_count y.variable_count
      by_variables = parts ∙ rw fields

      pub other_count : (x.variable_count ≡ y.variable_count → ⊥) → equal_buffers i ≡ false
      other_count h =
          by_variables
          ∙ other_lengths (same_variable same same) (records_from (variable_in_table variables types) first x.variable_count)
          (records_from (variable_in_table other-variables other-types) first y.variable_count)
          (λ e. h (sym (length_records (variable_in_table variables types) first x.variable_count) ∙ e
          ∙ length_records (variable_in_table other-variables other-types) first y.variable_count))

      pub as_variables : x.variable_count ≡ y.variable_count → equal_buffers i ≡ equal_variables first x.variable_count x.variable_count
      as_variables e = by_variables ∙ ap (λ (n : ℕ). equal_variables first x.variable_count n) (sym e)

pub ruleset buffer_walk = (
  equal_start,
  equal_onward,
  equal_stops,
  equal_end,
  other_fields,
  other_count,
  as_variables,
  root_first,
  first_first,
  first_after,
)

map_bindings : (bindings : List ℕ) (i n : ℕ) → map binding_from_table (records_from (binding_at bindings) i n) ≡ records_from (binding_in_table bindings) i n
unfolding records_from binding_in_table
map_bindings bindings i zero = refl
map_bindings bindings i (suc n) = ap (λ (l : List (ResourceBinding Text)). binding_from_table (binding_at bindings i) ∷ l) (map_bindings bindings (suc i) n)

-- Two reflections.
module _ (same : Text → Text → Bool) (x : Header) (bindings buffers variables types : List ℕ) (y : Header)
    (other-bindings other-buffers other-variables other-types : List ℕ) where
  abbrev equal_reflections : Bool
  equal_reflections = same_def same same (reflection_in_tables x bindings buffers variables types)
      (reflection_in_tables y other-bindings other-buffers other-variables other-types)

  abbrev equal_bindings : ℕ → ℕ → Bool
  equal_bindings m n = same_list (same_binding same same) (records_from (binding_in_table bindings) 0 m) (records_from (binding_in_table other-bindings) 0 n)

  abbrev all_buffers : ℕ → ℕ → Bool
  all_buffers m n = same_list (same_buffer same same) (records_from (buffer_in_table buffers variables types) 0 m)
      (records_from (buffer_in_table other-buffers other-variables other-types) 0 n)

  def_parts : equal_reflections
      ≡ same_bytes (header_numbers x) (header_numbers y)
      && (same x.creator y.creator && (equal_bindings x.binding_count y.binding_count && all_buffers x.buffer_count y.buffer_count))
  unfolding same_def reflection_in_tables header_numbers
  def_parts = λ z. same_bytes (header_numbers x) (header_numbers y)
      && (same x.creator y.creator
      && (same_list (same_binding same same) (map_bindings bindings 0 x.binding_count z) (map_bindings other-bindings 0 y.binding_count z)
      && all_buffers x.buffer_count y.buffer_count))

  pub other_header : same_bytes (header_numbers x) (header_numbers y) ≡ false → equal_reflections ≡ false
  other_header e = def_parts ∙ rw e

  module _ (header : same_bytes (header_numbers x) (header_numbers y) ≡ true) where
    pub other_creator : same x.creator y.creator ≡ false → equal_reflections ≡ false
    other_creator e = def_parts ∙ rw (header, e)

    module _ (creator : same x.creator y.creator ≡ true) where
      by_bindings : equal_reflections ≡ (equal_bindings x.binding_count y.binding_count && all_buffers x.buffer_count y.buffer_count)
      by_bindings = def_parts ∙ rw (header, creator)

      pub other_binding_count : (x.binding_count ≡ y.binding_count → ⊥) → equal_reflections ≡ false
      other_binding_count h =
          by_bindings
          ∙ ap (λ (b : Bool). b && all_buffers x.buffer_count y.buffer_count)
          (other_lengths (same_binding same same) (records_from (binding_in_table bindings) 0 x.binding_count)
          (records_from (binding_in_table other-bindings) 0 y.binding_count)
          (λ e. h (sym (length_records (binding_in_table bindings) 0 x.binding_count) ∙ e
          ∙ length_records (binding_in_table other-bindings) 0 y.binding_count)))

      module _ (counts : x.binding_count ≡ y.binding_count) where
        with_counts : equal_reflections ≡ (equal_bindings x.binding_count x.binding_count && all_buffers x.buffer_count y.buffer_count)
        with_counts = by_bindings ∙ ap (λ (n : ℕ). equal_bindings x.binding_count n && all_buffers x.buffer_count y.buffer_count) (sym counts)

        pub unequal_bindings : equal_bindings x.binding_count x.binding_count ≡ false → equal_reflections ≡ false
        unequal_bindings e = with_counts ∙ rw e

        module _ (bindings-equal : equal_bindings x.binding_count x.binding_count ≡ true) where
          pub other_buffer_count : (x.buffer_count ≡ y.buffer_count → ⊥) → equal_reflections ≡ false
          other_buffer_count h =
              with_counts
              ∙ rw bindings-equal
              (other_lengths (same_buffer same same) (records_from (buffer_in_table buffers variables types) 0 x.buffer_count)
              (records_from (buffer_in_table other-buffers other-variables other-types) 0 y.buffer_count)
              (λ e. h (sym (length_records (buffer_in_table buffers variables types) 0 x.buffer_count) ∙ e
              ∙ length_records (buffer_in_table other-buffers other-variables other-types) 0 y.buffer_count)))

          pub by_buffers : x.buffer_count ≡ y.buffer_count → equal_reflections ≡ all_buffers x.buffer_count x.buffer_count
          by_buffers e = with_counts ∙ rw bindings-equal (ap (λ (n : ℕ). all_buffers x.buffer_count n) (sym e))

pub ruleset reflection_tests = (other_header, other_creator, other_binding_count, unequal_bindings, other_buffer_count, by_buffers)
