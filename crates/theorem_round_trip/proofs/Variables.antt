-- Where variables are placed, each of their records reads as the variable, with its default at the offset that the layout's result says: by the laws on
-- names, types and defaults, and by the words of the record.
use mathlib.Core.Path.{◌≡◌, refl, ap, sym, ◌∙◌, subst}
use mathlib.Core.List.{List, [], ◌∷◌}
use mathlib.Core.Bool.{Bool, true, false}
use Prim.Native.Nat.{ℕ, ◌+◌, ◌*◌, ◌<◌, ◌≤◌}
use native.Mathlib.Omega.{arith}
use native.Mathlib.Nat.{add-zero}
use lib.ListN.{length, get_or}
use Rattle.words.specs.Words.{word_at}
use Rattle.text.specs.Strings.{cstring_at}
use Rattle.reflection.specs.Limits.{chunk_limit}
use Rattle.reflection.specs.Strides.{variable_stride}
use Rattle.reflection.specs.declared.Text.{Text}
use Rattle.reflection.specs.Reflection.{CBufferVariable, map_variable}
use Rattle.tables.specs.Nodes.{type_levels}
use Rattle.reflection.specs.Texts.{in_chunk}
use Rattle.reflection.specs.Contents.{Bytes}
use Rattle.reflection.proofs.Equalities.{equal_variables}
use Rattle.read_spec.specs.Step.{Room, room}
use Rattle.read_spec.specs.Read.{read_type, default_at, variable_from_chunk, read_variable}
use Rattle.words.specs.Words.{word_if}
use Rattle.write_spec.specs.Step.{Cell}
use Rattle.write_spec.specs.Records.{VariableOffsets, variable_words_in_chunk, words_if}
use Rattle.write_spec.specs.Layout.{place_variable, place_variables}
use Rattle.write_spec.specs.Canonical.{bytes_facts}
use Rattle.theorem_round_trip.specs.RoundTrip.{EachIsWord}
use Rattle.theorem_round_trip.proofs.Lists.{All, Zip}
use Rattle.theorem_round_trip.proofs.Holds.{bytes_of, WordsAt, inside_bytes, row_word, words_fit, words_split, longer_word}
use Rattle.theorem_round_trip.proofs.Rooms.{plus, Takes, then_takes, free_then, then_free, returns, check_takes, text_takes, variable_takes}
use Rattle.theorem_round_trip.proofs.Texts.{text_in, name_in, default_in, NameAt, DefaultAt}
use Rattle.theorem_round_trip.proofs.Steps.{type_size, TypeAt, Leaves, bind_leaves, return_leaves}
use Rattle.theorem_round_trip.proofs.Names.{place_inner_name_leaves, place_default_leaves}
use Rattle.theorem_round_trip.proofs.Types.{place_type_leaves}
use Rattle.theorem_round_trip.proofs.Conditions.{ReadableVariable}

pub length_variable_words : (sm5 : Bool) (v : CBufferVariable Bytes Bytes) (o : VariableOffsets) → 4 * length (variable_words_in_chunk sm5 v o) ≡ variable_stride sm5
unfolding variable_words_in_chunk
length_variable_words false v o = refl
length_variable_words true v o = refl

-- What a variable's offsets lead to.
pub record VariableAt (cells : List (Cell Bytes Bytes)) (sm5 : Bool) (v : CBufferVariable Bytes Bytes) (o : VariableOffsets) : Type 0 where
  pub fine : ReadableVariable sm5 v
  pub name : NameAt cells o.name v.name
  pub type : TypeAt cells sm5 o.type v.var_type
  pub default : DefaultAt cells o.default v.default-value

abbrev pub variable_cost : CBufferVariable Bytes Bytes → Room
variable_cost v = plus (room 0 0 1 0) (room 0 0 0 (type_size v.var_type))

-- What is read is what was written, and the default lies at its offset.
pub record VariableRead (cells : List (Cell Bytes Bytes)) (v : CBufferVariable Bytes Bytes) (o : VariableOffsets) (p : CBufferVariable Text Text) : Type 0 where
  pub is : map_variable (text_in cells) (text_in cells) p ≡ map_variable name_in default_in v
  pub default : p.default-value ≡ in_chunk o.default (length v.default-value)

module _ (cells : List (Cell Bytes Bytes)) (short : length cells ≤ chunk_limit) (sm5 : Bool) where
  pub variable_read : (v : CBufferVariable Bytes Bytes) (o : VariableOffsets) (at : ℕ) → VariableAt cells sm5 v o
      → WordsAt cells at (variable_words_in_chunk sm5 v o)
      → (p : CBufferVariable Text Text) × Takes (read_variable (bytes_of cells) sm5 at) (variable_cost v) p × VariableRead cells v o p
  unfolding read_variable map_variable variable_words_in_chunk variable_from_chunk EachIsWord
  variable_read v o at there h =
      let type = there.type.reads type_levels [] there.fine.deep tt in
      let name : Text = in_chunk o.name (length v.name) in
      let default : Text = in_chunk o.default (length v.default-value) in
      let p : CBufferVariable Text Text = record {
        name = name;
        offset = v.offset;
        size = v.size;
        flags = v.flags;
        default-value = default;
        texture_start = v.texture_start;
        texture_size = v.texture_size;
        sampler_start = v.sampler_start;
        sampler_size = v.sampler_size;
        var_type = type.found;
      } in (
        p,
        then_takes _ (room 0 0 1 0) (room 0 0 0 (type_size v.var_type)) variable_takes
            (free_then _ _ (check_takes _ _ (inside_bytes cells at (variable_stride sm5)
            (omega (arith, words_fit cells at (variable_words_in_chunk sm5 v o) h, length_variable_words sm5 v o))))
            (free_then _ _ (text_takes _ _ o.default (length v.default-value)
            ((λ i. default_at (bytes_of cells) (word 5 (omega arith) i) (word 2 (omega arith) i)) ∙ there.default.found v.size there.fine.default))
            (free_then _ _ (text_takes _ _ o.name (length v.name) (ap (cstring_at (bytes_of cells)) word_0 ∙ there.name.found))
            (then_free _ _ (subst (λ w. Takes (read_type (bytes_of cells) sm5 type_levels [] w) (room 0 0 0 (type_size v.var_type)) type.found)
            (sym (word 4 (omega arith))) type.takes)
            (returns _ p (equal_variables _ p refl (λ i.
            word 1 (omega arith) i ∷ word 2 (omega arith) i ∷ word 3 (omega arith) i ∷ slot 0 24 (omega arith) refl i
            ∷ slot 1 28 (omega arith) refl i ∷ slot 2 32 (omega arith) refl i ∷ slot 3 36 (omega arith) refl i ∷ []) refl refl)))))),
        record { is = equal_variables _ _ there.name.is refl there.default.is type.is; default = refl },
      )
    where
      first : List ℕ
      first = o.name ∷ v.offset ∷ v.size ∷ v.flags ∷ o.type ∷ o.default ∷ []

      longer : List ℕ
      longer = v.texture_start ∷ v.texture_size ∷ v.sampler_start ∷ v.sampler_size ∷ []

      word : (j : ℕ) → j < 6 → word_at (bytes_of cells) (at + 4 * j) ≡ get_or (o.name ∷ v.offset ∷ v.size ∷ v.flags ∷ o.type ∷ o.default ∷ []) j 0
      word j lt =
          row_word cells at first j (
            omega (arith, there.name.below_end),
            (
              there.fine.offset,
              (
                there.fine.size,
                (there.fine.flags, (omega (arith, there.type.below_end), (omega (arith, there.default.small), tt))),
              ),
            ),
          )
          lt
          (words_split cells at first (words_if sm5 longer) h).0

      word_0 : word_at (bytes_of cells) at ≡ o.name
      word_0 = ap (word_at (bytes_of cells)) (sym (add-zero at)) ∙ word 0 (omega arith)

      slot : (j m : ℕ) → j < 4 → variable_stride false + 4 * j ≡ m
          → word_if sm5 (bytes_of cells) (at + m) ≡ get_or (v.texture_start ∷ v.texture_size ∷ v.sampler_start ∷ v.sampler_size ∷ []) j 0
      slot j m lt e = longer_word cells sm5 at first longer j m there.fine.slots lt e h

  place_variable_leaves : (v : CBufferVariable Bytes Bytes) → ReadableVariable sm5 v → (share : Bool) (at : ℕ)
      → Leaves cells sm5 at (place_variable bytes_facts sm5 share v) (λ o at'. VariableAt cells sm5 v o)
  unfolding place_variable
  place_variable_leaves v fine share at =
      bind_leaves (place_inner_name_leaves cells sm5 at v.name fine.name) λ name at₁ le₁ named.
      bind_leaves (place_type_leaves cells short sm5 v.var_type fine.type share at₁) λ type at₂ le₂ typed.
      bind_leaves (place_default_leaves cells sm5 at₂ v.default-value) λ default at₃ le₃ there.
      return_leaves _ (record { fine = fine; name = named; type = typed.0; default = there })

  pub place_variables_leaves : (vs : List (CBufferVariable Bytes Bytes)) → All (ReadableVariable sm5) vs → (share : Bool) (at : ℕ)
      → Leaves cells sm5 at (place_variables bytes_facts sm5 share vs) (λ os at'. Zip (VariableAt cells sm5) vs os)
  unfolding place_variables
  place_variables_leaves [] fine share at = return_leaves [] tt
  place_variables_leaves (v ∷ vs) fine share at =
      bind_leaves (place_variable_leaves v fine.0 share at) λ o at₁ le₁ there.
      bind_leaves (place_variables_leaves vs fine.1 share at₁) λ os at₂ le₂ others.
      return_leaves (o ∷ os) (there, others)
