-- What is read is readable: bindings, variables, buffers and the header. Reading tests every code and place that readable asks for, and takes each record from
-- the room once.
use mathlib.Core.Path.{◌≡◌, refl, sym, ap, subst, ◌∙◌}
use mathlib.Core.Bool.{Bool, true, false, ◌&&◌, ◌||◌, or-false}
use mathlib.Core.List.{List, [], ◌∷◌, ◌++◌, map}
use Prim.Native.Nat.{ℕ, ◌+◌, ◌≤◌, ◌<◌}
use native.Mathlib.Omega.{arith}
use borrow.Author.Tests.{leb-true}
use lib.Dec.{eqb}
use lib.ListN.{length, get_or, length-append}
use Rattle.words.specs.Words.{word_at}
use Rattle.text.proofs.Bools.{and-true}
use Rattle.reflection.specs.Limits.{chunk_limit}
use Rattle.reflection.specs.Strides.{rd11_header_size, binding_stride, buffer_stride, variable_stride, type_stride, member_stride, rd11_identifier}
use Rattle.reflection.specs.Strides.{sm51_identifier}
use Rattle.reflection.specs.Rd11.{rd11_allowed}
use Rattle.reflection.specs.declared.Text.{Text}
use Rattle.reflection.specs.Reflection.{CBufferVariable, CBufferDef, ResourceBinding, ResourceDef, Rd11, major_of, is_sm5, is_wide}
use Rattle.tables.specs.Nodes.{nodes_of, type_levels}
use Rattle.reflection.specs.Texts.{in_chunk}
use Rattle.reflection.specs.Reflection.{all_variables}
use Rattle.reflection.specs.Contents.{Bytes}
use Rattle.read_spec.specs.Step.{Room, return}
use Rattle.read_spec.specs.Read.{read_many, read_variable, variable_from_chunk, read_buffer, buffer_from_chunk, read_binding, binding_from_chunk}
use Rattle.read_spec.specs.Read.{read_rd11}
use Rattle.read_spec.specs.Read.{read_tables, read_chunk}
use Rattle.words.specs.Words.{word_if}
use Rattle.readable.specs.Readable.{every, zero_unless, version_readable, binding_readable, node_count}
use Rattle.readable.specs.Checks.{name_checked}
use Rattle.readable.proofs.Bools.{every_append}
use Rattle.readable.proofs.Parts.{typed_held, binding_tests}
use Rattle.readable.proofs.Leaves.{Leaves, Spent, none_spent, then_leaves, check_leaves, text_leaves, binding_leaves, buffer_leaves}
use Rattle.readable.proofs.Leaves.{variable_leaves, many_leaves}
use Rattle.readable.proofs.ReadTypes.{string_held, default_held, longer_held, TypeRead, type_read_lem}

-- Records taken one after the other.
spent_then : (b f v t b' f' v' t' : ℕ) {r r' r'' : Room} → Spent b f v t r r' → Spent b' f' v' t' r' r'' → Spent (b + b') (f + f') (v + v') (t + t') r r''
spent_then b f v t b' f' v' t' p q =
    record {
      bindings = omega (arith, p.bindings, q.bindings);
      buffers = omega (arith, p.buffers, q.buffers);
      variables = omega (arith, p.variables, q.variables);
      types = omega (arith, p.types, q.types);
    }

spent_as : {b f v t b' f' v' t' : ℕ} {r r' : Room} → Spent b f v t r r' → b ≡ b' → f ≡ f' → v ≡ v' → t ≡ t' → Spent b' f' v' t' r r'
spent_as p eb ef ev et =
    record {
      bindings = omega (arith, p.bindings);
      buffers = omega (arith, p.buffers);
      variables = omega (arith, p.variables);
      types = omega (arith, p.types);
    }

pub count-append : {N D : Type 0} (xs ys : List (CBufferVariable N D)) → node_count (xs ++ ys) ≡ node_count xs + node_count ys
unfolding node_count
count-append [] ys = omega arith
count-append (x ∷ xs) ys = omega (arith, count-append xs ys)

module _ (chunk edits : Bytes) where
  -- A binding.
  record BindingRead (wide : Bool) (b : ResourceBinding Text) (r r' : Room) : Type 0 where
    held : binding_tests chunk edits wide b ≡ true
    spent : Spent 1 0 0 0 r r'

  pub record BindingsRead (wide : Bool) (bs : List (ResourceBinding Text)) (r r' : Room) : Type 0 where
    pub held : every (binding_tests chunk edits wide) bs ≡ true
    pub spent : Spent (length bs) 0 0 0 r r'

  space_held : (wide : Bool) (a b : ℕ) → zero_unless wide (word_if wide chunk a ∷ word_if wide chunk b ∷ []) ≡ true
  unfolding zero_unless word_if every
  space_held true a b = refl
  space_held false a b = refl

  binding_read : (wide : Bool) (at : ℕ) (r : Room) → Leaves (λ b r'. BindingRead wide b r r') (read_binding chunk wide at r)
  unfolding read_binding binding_from_chunk binding_readable return
  binding_read wide at r =
      let P : ResourceBinding Text → Room → Type 0 = λ b r'. BindingRead wide b r r' in
      binding_leaves P _ r (λ r' taken.
      check_leaves P _ _ _ r' (λ fits.
      check_leaves P _ _ _ r' (λ input_type.
      check_leaves P _ _ _ r' (λ dimension.
      check_leaves P _ _ _ r' (λ flags.
      text_leaves P _ _ _ r' (λ place k named.
      record {
        held = (λ i. string_held chunk edits _ place k named i &&
            (input_type i && (dimension i && (flags i && space_held wide (at + 32) (at + 36) i))));
        spent = taken;
      }))))))

  pub bindings_read : (wide : Bool) (n at : ℕ) (r : Room) → Leaves (λ bs r'. BindingsRead wide bs r r')
      (read_many (read_binding chunk wide) (binding_stride wide) n at r)
  unfolding every
  bindings_read wide n at r =
      many_leaves (BindingRead wide) (BindingsRead wide) (λ r. record { held = refl; spent = none_spent r })
      (λ b bs r r' r'' one others. record {
        held = (λ i. one.held i && others.held i);
        spent = spent_as
            (spent_then 1 0 0 0 (length bs) 0 0 0 one.spent others.spent) (omega arith) refl refl refl;
      })
      (read_binding chunk wide) (binding_read wide) (binding_stride wide) n at r

  -- A variable with its type.
  module _ (bytes : (i : ℕ) → get_or chunk i 0 < 256) (sm5 : Bool) where
    record VariableRead (v : CBufferVariable Text Text) (r r' : Room) : Type 0 where
      held : typed_held chunk edits sm5 v ≡ true
      spent : Spent 0 0 1 (length (nodes_of v.name 0 v.var_type)) r r'

    record VariablesRead (vs : List (CBufferVariable Text Text)) (r r' : Room) : Type 0 where
      held : every (typed_held chunk edits sm5) vs ≡ true
      spent : Spent 0 0 (length vs) (node_count vs) r r'

    variable_read : (at : ℕ) (r : Room) → Leaves (λ v r'. VariableRead v r r') (read_variable chunk sm5 at r)
    unfolding read_variable variable_from_chunk typed_held return
    variable_read at r =
        let P : CBufferVariable Text Text → Room → Type 0 = λ v r'. VariableRead v r r' in
        variable_leaves P _ r (λ r' taken.
        check_leaves P _ _ _ r' (λ fits.
        text_leaves P _ _ _ r' (λ place k default.
        text_leaves P _ _ _ r' (λ name-place n named.
        then_leaves (TypeRead chunk edits sm5 type_levels r') P _ _ r' (type_read_lem chunk edits sm5 bytes type_levels [] (word_at chunk (at + 16)) r') (λ t r'' typed.
        record {
          held =
              (λ i. (string_held chunk edits _ name-place n named i
              && (default_held chunk edits (word_at chunk (at + 20)) (word_at chunk (at + 8)) place k default i && longer_held chunk bytes sm5 (at + 24)
              (at + 28) (at + 32) (at + 36) i))
              && typed.held i);
          spent = spent_as (spent_then 0 0 1 0 0 0 0 _ taken (typed.spent (in_chunk name-place n) 0)) refl refl refl (omega arith);
        })))))

    variables_read : (n at : ℕ) (r : Room) → Leaves (λ vs r'. VariablesRead vs r r') (read_many (read_variable chunk sm5) (variable_stride sm5) n at r)
    unfolding every node_count
    variables_read n at r =
        many_leaves VariableRead VariablesRead (λ r. record { held = refl; spent = none_spent r })
        (λ v vs r r' r'' one others. record {
          held = (λ i. one.held i && others.held i);
          spent = spent_as (spent_then 0 0 1 _ 0 0 (length vs) (node_count vs) one.spent others.spent) refl refl (omega arith) refl;
        })
        (read_variable chunk sm5) variable_read (variable_stride sm5) n at r

    -- A buffer with its variables.
    record BufferRead (b : CBufferDef Text Text) (r r' : Room) : Type 0 where
      named : name_checked chunk edits b.name ≡ true
      held : every (typed_held chunk edits sm5) b.variables ≡ true
      spent : Spent 0 1 (length b.variables) (node_count b.variables) r r'

    pub record BuffersRead (bs : List (CBufferDef Text Text)) (r r' : Room) : Type 0 where
      pub named : every (name_checked chunk edits) (map (λ b. b.name) bs) ≡ true
      pub held : every (typed_held chunk edits sm5) (all_variables bs) ≡ true
      pub spent : Spent 0 (length bs) (length (all_variables bs)) (node_count (all_variables bs)) r r'

    buffer_read : (at : ℕ) (r : Room) → Leaves (λ b r'. BufferRead b r r') (read_buffer chunk sm5 at r)
    unfolding read_buffer buffer_from_chunk return
    buffer_read at r =
        let P : CBufferDef Text Text → Room → Type 0 = λ b r'. BufferRead b r r' in
        buffer_leaves P _ r (λ r' taken.
        check_leaves P _ _ _ r' (λ fits.
        then_leaves (λ vs r''. VariablesRead vs r' r'') P _ _ r' (variables_read (word_at chunk (at + 4)) (word_at chunk (at + 8)) r') (λ vs r'' variables.
        text_leaves P _ _ _ r'' (λ place k named.
        record {
          named = string_held chunk edits _ place k named;
          held = variables.held;
          spent = spent_as (spent_then 0 1 0 0 0 0 (length vs) (node_count vs) taken variables.spent) refl refl (omega arith) (omega arith);
        }))))

    pub buffers_read : (n at : ℕ) (r : Room) → Leaves (λ bs r'. BuffersRead bs r r') (read_many (read_buffer chunk sm5) buffer_stride n at r)
    unfolding every all_variables node_count
    buffers_read n at r =
        many_leaves BufferRead BuffersRead (λ r. record { named = refl; held = refl; spent = none_spent r })
        (λ b bs r r' r'' one others. record {
          named = (λ i. one.named i && others.named i);
          held = every_append (typed_held chunk edits sm5) b.variables (all_variables bs) ∙ (λ i. one.held i && others.held i);
          spent =
              spent_as (spent_then 0 1 _ _ 0 (length bs) _ _ one.spent others.spent) refl (omega arith)
              (sym (length-append b.variables (all_variables bs))) (sym (count-append b.variables (all_variables bs)));
        })
        (read_buffer chunk sm5) buffer_read buffer_stride n at r

-- The RD11 words: none for major 4, allowed ones for major 5.
module _ (chunk : Bytes) where
  abbrev major : ℕ
  major = major_of (word_at chunk 16)

  abbrev VersionRead : Rd11 → Room → Type 0
  VersionRead words r = version_readable (word_at chunk 16) words ≡ true

  -- Allowed words are allowed with the paper's sizes in place of those that a reflection does not hold.
  words_allowed : (identifier header buffer binding variable type member : ℕ) → rd11_allowed identifier header buffer binding variable type member ≡ true
      → rd11_allowed identifier rd11_header_size buffer_stride binding (variable_stride true) (type_stride true) member_stride ≡ true
  unfolding rd11_allowed
  words_allowed identifier header buffer binding variable type member e =
      let known = eqb identifier rd11_identifier || eqb identifier sm51_identifier in
      let bound = eqb binding (binding_stride false) || eqb binding (binding_stride true) in
      let last = eqb variable (variable_stride true) && (eqb type (type_stride true) && eqb member member_stride) in
      let (is_Known, e₁) = and-true known (eqb header rd11_header_size && (eqb buffer buffer_stride && (bound && last))) e in
      let (_, e₂) = and-true (eqb header rd11_header_size) (eqb buffer buffer_stride && (bound && last)) e₁ in
      let (_, e₃) = and-true (eqb buffer buffer_stride) (bound && last) e₂ in
      let (is_bound, _) = and-true bound last e₃ in
      λ i. is_Known i && (is_bound i && true)

  version_read : (eqb major 4 || eqb major 5) ≡ true → (r : Room) → Leaves (λ words r'. VersionRead words r' × (r ≡ r')) (read_rd11 chunk (eqb major 5) r)
  unfolding read_rd11 return version_readable
  version_read known r = go (eqb major 5) refl
    where
      go : (five : Bool) → eqb major 5 ≡ five → Leaves (λ words r'. VersionRead words r' × (r ≡ r')) (read_rd11 chunk five r)
      go true is-five =
          check_leaves (λ words r'. VersionRead words r' × (r ≡ r')) _ _ _ r (λ long.
          check_leaves (λ words r'. VersionRead words r' × (r ≡ r')) _ _ _ r (λ allowed.
          let held = words_allowed (word_at chunk 28) (word_at chunk 32) (word_at chunk 36) (word_at chunk 40) (word_at chunk 44) (word_at chunk 48)
          (word_at chunk 52) allowed in
          ((λ i. is-five i && held i), refl)))
      go false is-five = (sym (ap (λ b. eqb major 4 || b) is-five ∙ or-false (eqb major 4)) ∙ known, refl)

-- A reflection that was read: held, and its records taken from the room.
pub record DefRead (chunk edits : Bytes) (d : ResourceDef Text Text) (r r' : Room) : Type 0 where
  pub short : length chunk ≤ chunk_limit
  pub version : version_readable d.target_version d.rd11 ≡ true
  pub creator : name_checked chunk edits d.creator ≡ true
  pub bindings : every (binding_tests chunk edits (is_wide d.rd11)) d.bindings ≡ true
  pub buffers : every (name_checked chunk edits) (map (λ b. b.name) d.constant_buffers) ≡ true
  pub variables : every (typed_held chunk edits (is_sm5 d.rd11)) (all_variables d.constant_buffers) ≡ true
  pub spent : Spent (length d.bindings) (length d.constant_buffers) (length (all_variables d.constant_buffers))
      (node_count (all_variables d.constant_buffers)) r r'

module _ (chunk edits : Bytes) (bytes : (i : ℕ) → get_or chunk i 0 < 256) where
  tables_read : length chunk ≤ chunk_limit → (creator : Text) → name_checked chunk edits creator ≡ true → (words : Rd11)
      → version_readable (word_at chunk 16) words ≡ true
      → (r : Room) → Leaves (λ d r'. DefRead chunk edits d r r') (read_tables chunk creator words r)
  unfolding read_tables return
  tables_read short creator named words version r =
      let P : ResourceDef Text Text → Room → Type 0 = λ d r'. DefRead chunk edits d r r' in
      then_leaves (λ bs r'. BindingsRead chunk edits (is_wide words) bs r r') P _ _ r (bindings_read chunk edits (is_wide words) _ _ r) (λ bs r' bindings.
      then_leaves (λ fs r''. BuffersRead chunk edits bytes (is_sm5 words) fs r' r'') P _ _ r' (buffers_read chunk edits bytes (is_sm5 words) _ _ r')
      (λ fs r'' buffers.
      record {
        short = short;
        version = version;
        creator = named;
        bindings = bindings.held;
        buffers = buffers.named;
        variables = buffers.held;
        spent =
            spent_as (spent_then (length bs) 0 0 0 0 (length fs) (length (all_variables fs)) (node_count (all_variables fs)) bindings.spent buffers.spent)
            (omega arith) (omega arith) (omega arith) (omega arith);
      }))

  pub chunk_read : (r : Room) → Leaves (λ d r'. DefRead chunk edits d r r') (read_chunk chunk r)
  unfolding read_chunk
  chunk_read r =
      let P : ResourceDef Text Text → Room → Type 0 = λ d r'. DefRead chunk edits d r r' in
      check_leaves P _ _ _ r (λ long.
      check_leaves P _ _ _ r (λ short.
      check_leaves P _ _ _ r (λ known.
      text_leaves P _ _ _ r (λ place k named.
      then_leaves (λ words r'. VersionRead chunk words r' × (r ≡ r')) P _ _ r (version_read chunk known r) (λ words r' version.
      subst (λ left. Leaves P (read_tables chunk (in_chunk place k) words left)) version.1
      (tables_read (leb-true (length chunk) chunk_limit short) (in_chunk place k) (string_held chunk edits _ place k named) words version.0 r))))))
