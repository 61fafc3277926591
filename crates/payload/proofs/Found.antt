-- What reading finds has every text in the chunk, so its contents are the same whatever the text of edits is; and it keeps the room. By the steps of reading:
-- each name and default is a place and a length in the chunk.
use Rattle.reflection.specs.Outcome.{Outcome}
use Rattle.reflection.specs.declared.refusal.Refusal.{Refusal}
use Rattle.text.specs.declared.Span.{Span}
use Rattle.std.specs.Prelude.{Option, None, Ok, Err, Some}
use mathlib.Core.Path.{◌≡◌, refl, subst}
use mathlib.Core.Bool.{Bool}
use mathlib.Core.List.{List, [], ◌∷◌, map}
use Prim.Native.Nat.{ℕ, zero, suc, ◌+◌}
use native.Mathlib.Omega.{arith}
use Rattle.words.specs.Words.{word_at}
use Rattle.reflection.specs.declared.Text.{Text}
use Rattle.reflection.specs.Reflection.{TypeDesc, type_desc, Members, member, Rd11, ResourceBinding, CBufferVariable, CBufferDef, ResourceDef}
use Rattle.reflection.specs.Reflection.{map_type, map_members, map_binding, map_variable, map_buffer, map_def}
use Rattle.reflection.proofs.Equalities.{equal_bindings, equal_variables, equal_buffers, equal_defs}
use Rattle.reflection.specs.Texts.{text_bytes}
use Rattle.reflection.specs.Contents.{Bytes, contents}
use Rattle.tables.specs.Nodes.{type_levels}
use Rattle.read_spec.specs.Step.{Room, room, ReadStep, return, refuse, text_or}
use Rattle.read_spec.specs.Read.{read_many, read_members, numbers_from, read_type, read_variable, variable_from_chunk, variable_stride}
use Rattle.read_spec.specs.Read.{read_binding, binding_from_chunk, read_buffer, buffer_from_chunk, read_tables, read_chunk, without_room, read}
use Rattle.read_spec.proofs.Steps.{Gives, then_gives, any_gives}

module _ (s edits : Bytes) where
  abbrev f : Text → Bytes
  f = text_bytes s []

  abbrev g : Text → Bytes
  g = text_bytes s edits

  -- A text that reading finds.
  text_same : (n : Refusal) (x : Option Span) (r : Room) → Gives (λ t. f t ≡ g t) (text_or n x r)
  unfolding text_or return refuse text_bytes
  text_same n (Some w) r = refl
  text_same n None r = tt

  members_same : (read_type : ℕ → ReadStep (TypeDesc Text)) → ((at : ℕ) (r : Room) → Gives (λ t. map_type f t ≡ map_type g t) (read_type at r))
      → (n at : ℕ) (r : Room) → Gives (λ ms. map_members f ms ≡ map_members g ms) (read_members read_type s n at r)
  unfolding read_members return map_members
  members_same read_type h zero at r = refl
  members_same read_type h (suc n) at r =
      let P : Members Text → Type 0 = λ ms. map_members f ms ≡ map_members g ms in
      any_gives P _ _ (λ _. then_gives (λ t. f t ≡ g t) P _ _ (text_same _ _) (λ name p. then_gives (λ t. map_type f t ≡ map_type g t) P _ _ (h _) (λ t q.
      then_gives P P _ _ (members_same read_type h n _) (λ ms o w. (λ i. member (p i) (word_at s (at + 8)) (q i) (o i)))))) r

  type_same : (sm5 : Bool) (levels : ℕ) (path : List ℕ) (at : ℕ) (r : Room) → Gives (λ t. map_type f t ≡ map_type g t) (read_type s sm5 levels path at r)
  unfolding read_type return refuse map_type
  type_same sm5 zero path at r = tt
  type_same sm5 (suc levels) path at r =
      let P : TypeDesc Text → Type 0 = λ t. map_type f t ≡ map_type g t in
      any_gives P _ _ (λ _. any_gives P _ _ (λ _. any_gives P _ _ (λ _.
      then_gives (λ ms. map_members f ms ≡ map_members g ms) P _ _ (members_same _ (λ below. type_same sm5 levels (at ∷ path) below) _ _) (λ ms o.
      then_gives (λ t. f t ≡ g t) P _ _ (text_same _ _) (λ name p w. (λ i. type_desc (numbers_from s sm5 at) (p i) (o i))))))) r

  many_same : {A B : Type 0} (h k : A → B) (read : ℕ → ReadStep A) → ((at : ℕ) (r : Room) → Gives (λ x. h x ≡ k x) (read at r))
      → (stride n at : ℕ) (r : Room) → Gives (λ xs. map h xs ≡ map k xs) (read_many read stride n at r)
  unfolding read_many return
  many_same h k read each stride zero at r = refl
  many_same h k read each stride (suc n) at r =
      then_gives (λ x. h x ≡ k x) (λ xs. map h xs ≡ map k xs) _ _ (each at) (λ x p.
      then_gives (λ xs. map h xs ≡ map k xs) (λ xs. map h xs ≡ map k xs) _ _ (many_same h k read each stride n (at + stride)) (λ xs o w. (λ i. p i ∷ o i))) r

  variable_same : (sm5 : Bool) (at : ℕ) (r : Room) → Gives (λ v. map_variable f f v ≡ map_variable g g v) (read_variable s sm5 at r)
  unfolding read_variable variable_from_chunk return map_variable
  variable_same sm5 at r =
      let P : CBufferVariable Text Text → Type 0 = λ v. map_variable f f v ≡ map_variable g g v in
      any_gives P _ _ (λ _. any_gives P _ _ (λ _. then_gives (λ t. f t ≡ g t) P _ _ (text_same _ _) (λ default d.
      then_gives (λ t. f t ≡ g t) P _ _ (text_same _ _) (λ name p.
      then_gives (λ t. map_type f t ≡ map_type g t) P _ _ (type_same sm5 type_levels [] _) (λ t q w.
      equal_variables _ _ p refl d q))))) r

  buffer_same : (sm5 : Bool) (at : ℕ) (r : Room) → Gives (λ b. map_buffer f f b ≡ map_buffer g g b) (read_buffer s sm5 at r)
  unfolding read_buffer buffer_from_chunk return map_buffer
  buffer_same sm5 at r =
      let P : CBufferDef Text Text → Type 0 = λ b. map_buffer f f b ≡ map_buffer g g b in
      any_gives P _ _ (λ _. any_gives P _ _ (λ _.
      then_gives (λ vs. map (map_variable f f) vs ≡ map (map_variable g g) vs) P _ _
      (many_same (map_variable f f) (map_variable g g) (read_variable s sm5) (variable_same sm5) (variable_stride sm5) _ _) (λ vs o.
      then_gives (λ t. f t ≡ g t) P _ _ (text_same _ _) (λ name p w. equal_buffers _ _ p refl o)))) r

  binding_same : (wide : Bool) (at : ℕ) (r : Room) → Gives (λ b. map_binding f b ≡ map_binding g b) (read_binding s wide at r)
  unfolding read_binding binding_from_chunk return map_binding
  binding_same wide at r =
      let P : ResourceBinding Text → Type 0 = λ b. map_binding f b ≡ map_binding g b in
      any_gives P _ _ (λ _. any_gives P _ _ (λ _. any_gives P _ _ (λ _. any_gives P _ _ (λ _. any_gives P _ _ (λ _.
      then_gives (λ t. f t ≡ g t) P _ _ (text_same _ _) (λ name p w. equal_bindings _ _ p refl)))))) r

  tables_same : (creator : Text) → f creator ≡ g creator → (words : Rd11) (r : Room)
      → Gives (λ d. contents s [] d ≡ contents s edits d) (read_tables s creator words r)
  unfolding read_tables return contents map_def
  tables_same creator c words r =
      let P : ResourceDef Text Text → Type 0 = λ d. contents s [] d ≡ contents s edits d in
      then_gives (λ bs. map (map_binding f) bs ≡ map (map_binding g) bs) P _ _ (many_same (map_binding f) (map_binding g) _ (binding_same _) _ _ _) (λ bs o.
      then_gives (λ cs. map (map_buffer f f) cs ≡ map (map_buffer g g) cs) P _ _
      (many_same (map_buffer f f) (map_buffer g g) _ (buffer_same _) _ _ _) (λ cs q w.
      equal_defs _ _ refl refl c o q)) r

  chunk_same : (r : Room) → Gives (λ d. contents s [] d ≡ contents s edits d) (read_chunk s r)
  unfolding read_chunk
  chunk_same r =
      let P : ResourceDef Text Text → Type 0 = λ d. contents s [] d ≡ contents s edits d in
      any_gives P _ _ (λ _. any_gives P _ _ (λ _. any_gives P _ _ (λ _. then_gives (λ t. f t ≡ g t) P _ _ (text_same _ _) (λ creator c.
      any_gives P _ _ (λ words. tables_same creator c words))))) r

value_of : {A : Type 0} (P : A → Type 0) (x : Outcome (A × Room)) (a : A) → Gives P x → without_room x ≡ Ok a → P a
value_of P (Ok z) a p e = let same : z.0 ≡ a = cc in subst P same p
value_of P (Err d) a p e = absurd (let apart : ◌≡◌ {A = ℕ} 0 1 = cc in omega arith)

pub found_contents : (room : Room) (s edits : Bytes) (d : ResourceDef Text Text) → read room s ≡ Ok d → contents s [] d ≡ contents s edits d
unfolding read
found_contents room s edits d e = value_of (λ q. contents s [] q ≡ contents s edits q) (read_chunk s room) d (chunk_same s edits room) e
