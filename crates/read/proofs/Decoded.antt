-- Decoding what `parse_rdef` left gives exactly what was read. Decoding undoes encoding where every type has at most 65 levels, which reading sees to, level
-- by level, and where there are RD11 words exactly for major 5, by which reading goes.
use Rattle.reflection.specs.Outcome.{Outcome}
use Rattle.std.specs.Prelude.{Ok, Err, Some}
use mathlib.Core.Path.{◌≡◌, refl, sym, subst, ◌∙◌}
use mathlib.Core.Bool.{Bool, true, false}
use mathlib.Core.List.{List, [], ◌∷◌, ◌++◌}
use Prim.Native.Nat.{ℕ, zero, suc, ◌+◌}
use native.Mathlib.Omega.{arith}
use lib.Dec.{eqb}
use Rattle.words.specs.Words.{word_at}
use Rattle.reflection.specs.Strides.{buffer_stride}
use Rattle.reflection.specs.declared.Text.{Text}
use Rattle.reflection.specs.declared.ResourceDef.{ResourceDef as Header}
use Rattle.reflection.specs.Reflection.{TypeDesc, Rd11, CBufferVariable, ResourceDef, major_of}
use Rattle.tables.specs.Nodes.{type_levels}
use Rattle.tables.proofs.Levels.{Fits, FitsAll}
use Rattle.tables.specs.Tables.{header_of}
use Rattle.reflection.specs.Reflection.{all_variables}
use Rattle.tables.specs.Decode.{decode}
use Rattle.reflection.specs.Rd11.{rd11_from_header}
use Rattle.tables.proofs.Levels.{TypesFit}
use Rattle.tables.proofs.Decode.{rd11_of, rd11_of_header, decode_encoded}
use Rattle.read_spec.specs.Step.{Room, ReadStep, return, refuse}
use Rattle.read_spec.specs.Read.{read_many, read_members, read_type, read_variable, variable_from_chunk, variable_stride, read_buffer}
use Rattle.read_spec.specs.Read.{buffer_from_chunk}
use Rattle.read_spec.specs.Read.{read_rd11, read_tables, read_chunk, without_room, read}
use Rattle.read_spec.proofs.Steps.{Gives, then_gives, any_gives}
use Rattle.read.specs.Parsed.{read_into}
use Rattle.read.proofs.Held.{Held}

-- What holds of a list, element by element.
many_gives : {A : Type 0} (Q : A → Type 0) (P : List A → Type 0) → P [] → ((x : A) (xs : List A) → Q x → P xs → P (x ∷ xs))
    → (read : ℕ → ReadStep A) → ((at : ℕ) (r : Room) → Gives Q (read at r)) → (stride n at : ℕ) (r : Room) → Gives P (read_many read stride n at r)
unfolding read_many return
many_gives Q P none more read h stride zero at r = none
many_gives Q P none more read h stride (suc n) at r =
    then_gives Q P _ _ (h at) (λ x q. then_gives P P _ _ (many_gives Q P none more read h stride n (at + stride)) (λ xs p w. more x xs q p)) r

-- Types have at most as many levels as were left.
members_fit : (levels : ℕ) (read_type : ℕ → ReadStep (TypeDesc Text)) → ((at : ℕ) (r : Room) → Gives (λ t. Fits t levels) (read_type at r))
    → (s : List ℕ) (n at : ℕ) (r : Room) → Gives (λ ms. FitsAll ms levels) (read_members read_type s n at r)
unfolding read_members return FitsAll
members_fit levels read_type h s zero at r = tt
members_fit levels read_type h s (suc n) at r =
    any_gives (λ ms. FitsAll ms levels) _ _ (λ _. any_gives (λ ms. FitsAll ms levels) _ _
    (λ name. then_gives (λ t. Fits t levels) (λ ms. FitsAll ms levels) _ _ (h _) (λ t fits.
    then_gives (λ ms. FitsAll ms levels) (λ ms. FitsAll ms levels) _ _ (members_fit levels read_type h s n _) (λ ms all w. (fits, all))))) r

type_fits : (s : List ℕ) (sm5 : Bool) (levels : ℕ) (path : List ℕ) (at : ℕ) (r : Room) → Gives (λ t. Fits t levels) (read_type s sm5 levels path at r)
unfolding read_type return refuse Fits
type_fits s sm5 zero path at r = tt
type_fits s sm5 (suc levels) path at r =
    any_gives (λ t. Fits t (suc levels)) _ _ (λ _. any_gives (λ t. Fits t (suc levels)) _ _ (λ _. any_gives (λ t. Fits t (suc levels)) _ _ (λ _.
    then_gives (λ ms. FitsAll ms levels) (λ t. Fits t (suc levels)) _ _
    (members_fit levels _ (λ below. type_fits s sm5 levels (at ∷ path) below) s _ _) (λ ms all.
    any_gives (λ t. Fits t (suc levels)) _ _ (λ name w. all))))) r

variable_fits : (s : List ℕ) (sm5 : Bool) (at : ℕ) (r : Room) → Gives (λ v. Fits v.var_type type_levels) (read_variable s sm5 at r)
unfolding read_variable variable_from_chunk return
variable_fits s sm5 at r =
    any_gives (λ v. Fits v.var_type type_levels) _ _ (λ _. any_gives (λ v. Fits v.var_type type_levels) _ _ (λ _.
    any_gives (λ v. Fits v.var_type type_levels) _ _ (λ default. any_gives (λ v. Fits v.var_type type_levels) _ _ (λ name.
    then_gives (λ t. Fits t type_levels) (λ v. Fits v.var_type type_levels) _ _ (type_fits s sm5 type_levels [] _) (λ t fits w. fits))))) r

buffer_fits : (s : List ℕ) (sm5 : Bool) (at : ℕ) (r : Room) → Gives (λ b. TypesFit b.variables) (read_buffer s sm5 at r)
unfolding read_buffer buffer_from_chunk return TypesFit
buffer_fits s sm5 at r =
    any_gives (λ b. TypesFit b.variables) _ _ (λ _. any_gives (λ b. TypesFit b.variables) _ _ (λ _.
    then_gives TypesFit (λ b. TypesFit b.variables) _ _
    (many_gives (λ v. Fits v.var_type type_levels) TypesFit tt (λ v vs fits all. (fits, all)) (read_variable s sm5) (variable_fits s sm5)
    (variable_stride sm5) _ _)
    (λ vs all. any_gives (λ b. TypesFit b.variables) _ _ (λ name w. all)))) r

fit_append : (xs ys : List (CBufferVariable Text Text)) → TypesFit xs → TypesFit ys → TypesFit (xs ++ ys)
unfolding TypesFit
fit_append [] ys p q = q
fit_append (x ∷ xs) ys p q = (p.0, fit_append xs ys p.1 q)

buffers_fit : (s : List ℕ) (sm5 : Bool) (n at : ℕ) (r : Room) → Gives (λ bs. TypesFit (all_variables bs)) (read_many (read_buffer s sm5) buffer_stride n at r)
unfolding all_variables TypesFit
buffers_fit s sm5 n at r =
    many_gives (λ b. TypesFit b.variables) (λ bs. TypesFit (all_variables bs)) tt (λ b bs own others. fit_append b.variables (all_variables bs) own others)
    (read_buffer s sm5) (buffer_fits s sm5) buffer_stride n at r

module _ (s : List ℕ) where
  abbrev major : ℕ
  major = major_of (word_at s 16)

  abbrev OfMajor : Rd11 → Type 0
  OfMajor words = words ≡ rd11_of (eqb major 5) words

  rd11_of_major : (r : Room) → Gives OfMajor (read_rd11 s (eqb major 5) r)
  unfolding read_rd11 return
  rd11_of_major r = go (eqb major 5) refl
    where
      go : (five : Bool) → eqb major 5 ≡ five → Gives OfMajor (read_rd11 s five r)
      go true is-five = any_gives OfMajor _ _ (λ _. any_gives OfMajor _ _ (λ _ w. rw is-five)) r
      go false is-five = rw is-five

-- What decoding asks of a reflection.
pub record Decodable (d : ResourceDef Text Text) : Type 0 where
  pub fits : TypesFit (all_variables d.constant_buffers)
  pub words : d.rd11 ≡ rd11_from_header (header_of d)

tables_decodable : (s : List ℕ) (creator : Text) (words : Rd11) → OfMajor s words → (r : Room) → Gives Decodable (read_tables s creator words r)
unfolding read_tables return
tables_decodable s creator words h r =
    any_gives Decodable _ _ (λ bs. then_gives (λ fs. TypesFit (all_variables fs)) Decodable _ _ (buffers_fit s _ _ _)
    (λ fs all w. record { fits = all; words = h ∙ sym (rd11_of_header _ (eqb (major s) 5) refl) })) r

chunk_decodable : (s : List ℕ) (r : Room) → Gives Decodable (read_chunk s r)
unfolding read_chunk
chunk_decodable s r =
    any_gives Decodable _ _ (λ _. any_gives Decodable _ _ (λ _. any_gives Decodable _ _ (λ _. any_gives Decodable _ _ (λ creator.
    then_gives (OfMajor s) Decodable _ _ (rd11_of_major s) (λ words h. tables_decodable s creator words h))))) r

value_of : {A : Type 0} (P : A → Type 0) (x : Outcome (A × Room)) (a : A) → Gives P x → without_room x ≡ Ok a → P a
value_of P (Ok z) a p e = let same : z.0 ≡ a = cc in subst P same p
value_of P (Err d) a p e = absurd (let apart : ◌≡◌ {A = ℕ} 0 1 = cc in omega arith)

pub read_decodable : (room : Room) (s : List ℕ) (d : ResourceDef Text Text) → read room s ≡ Ok d → Decodable d
unfolding read
read_decodable room s d e = value_of Decodable (read_chunk s room) d (chunk_decodable s room) e

-- What a caller of `parse_rdef` was handed decodes as what was read.
pub decoded : (chunk b f v t : List ℕ) {nb nf nv nt : ℕ} {h : Header} {bindings buffers variables types : List ℕ}
    → (held : Held (read_into chunk b f v t) nb nf nv nt h bindings buffers variables types) → decode h bindings buffers variables types ≡ Some held.def
unfolding read_into
decoded chunk b f v t {nb} {nf} {nv} {nt} held =
    let d = held.def in
    let ready : Decodable d = read_decodable _ chunk d held.is in
    (λ i. decode (held.header i) (held.in_bindings i) (held.in_buffers i) (held.in_variables i) (held.in_types i))
    ∙ decode_encoded d nb nf nv nt ready.fits ready.words
