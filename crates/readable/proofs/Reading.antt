-- EVERYTHING THAT IS READ IS READABLE, in the tables that reading leaves too: what reading tests, and the room that it keeps to, is what readable asks for; and
-- decoding the tables gives what was read.
use Rattle.std.specs.Prelude.{Ok, Some}
use mathlib.Core.Path.{◌≡◌, refl, sym, ap, ◌∙◌}
use mathlib.Core.Bool.{Bool, true, ◌&&◌}
use mathlib.Core.List.{List, [], ◌∷◌}
use Prim.Native.Nat.{ℕ, zero, suc, ◌≤◌, ◌<◌}
use native.Mathlib.Omega.{arith}
use borrow.Author.Tests.{eqb-true, ne_eqb, le-leb}
use lib.Dec.{eqb, leb}
use lib.ListN.{length, get_or}
use Rattle.text.proofs.Bools.{and-true}
use Rattle.reflection.specs.Limits.{binding_room, buffer_room, variable_room, type_room, chunk_limit}
use Rattle.reflection.specs.declared.Text.{Text}
use Rattle.reflection.specs.Reflection.{TypeDesc, type_desc, Members, no_member, member, CBufferVariable, ResourceDef, Rd11, no_rd11, rd11}
use Rattle.reflection.specs.Reflection.{member_count}
use Rattle.reflection.specs.Reflection.{major_of, is_sm5, identifier_of, stride_of, slots_of}
use Rattle.tables.specs.Nodes.{type_levels}
use Rattle.tables.proofs.Levels.{Fits, FitsAll}
use Rattle.tables.specs.Tables.{padded, binding_rows, buffer_rows, variable_rows, type_rows, header_of}
use Rattle.reflection.specs.Reflection.{all_variables}
use Rattle.tables.specs.Decode.{guard}
use Rattle.reflection.specs.Rd11.{rd11_from_header}
use Rattle.tables.proofs.Levels.{TypesFit}
use Rattle.tables.proofs.Nodes.{then_some}
use Rattle.tables.proofs.Decode.{rd11_of, rd11_of_header, decode_encoded}
use Rattle.reflection.specs.Contents.{Bytes, contents}
use Rattle.read_spec.specs.Step.{Room, room_of}
use Rattle.read_spec.specs.Read.{read_chunk, read}
use Rattle.readable.specs.Readable.{every, zero_unless, version_readable, numbers_readable, node_count, room_kept, readable_contents, rd11_absent}
use Rattle.readable.specs.Readable.{texts_in_place, table_contents, is_readable, readable}
use Rattle.readable.specs.Checks.{name_checked, default_checked}
use Rattle.readable.proofs.TypeTests.{type_held, members_held}
use Rattle.readable.proofs.Parts.{typed_held, tests, tests_by_part_lem}
use Rattle.readable.proofs.Leaves.{value_left}
use Rattle.readable.proofs.ReadTables.{DefRead, chunk_read}

-- Room for at most what document 01 allows.
pub record AtMostFull (r : Room) : Type 0 where
  pub bindings : r.bindings ≤ binding_room
  pub buffers : r.buffers ≤ buffer_room
  pub variables : r.variables ≤ variable_room
  pub types : r.types ≤ type_room

-- The room of lent tables is.
pub tables_at_most_full : (b f v t : ℕ) → AtMostFull (room_of b f v t)
unfolding room_of
tables_at_most_full b f v t = record { bindings = omega arith; buffers = omega arith; variables = omega arith; types = omega arith }

-- Types that are held have no more levels than they may.
module _ (chunk edits : Bytes) (sm5 : Bool) where
  mutual
    unfolding type_held members_held Fits FitsAll

    held_fits : (t : TypeDesc Text) (levels : ℕ) → type_held chunk edits sm5 t levels ≡ true → Fits t levels
    held_fits (type_desc k n ms) zero e = absurd (let apart : ◌≡◌ {A = ℕ} 0 1 = cc in omega arith)
    held_fits (type_desc k n ms) (suc levels) e =
        held_fits_all ms levels
        (and-true (numbers_readable sm5 k && (leb (member_count ms) 65535 && (zero_unless sm5 (n.length ∷ []) && name_checked chunk edits n)))
        (members_held chunk edits sm5 ms levels) e).1

    held_fits_all : (ms : Members Text) (levels : ℕ) → members_held chunk edits sm5 ms levels ≡ true → FitsAll ms levels
    held_fits_all no_member levels e = tt
    held_fits_all (member n o t ms) levels e =
        let (first, others) = and-true (type_held chunk edits sm5 t levels && name_checked chunk edits n) (members_held chunk edits sm5 ms levels) e in
        (held_fits t levels (and-true (type_held chunk edits sm5 t levels) (name_checked chunk edits n) first).0, held_fits_all ms levels others)

  types_fit : (vs : List (CBufferVariable Text Text)) → every (typed_held chunk edits sm5) vs ≡ true → TypesFit vs
  unfolding every typed_held TypesFit
  types_fit [] e = tt
  types_fit (v ∷ vs) e =
      let (first, others) = and-true (typed_held chunk edits sm5 v) (every (typed_held chunk edits sm5) vs) e in
      let own =
      name_checked chunk edits v.name
      && (default_checked chunk edits v.size v.default-value && zero_unless sm5
      (v.texture_start ∷ v.texture_size ∷ v.sampler_start ∷ v.sampler_size ∷ [])) in
      (held_fits v.var_type type_levels (and-true own (type_held chunk edits sm5 v.var_type type_levels) first).1, types_fit vs others)

-- A header has the RD11 words of its reflection, where the version is readable.
words_of_version : (version : ℕ) (words : Rd11) → version_readable version words ≡ true → words ≡ rd11_of (eqb (major_of version) 5) words
unfolding version_readable
words_of_version version no_rd11 e =
    let four : major_of version ≡ 4 = eqb-true (major_of version) 4 e in
    sym (ap (λ b. rd11_of b no_rd11) (ne_eqb (major_of version) 5 (λ five. omega arith)))
words_of_version version (rd11 identifier stride slots) e = sym (ap (λ b. rd11_of b (rd11 identifier stride slots)) (and-true (eqb (major_of version) 5) _ e).0)

header_words : (d : ResourceDef Text Text) → version_readable d.target_version d.rd11 ≡ true → d.rd11 ≡ rd11_from_header (header_of d)
header_words d e = words_of_version d.target_version d.rd11 e ∙ sym (rd11_of_header d (eqb (major_of d.target_version) 5) refl)

abbrev three_words : Rd11 → List ℕ
three_words words = identifier_of words ∷ stride_of words ∷ slots_of words ∷ []

zero_without : (words : Rd11) → zero_unless (is_sm5 words) (three_words words) ≡ true
unfolding zero_unless every
zero_without no_rd11 = refl
zero_without (rd11 identifier stride slots) = refl

absent_of_header : (d : ResourceDef Text Text) → version_readable d.target_version d.rd11 ≡ true → rd11_absent (header_of d) ≡ true
unfolding rd11_absent header_of
absent_of_header d e = ap (λ words. zero_unless (is_sm5 words) (three_words d.rd11)) (sym (header_words d e)) ∙ zero_without d.rd11

room_kept_lem : (chunk edits : Bytes) (d : ResourceDef Text Text) (r r' : Room) → AtMostFull r → DefRead chunk edits d r r' → room_kept d ≡ true
unfolding room_kept
room_kept_lem chunk edits d r r' full is =
    let vs = all_variables d.constant_buffers in
    (λ i. le-leb (length d.bindings) binding_room (omega (arith, full.bindings, is.spent.bindings)) i
    && (le-leb (length d.constant_buffers) buffer_room (omega (arith, full.buffers, is.spent.buffers)) i
    && (le-leb (length vs) variable_room (omega (arith, full.variables, is.spent.variables)) i && le-leb (node_count vs) type_room
    (omega (arith, full.types, is.spent.types)) i)))

-- A chunk of bytes that reads as d, in room that is at most the full room; the text of edits is any, since all texts lie in the chunk.
module _
    (chunk edits : Bytes)
    (bytes : (i : ℕ) → get_or chunk i 0 < 256)
    (room : Room)
    (full : AtMostFull room)
    (d : ResourceDef Text Text)
    (reads : read room chunk ≡ Ok d) where
  was_read : (r : Room) × DefRead chunk edits d room r
  unfolding read
  was_read = value_left (λ y r. DefRead chunk edits y room r) (read_chunk chunk room) d (chunk_read chunk edits bytes room) reads

  read_tests : tests chunk edits d ≡ true
  read_tests =
      let is : DefRead chunk edits d room was_read.0 = was_read.1 in
      tests_by_part_lem chunk edits d
      ∙ (λ i. ((is.version i && is.creator i) && is.bindings i) && (is.buffers i &&
      (is.variables i && room_kept_lem chunk edits d room was_read.0 full is i)))

  -- The contents of what was read are readable, and its texts lie in the chunk.
  pub read_contents : readable_contents (contents chunk edits d) ≡ true
  read_contents = (and-true (texts_in_place chunk edits d) (readable_contents (contents chunk edits d)) read_tests).1

  pub read_in_place : texts_in_place chunk edits d ≡ true
  read_in_place = (and-true (texts_in_place chunk edits d) (readable_contents (contents chunk edits d)) read_tests).0

  module _ (edits_short : length edits ≤ chunk_limit) (nb nf nv nt : ℕ) where
    -- The tables that reading leaves hold it.
    pub read_held : table_contents chunk edits (header_of d) (padded nb (binding_rows d)) (padded nf (buffer_rows d)) (padded nv (variable_rows d))
        (padded nt (type_rows d)) ≡ Some (contents chunk edits d)
    unfolding table_contents guard
    read_held =
        let is : DefRead chunk edits d room was_read.0 = was_read.1 in
        then_some _ (ap guard (λ i. le-leb (length chunk) chunk_limit is.short i && le-leb (length edits) chunk_limit edits_short i))
        (then_some _ (ap guard (absent_of_header d is.version))
        (then_some _ (decode_encoded d nb nf nv nt (types_fit chunk edits (is_sm5 d.rd11) (all_variables d.constant_buffers) is.variables)
        (header_words d is.version))
        (then_some _ (ap guard read_in_place) refl)))

    -- So they are readable.
    pub read_readable : readable chunk edits (header_of d) (padded nb (binding_rows d)) (padded nf (buffer_rows d)) (padded nv (variable_rows d))
        (padded nt (type_rows d)) ≡ true
    unfolding readable
    read_readable = ap is_readable read_held ∙ read_contents
