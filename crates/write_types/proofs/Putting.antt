-- The end of a type: its members' records and its descriptor. What the code puts is what the steps append, since a word's four bytes are those of the number
-- that it is.
use mathlib.Core.Path.{◌≡◌, sym, subst}
use mathlib.Core.Bool.{Bool, true, false}
use mathlib.Core.List.{List, [], ◌∷◌, ◌++◌}
use Prim.Native.Nat.{ℕ, ◌+◌, ◌*◌, ◌/◌, ◌%◌, ◌≤◌}
use native.Mathlib.Omega.{arith}
use lib.ListN.{length, replicate, length-replicate}
use Rattle.words.specs.Words.{word_bytes}
use Rattle.words.specs.Splice.{Put}
use Rattle.words.proofs.Splice.{put_then}
use Rattle.reflection.specs.declared.TypeDesc.{TypeDesc as TypeRecord}
use Rattle.reflection.specs.Reflection.{TypeNumbers}
use Rattle.tables.specs.Decode.{node_from_table}
use Rattle.write_spec.specs.Step.{◌>>=◌, append, pad, padding_at, word_cells}
use Rattle.write_spec.specs.Records.{halves, type_words_in_chunk}
use Rattle.write_texts.specs.Bytes.{joined_bytes}
use Rattle.write_texts.specs.Cursor.{Placement}
use Rattle.write_texts.specs.Scratch.{member_width}
use Rattle.write_texts.proofs.CellBytes.{length_joined, joined_append}
use Rattle.write_texts.proofs.Stores.{padding_short}
use Rattle.write_texts.proofs.Runs.{ran_bind, ran_pad, ran_append_words, ran_empty, ran_unless_empty}
use Rattle.write_types.specs.Writing.{append_records, close_type}
use Rattle.write_types.specs.TypePlaced.{RecordsPut, TypePut}

-- The four bytes of a number are those of what is left of it in a word.
pub word_cut : (n : ℕ) → word_bytes (n % 4294967296) ≡ word_bytes n
unfolding word_bytes
word_cut n =
    let d0 : n ≡ n % 4294967296 + 4294967296 * (n / 4294967296) = omega arith in
    let d1 : n / 256 ≡ n % 4294967296 / 256 + 16777216 * (n / 4294967296) = omega (arith, d0) in
    let d2 : n / 256 / 256 ≡ n % 4294967296 / 256 / 256 + 65536 * (n / 4294967296) = omega (arith, d1) in
    let d3 : n / 256 / 256 / 256 ≡ n % 4294967296 / 256 / 256 / 256 + 256 * (n / 4294967296) = omega (arith, d2) in
    let d4 : n / 256 / 256 / 256 / 256 ≡ n % 4294967296 / 256 / 256 / 256 / 256 + n / 4294967296 = omega (arith, d3) in
    let e0 : n % 4294967296 % 256 ≡ n % 256 = omega (arith, d0, d1) in
    let e1 : n % 4294967296 / 256 % 256 ≡ n / 256 % 256 = omega (arith, d1, d2) in
    let e2 : n % 4294967296 / 256 / 256 % 256 ≡ n / 256 / 256 % 256 = omega (arith, d2, d3) in
    let e3 : n % 4294967296 / 256 / 256 / 256 % 256 ≡ n / 256 / 256 / 256 % 256 = omega (arith, d3, d4) in
    λ i. e0 i ∷ e1 i ∷ e2 i ∷ e3 i ∷ []

-- Padding moves the cursor by at most three bytes.
pub padding_near : {out out' : List ℕ} {at to : ℕ} → Put out at (replicate (padding_at at) 0xab) out' to → to ≤ at + 3
padding_near {at = at} p = omega (arith, p.next, length-replicate {A = ℕ} (padding_at at) 0xab, padding_short at)

pub words_near : (ws : List ℕ) {out out' : List ℕ} {at to : ℕ} → Put out at (joined_bytes ws) out' to → to ≡ at + 4 * length ws
words_near ws p = omega (arith, p.next, length_joined ws)

-- A descriptor has at most nine words.
pub descriptor_length : (sm5 : Bool) (k : TypeNumbers) (count members name : ℕ) → length (type_words_in_chunk sm5 k count members name) ≤ 9
unfolding type_words_in_chunk
descriptor_length true k count members name = omega arith
descriptor_length false k count members name = omega arith

-- The words that the code makes of a node, and those of the descriptor.
module _ (node : TypeRecord) (count members name kind shape counts : ℕ)
    (is-kind : word_bytes kind ≡ word_bytes (halves node.class node.var_type))
    (is-shape : word_bytes shape ≡ word_bytes (halves node.rows node.columns))
    (is-counts : word_bytes counts ≡ word_bytes (halves node.elements count)) where
  first_words : joined_bytes (kind ∷ shape ∷ counts ∷ members ∷ [])
      ≡ joined_bytes (halves node.class node.var_type ∷ halves node.rows node.columns ∷ halves node.elements count ∷ members ∷ [])
  unfolding joined_bytes
  first_words = λ i. is-kind i ++ (is-shape i ++ (is-counts i ++ (word_bytes members ++ [])))

  pub short_descriptor : {sm5 : Bool} {out out' : List ℕ} {at to : ℕ} → sm5 ≡ false → Put out at (joined_bytes (kind ∷ shape ∷ counts ∷ members ∷ [])) out' to
      → Put out at (joined_bytes (type_words_in_chunk sm5 (node_from_table node).numbers count members name)) out' to
  unfolding type_words_in_chunk node_from_table
  short_descriptor {sm5} {out} {out'} {at} {to} e p =
      subst (λ b. Put out at (joined_bytes (type_words_in_chunk b (node_from_table node).numbers count members name)) out' to) (sym e)
      (subst (λ bytes. Put out at bytes out' to) first_words p)

  pub long_descriptor : {sm5 : Bool} {out out₁ out' : List ℕ} {at to₁ to : ℕ} → sm5 ≡ true
      → Put out at (joined_bytes (kind ∷ shape ∷ counts ∷ members ∷ [])) out₁ to₁
      → Put out₁ to₁ (joined_bytes (node.extra0 ∷ node.extra1 ∷ node.extra2 ∷ node.extra3 ∷ name ∷ [])) out' to
      → Put out at (joined_bytes (type_words_in_chunk sm5 (node_from_table node).numbers count members name)) out' to
  unfolding type_words_in_chunk node_from_table
  long_descriptor {sm5} {out} {out₁} {out'} {at} {to₁} {to} e p q =
      subst (λ b. Put out at (joined_bytes (type_words_in_chunk b (node_from_table node).numbers count members name)) out' to) (sym e)
      (subst (λ bytes. Put out at bytes out' to)
      (sym (joined_append (halves node.class node.var_type ∷ halves node.rows node.columns ∷ halves node.elements count ∷ members ∷ [])
      (node.extra0 ∷ node.extra1 ∷ node.extra2 ∷ node.extra3 ∷ name ∷ [])))
      (put_then (subst (λ bytes. Put out at bytes out₁ to₁) first_words p) q))

-- No members: nothing is written.
pub records_none : (records out : List ℕ) (at : ℕ) → length records ≡ 0 → RecordsPut records at out out (record { offset = 0; at = at })
unfolding append_records
records_none records out at e = record {
  ran = λ chunk edits ps count long. ran_empty chunk edits count (pad >>= (λ _. append (word_cells records))) at ps out (omega (arith, e, long));
  near = omega arith;
}

pub records_some : (records : List ℕ) {out out₁ out₂ : List ℕ} {at start end : ℕ} → (length records ≡ 0 → ⊥)
    → Put out at (replicate (padding_at at) 0xab) out₁ start → Put out₁ start (joined_bytes records) out₂ end
    → RecordsPut records at out out₂ (record { offset = start; at = end })
unfolding append_records
records_some records some p q = record {
  ran = λ chunk edits ps count long.
      ran_unless_empty chunk edits count (λ e. some (omega (arith, e, long)))
      (ran_bind chunk edits _ (ran_pad chunk edits p) (ran_append_words chunk edits records q));
  near = omega (arith, padding_near p, words_near records q);
}

-- The records, padding, and the descriptor.
pub type_put : (sm5 : Bool) (k : TypeNumbers) (name n : ℕ) (records : List ℕ) {out out₁ out₂ out₃ : List ℕ} {at start end : ℕ} {members : Placement}
    → ((count : ℕ) → length records ≡ member_width * count → n ≡ count)
    → RecordsPut records at out out₁ members → Put out₁ members.at (replicate (padding_at members.at) 0xab) out₂ start
    → Put out₂ start (joined_bytes (type_words_in_chunk sm5 k n members.offset name)) out₃ end
    → TypePut sm5 k name records at out out₃ (record { offset = start; at = end })
unfolding close_type
type_put sm5 k name n records {out₂ = out₂} {out₃} {at} {start} {end} {members} is_count r p q = record {
  ran = λ chunk edits ps count long.
      ran_bind chunk edits _ (r.ran chunk edits ps count long)
      (ran_bind chunk edits _ (ran_pad chunk edits p)
      (ran_append_words chunk edits (type_words_in_chunk sm5 k count members.offset name)
      (subst (λ m. Put out₂ start (joined_bytes (type_words_in_chunk sm5 k m members.offset name)) out₃ end) (is_count count long) q)));
  near =
      omega (
        arith,
        r.near,
        padding_near p,
        words_near (type_words_in_chunk sm5 k n members.offset name) q,
        descriptor_length sm5 k n members.offset name,
      );
}
