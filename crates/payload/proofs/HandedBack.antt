-- THE PAYLOAD hands back a part that reads as the reflection, and for a chunk as it was read that part is the chunk itself. A chunk that is handed back was
-- compared with what it reads as; what is written is the canonical form, of which the round trip holds.
use Rattle.reflection.specs.Outcome.{Outcome}
use Rattle.reflection.specs.declared.refusal.Refusal.TheVariants.{NotReadable, OutputTooSmall}
use Rattle.std.specs.Prelude.{Ok, Err, Option, None, Some}
use mathlib.Core.Path.{◌≡◌, refl, sym, ap, subst, ◌∙◌}
use mathlib.Core.Bool.{Bool, true, false, cond}
use mathlib.Core.List.{List, []}
use Prim.Native.Nat.{ℕ, ◌+◌, ◌≤◌, ◌<◌, min}
use native.Mathlib.Omega.{arith}
use borrow.Author.Tests.{leb-true, le-leb}
use lib.Dec.{leb}
use lib.ListN.{length, get_or, take, drop}
use lib.Seq.{take_all, take-append-le}
use Rattle.words.specs.Parts.{inside, part}
use Rattle.words.specs.Splice.{splice}
use Rattle.words.proofs.Splice.{length_splice, splice_eq}
use Rattle.text.specs.Same.{same_bytes}
use Rattle.reflection.specs.Limits.{chunk_limit}
use Rattle.reflection.specs.declared.Text.{Text}
use Rattle.reflection.specs.declared.ResourceDef.{ResourceDef as Header}
use Rattle.reflection.specs.Reflection.{ResourceDef}
use Rattle.tables.specs.Tables.{padded, binding_rows, buffer_rows, variable_rows, type_rows, header_of}
use Rattle.reflection.specs.Contents.{Bytes, contents}
use Rattle.read_spec.specs.Step.{Room, room_of, full_room}
use Rattle.read_spec.specs.Read.{read}
use Rattle.readable.specs.Readable.{table_contents, readable_contents}
use Rattle.readable.proofs.Reading.{AtMostFull, tables_at_most_full, read_contents, read_held}
use Rattle.read.specs.Parsed.{read_into}
use Rattle.read.proofs.Held.{Held}
use Rattle.text_output.specs.Written.{fits_in, fitting}
use Rattle.write_spec.specs.Same.{same_def}
use Rattle.write_spec.specs.Canonical.{canonical}
use Rattle.write_spec.specs.Payload.{Part, whole_chunk, written, handed_back, read_as, unedited, as_part, payload_of, payload}
use Rattle.theorem_round_trip.specs.RoundTrip.{NumbersAreWords}
use Rattle.theorem_round_trip.proofs.RoundTrip.{round_trip}
use Rattle.theorem_round_trip.proofs.HeldWords.{WordTable, HeaderWords, held_words}
use Rattle.payload.specs.Answer.{payload_answer, payload_output, payload_part}
use Rattle.payload.specs.ReadsBack.{ReadsBack}
use Rattle.payload.proofs.Found.{found_contents}
use Rattle.payload.proofs.Wider.{read_wider}
use Rattle.payload.proofs.Equal.{same_def_equal, same_def_refl}

-- A chunk that reads as d, in room that is at most the whole room: the payload of the tables that reading leaves is the chunk, whatever the text of edits
-- and the output are.
module _
    (out : ℕ)
    (chunk edits : Bytes)
    (bytes : (i : ℕ) → get_or chunk i 0 < 256)
    (short : length edits ≤ chunk_limit)
    (r : Room)
    (full : AtMostFull r)
    (d : ResourceDef Text Text)
    (reads : read r chunk ≡ Ok d) where
  in_full_room : read full_room chunk ≡ Ok d
  in_full_room =
      read_wider chunk r full_room
      (record { bindings = full.bindings; buffers = full.buffers; variables = full.variables; types = full.types }) d reads

  as_read : unedited chunk (contents chunk edits d) ≡ true
  unfolding unedited
  as_read =
      ap (λ (o : Outcome (ResourceDef Text Text)). read_as chunk o (contents chunk edits d)) in_full_room
      ∙ ap (λ (c : ResourceDef Bytes Bytes). same_def same_bytes same_bytes c (contents chunk edits d)) (found_contents full_room chunk edits d in_full_room)
      ∙ same_def_refl (contents chunk edits d)

  pub unedited_hands_chunk : (nb nf nv nt : ℕ)
      → payload out chunk
      (table_contents chunk edits (header_of d) (padded nb (binding_rows d)) (padded nf (buffer_rows d))
      (padded nv (variable_rows d)) (padded nt (type_rows d)))
      ≡ Ok whole_chunk
  unfolding payload payload_of
  unedited_hands_chunk nb nf nv nt =
      ap (payload out chunk) (read_held chunk edits bytes r full d reads short nb nf nv nt)
      ∙ (λ i. cond (read_contents chunk edits bytes r full d reads i)
      (cond (as_read i) (Ok whole_chunk) (as_part (fitting out (Ok (canonical (contents chunk edits d)))))) (Err NotReadable))

-- So of what `parse_rdef` left in the tables that it was lent, of whatever length they are.
pub read_hands_chunk : (out : ℕ) (chunk edits : Bytes) → ((i : ℕ) → get_or chunk i 0 < 256) → length edits ≤ chunk_limit
    → (b f v t : List ℕ) {nb nf nv nt : ℕ} {h : Header} {bindings buffers variables types : List ℕ}
    → Held (read_into chunk b f v t) nb nf nv nt h bindings buffers variables types
    → payload out chunk (table_contents chunk edits h bindings buffers variables types) ≡ Ok whole_chunk
unfolding read_into
read_hands_chunk out chunk edits bytes short b f v t {nb} {nf} {nv} {nt} found =
    let lent = tables_at_most_full (length b) (length f) (length v) (length t) in
    (λ i. payload out chunk
    (table_contents chunk edits (found.header i) (found.in_bindings i) (found.in_buffers i) (found.in_variables i) (found.in_types i)))
    ∙ unedited_hands_chunk out chunk edits bytes short (room_of (length b) (length f) (length v) (length t)) lent found.def found.is nb nf nv nt

-- What is handed back for a reflection.
module _ (room : ℕ) (chunk : Bytes) (r : ResourceDef Bytes Bytes) where
  -- A chunk that is unedited reads as it.
  unedited_reads : unedited chunk r ≡ true → ReadsBack chunk r
  unfolding unedited
  unedited_reads e = go (read full_room chunk) refl e
    where
      go : (o : Outcome (ResourceDef Text Text)) → read full_room chunk ≡ o → read_as chunk o r ≡ true → ReadsBack chunk r
      go (Ok found) is same = record { read_back = found; reads = is; restored = same_def_equal (contents chunk [] found) r same }
      go (Err e) is same = absurd (let apart : ◌≡◌ {A = ℕ} 0 1 = cc in omega arith)

  -- What was handed back: the chunk, unedited, or the canonical form, which fits.
  pub data Handed (p : Part) : Type 0 where
    the_chunk : p ≡ whole_chunk → unedited chunk r ≡ true → Handed p
    the_form : p ≡ written (canonical r) → length (canonical r) ≤ min room chunk_limit → Handed p

  handed : (p : Part) → payload room chunk (Some r) ≡ Ok p → (readable_contents r ≡ true) × Handed p
  unfolding payload payload_of as_part fitting
  handed p e = by_readable (readable_contents r) refl e
    where
      by_fit : (fits : Bool) → fits_in room (length (canonical r)) ≡ fits → as_part (cond fits (Ok (canonical r)) (Err OutputTooSmall)) ≡ Ok p
          → Handed p
      by_fit true is q = the_form (cc) (leb-true (length (canonical r)) (min room chunk_limit) is)
      by_fit false is q = absurd (let apart : ◌≡◌ {A = ℕ} 0 1 = cc in omega arith)

      by_unedited : (same : Bool) → unedited chunk r ≡ same → cond same (Ok whole_chunk) (as_part (fitting room (Ok (canonical r)))) ≡ Ok p → Handed p
      by_unedited true is q = the_chunk (cc) is
      by_unedited false is q = by_fit (fits_in room (length (canonical r))) refl q

      by_readable : (passes : Bool) → readable_contents r ≡ passes
          → cond passes (cond (unedited chunk r) (Ok whole_chunk) (as_part (fitting room (Ok (canonical r))))) (Err NotReadable) ≡ Ok p
          → (readable_contents r ≡ true) × Handed p
      by_readable true is q = (is, by_unedited (unedited chunk r) refl q)
      by_readable false is q = absurd (let apart : ◌≡◌ {A = ℕ} 0 1 = cc in omega arith)

  pub edited_reads_back : NumbersAreWords r → (p : Part) → payload room chunk (Some r) ≡ Ok p → ReadsBack (handed_back chunk p) r
  unfolding handed_back
  edited_reads_back words p e =
      let (passes, how) = handed p e in
      go passes how
    where
      go : readable_contents r ≡ true → Handed p → ReadsBack (handed_back chunk p) r
      go passes (the_chunk is same) = subst (λ (q : Part). ReadsBack (handed_back chunk q) r) (sym is) (unedited_reads same)
      go passes (the_form is fits) =
          let back = round_trip r passes words (omega (arith, fits)) in
          subst (λ (q : Part). ReadsBack (handed_back chunk q) r) (sym is)
          (record { read_back = back.read_back; reads = back.reads; restored = back.restored })

-- So of what a header and tables of words hold: what is handed back reads as that.
pub payload_reads_back : (room : ℕ) (chunk edits : Bytes) (h : Header) (bindings buffers variables types : List ℕ) → HeaderWords h → WordTable bindings
    → WordTable buffers
    → WordTable variables → WordTable types → (p : Part) → payload room chunk (table_contents chunk edits h bindings buffers variables types) ≡ Ok p
    → (r : ResourceDef Bytes Bytes) × (table_contents chunk edits h bindings buffers variables types ≡ Some r) × ReadsBack (handed_back chunk p) r
unfolding payload
payload_reads_back room chunk edits h bindings buffers variables types header b f v t p e =
    go (table_contents chunk edits h bindings buffers variables types) refl e
  where
    go : (o : Option (ResourceDef Bytes Bytes)) → table_contents chunk edits h bindings buffers variables types ≡ o → payload room chunk o ≡ Ok p
        → (r : ResourceDef Bytes Bytes) × (table_contents chunk edits h bindings buffers variables types ≡ Some r) × ReadsBack (handed_back chunk p) r
    go None is q = absurd (let apart : ◌≡◌ {A = ℕ} 0 1 = cc in omega arith)
    go (Some r) is q = (r, is, edited_reads_back room chunk r (held_words chunk edits h bindings buffers variables types header b f v t r is) p q)

-- What `payload_part` hands back is that part, of the output as the payload left it.
written_part : (bytes out : Bytes) → length bytes ≤ length out → part (splice out 0 bytes) 0 (length bytes) ≡ bytes
unfolding part inside
written_part bytes out fits =
    let holds : leb (0 + length bytes) (length (splice out 0 bytes)) ≡ true =
    le-leb (0 + length bytes) (length (splice out 0 bytes)) (omega (arith, fits, length_splice out 0 bytes)) in
    let rest = drop (0 + length bytes) out in
    rw (holds, part)
    (ap (λ (l : Bytes). take (length bytes) l) (splice_eq out 0 bytes (omega arith))
    ∙ take-append-le (length bytes) bytes rest (omega arith)
    ∙ take_all (length bytes) bytes (omega arith))

pub part_handed_back : (chunk out : Bytes) (r : ResourceDef Bytes Bytes) (p : Part) → payload (length out) chunk (Some r) ≡ Ok p
    → payload_part chunk (payload_output (Ok p) out) (payload_answer (Ok p)) ≡ handed_back chunk p
unfolding payload_part payload_output payload_answer handed_back
part_handed_back chunk out r p e = go (handed (length out) chunk r p e).1
  where
    go : Handed (length out) chunk r p → payload_part chunk (payload_output (Ok p) out) (payload_answer (Ok p)) ≡ handed_back chunk p
    go (the_chunk is same) = subst (λ (q : Part). payload_part chunk (payload_output (Ok q) out) (payload_answer (Ok q)) ≡ handed_back chunk q) (sym is) refl
    go (the_form is fits) =
        subst (λ (q : Part). payload_part chunk (payload_output (Ok q) out) (payload_answer (Ok q)) ≡ handed_back chunk q) (sym is)
        (written_part (canonical r) out (omega (arith, fits)))
