-- A payload's answer as numbers is that of its outcome. Its length is a word: a reflection is held only beside a chunk of at most 65,536 bytes, and
-- `fitting` lets no more be written.
use Rattle.reflection.specs.Outcome.{Outcome}
use Rattle.reflection.specs.declared.refusal.Refusal.TheVariants.{NotReadable, OutputTooSmall}
use Rattle.std.specs.Prelude.{Ok, Err, Option, None, Some}
use mathlib.Core.Path.{◌≡◌, refl, ap, ◌∙◌}
use mathlib.Core.Bool.{Bool, true, false, cond, ◌&&◌}
use mathlib.Core.List.{List}
use Prim.Native.Nat.{ℕ, min, ◌≤◌}
use native.Mathlib.Omega.{arith}
use borrow.Author.Tests.{leb-true}
use lib.Dec.{leb}
use lib.ListN.{length}
use Rattle.text.proofs.Bools.{and-true}
use Rattle.reflection.specs.Limits.{chunk_limit}
use Rattle.reflection.specs.declared.ResourceDef.{ResourceDef as Header}
use Rattle.reflection.specs.Reflection.{ResourceDef}
use Rattle.reflection.specs.Contents.{Bytes}
use Rattle.readable.specs.Readable.{table_contents, readable_contents}
use Rattle.tables.proofs.Options.{check_was}
use Rattle.text_output.specs.Written.{fits_in, fitting}
use Rattle.write_spec.specs.Canonical.{canonical}
use Rattle.write_spec.specs.Payload.{Part, whole_chunk, written, unedited, as_part, payload_of, payload}
use Rattle.payload.specs.declared.Payload.{Payload}
use Rattle.payload.specs.Answer.{payload_with, payload_answer}
use Rattle.nontrefalcu.specs.Exports.{number_of, result_table}
use Rattle.nontrefalcu.specs.PayloadWords.{PayloadFits, payload_outcome, payload_words, payload_table}

answer_number : (chunk : Bytes) (out : Outcome Part) → number_of (payload_outcome (length chunk) (payload_answer out)) ≡ number_of out
unfolding payload_answer payload_outcome number_of
answer_number chunk (Ok whole_chunk) = refl
answer_number chunk (Ok (written bytes)) = refl
answer_number chunk (Err e) = refl

answer_table : (chunk : Bytes) (out : Outcome Part) (n : ℕ) → result_table (λ w. w) (payload_outcome (length chunk) (payload_answer out)) n
    ≡ payload_table chunk out n
unfolding payload_answer payload_outcome result_table payload_words
answer_table chunk (Ok whole_chunk) n = refl
answer_table chunk (Ok (written bytes)) n = refl
answer_table chunk (Err e) n = refl

written_fits : (long room : ℕ) (bytes : Bytes) (fits : Bool) → fits_in room (length bytes) ≡ fits
    → PayloadFits long (payload_answer (as_part (cond fits (Ok bytes) (Err OutputTooSmall))))
unfolding payload_answer as_part
written_fits long room bytes true h = omega (arith, leb-true (length bytes) (min room chunk_limit) h)
written_fits long room bytes false h = tt

unedited_fits : (long room : ℕ) (bytes : Bytes) (whole : Bool) → long ≤ chunk_limit
    → PayloadFits long (payload_answer (cond whole (Ok whole_chunk) (as_part (fitting room (Ok bytes)))))
unfolding payload_answer fitting
unedited_fits long room bytes true short = short
unedited_fits long room bytes false short = written_fits long room bytes (fits_in room (length bytes)) refl

readable_fits : (long room : ℕ) (bytes : Bytes) (whole good : Bool) → long ≤ chunk_limit
    → PayloadFits long (payload_answer (cond good (cond whole (Ok whole_chunk) (as_part (fitting room (Ok bytes)))) (Err NotReadable)))
unfolding payload_answer
readable_fits long room bytes whole true short = unedited_fits long room bytes whole short
readable_fits long room bytes whole false short = tt

fits_in_lem : (room : ℕ) (chunk : Bytes) (r : Option (ResourceDef Bytes Bytes)) → ((c : ResourceDef Bytes Bytes) → r ≡ Some c → length chunk ≤ chunk_limit)
    → (enough : Bool) → PayloadFits (length chunk) (payload_answer (payload_with enough room chunk r))
unfolding payload_answer payload_with payload payload_of
fits_in_lem room chunk None short true = tt
fits_in_lem room chunk (Some c) short true = readable_fits (length chunk) room (canonical c) (unedited chunk c) (readable_contents c) (short c refl)
fits_in_lem room chunk r short false = tt

module _ (chunk edits : Bytes) (h : Header) (bindings buffers variables types : List ℕ) where
  held_short : (c : ResourceDef Bytes Bytes) → table_contents chunk edits h bindings buffers variables types ≡ Some c → length chunk ≤ chunk_limit
  unfolding table_contents
  held_short c e =
      let (long, e₁) = check_was (leb (length chunk) chunk_limit && leb (length edits) chunk_limit) _ c e in
      let (chunk_long, edits_long) = and-true (leb (length chunk) chunk_limit) (leb (length edits) chunk_limit) long in
      leb-true (length chunk) chunk_limit chunk_long

  pub payload_fits : (room : ℕ) (enough : Bool) {p : Outcome Payload} → p ≡ payload_answer
      (payload_with enough room chunk (table_contents chunk edits h bindings buffers variables types))
      → PayloadFits (length chunk) p
  payload_fits room enough answer = rw answer (fits_in_lem room chunk (table_contents chunk edits h bindings buffers variables types) held_short enough)

-- what `write_payload` and `hand_payload` ensure, for the outcome that was asked for
module _ {out asked : Outcome Part} (same : out ≡ asked) (chunk : Bytes) (n : ℕ) {p : Outcome Payload} {r : ℕ} {words : List ℕ} where
  pub handed_payload : p ≡ payload_answer out → (r ≡ number_of (payload_outcome (length chunk) p))
      × (words ≡ result_table (λ w. w) (payload_outcome (length chunk) p) n)
      → (r ≡ number_of asked) × (words ≡ payload_table chunk asked n)
  handed_payload answer handed =
      let number = ap (λ (q : Outcome Payload). number_of (payload_outcome (length chunk) q)) answer ∙ answer_number chunk out in
      let table = ap (λ (q : Outcome Payload). result_table (λ w. w) (payload_outcome (length chunk) q) n) answer ∙ answer_table chunk out n in
      rw (← same) (handed.0 ∙ number, handed.1 ∙ table)
