-- The writer's answer, test by test: short scratch, a reflection that is not readable, and the canonical form of one that is. Each is a case of `write`.
use Rattle.reflection.specs.declared.refusal.Refusal.TheVariants.{NoRoom, NotReadable}
use Rattle.std.specs.Prelude.{Ok, Err, Option, None, Some}
use mathlib.Core.Path.{◌≡◌, refl, ap, ◌∙◌}
use mathlib.Core.Bool.{Bool, true, false, cond}
use mathlib.Core.List.{List}
use mathlib.Core.Logic.{◌⊎◌, inl, inr}
use Prim.Native.Nat.{ℕ, ◌-◌, ◌<◌, ◌≤◌, min}
use native.Mathlib.Omega.{arith}
use borrow.Author.Tests.{le-leb, lt-leb}
use lib.ListN.{length, replicate}
use Rattle.words.specs.Splice.{Put}
use Rattle.reflection.specs.Limits.{chunk_limit}
use Rattle.reflection.specs.declared.ResourceDef.{ResourceDef as Header}
use Rattle.reflection.specs.Reflection.{ResourceDef}
use Rattle.reflection.specs.Contents.{Bytes, contents}
use Rattle.readable.specs.Readable.{table_contents, readable, is_readable, readable_contents}
use Rattle.readable.proofs.ReadableTables.{Readable}
use Rattle.reflection.specs.Outcome.{Outcome}
use Rattle.text_output.specs.Written.{fits_in, fitting, written_of, output_of, Written}
use Rattle.text_output.specs.Cursor.{finished, kept}
use Rattle.text_output.proofs.Fitting.{finished_answer, finished_output}
use Rattle.write_spec.specs.Canonical.{canonical}
use Rattle.write_tables.specs.Chunk.{TooLong}
use Rattle.write.specs.WriteInto.{WrittenInto}
use Rattle.write_spec.specs.Outcome.{scratch_size, canonical_or16, write}

-- A scratch that kept its length is zeros, all of it, once it is cleared from its first word on.
pub cleared_whole : {long n : ℕ} → long ≡ n → replicate {A = ℕ} (long - 0) 0 ≡ replicate n 0
cleared_whole {long} {n} e =
    let whole : long - 0 ≡ n = omega (arith, e) in
    ap (λ (k : ℕ). replicate {A = ℕ} k 0) whole

module _ (scratch room : ℕ) where
  pub short_scratch : (r : Option (ResourceDef Bytes Bytes)) → scratch < scratch_size → write scratch room r ≡ Err NoRoom
  unfolding write
  short_scratch r short = rw (lt-leb scratch_size scratch short)

  -- With scratch enough, what is written is the canonical form or 16, where it fits.
  enough_scratch : (r : Option (ResourceDef Bytes Bytes)) → scratch_size ≤ scratch → write scratch room r ≡ fitting room (canonical_or16 r)
  unfolding write
  enough_scratch r enough = rw (le-leb scratch_size scratch enough)

  not_readable_lem : (r : Option (ResourceDef Bytes Bytes)) → is_readable r ≡ false → canonical_or16 r ≡ Err NotReadable
  unfolding canonical_or16
  not_readable_lem None e = refl
  not_readable_lem (Some r) e = rw e

  pub readable_written : (r : ResourceDef Bytes Bytes) → readable_contents r ≡ true → scratch_size ≤ scratch
      → write scratch room (Some r) ≡ fitting room (Ok (canonical r))
  unfolding canonical_or16
  readable_written r is_readable enough =
      enough_scratch (Some r) enough ∙ ap (λ (test : Bool). fitting room (cond test (Ok (canonical r)) (Err NotReadable))) is_readable

  module _ (enough : scratch_size ≤ scratch) where
    pub unreadable : (chunk edits : Bytes) (h : Header) (bindings buffers variables types : List ℕ)
        → readable chunk edits h bindings buffers variables types ≡ false
        → write scratch room (table_contents chunk edits h bindings buffers variables types) ≡ Err NotReadable
    unfolding readable fitting
    unreadable chunk edits h bindings buffers variables types e =
        let r = table_contents chunk edits h bindings buffers variables types in
        enough_scratch r enough ∙ ap (fitting room) (not_readable_lem r e)

    pub writable : {chunk edits : Bytes} {h : Header} {bindings buffers variables types : List ℕ}
        (r : Readable chunk edits h bindings buffers variables types)
        → write scratch room (table_contents chunk edits h bindings buffers variables types) ≡ fitting room (Ok (canonical (contents chunk edits r.def)))
    writable {chunk} {edits} r = ap (write scratch room) r.is_held ∙ readable_written (contents chunk edits r.def) r.is_readable enough

longer : (room n : ℕ) → chunk_limit < n → fits_in room n ≡ false
longer room n h = lt-leb n (min room chunk_limit) (omega arith)

-- The end of writing: the canonical form was put, or it is longer than a chunk may be; then the answer is 17, whatever the output holds.
module _ {bytes lent out : List ℕ} {at : ℕ} where
  chunk_answer : Put lent 0 bytes out at ⊎ TooLong bytes lent out at → finished (length out) at ≡ written_of (fitting (length lent) (Ok bytes))
  unfolding finished fitting written_of
  chunk_answer (inl put) = finished_answer put
  chunk_answer (inr long) = rw (longer (length out) at long.reached, longer (length lent) (length bytes) long.defined)

  chunk_output : Put lent 0 bytes out at ⊎ TooLong bytes lent out at
      → kept (finished (length out) at) out ≡ output_of (fitting (length lent) (Ok bytes)) lent
  unfolding finished fitting kept output_of
  chunk_output (inl put) = finished_output put
  chunk_output (inr long) =
      rw (longer (length out) at long.reached, longer (length lent) (length bytes) long.defined)
      (ap (λ (n : ℕ). replicate n 0) long.long)

  -- So what was written is what was asked for, once the end has told whether it fits.
  pub chunk_into : {asked : Outcome Bytes} {after : List ℕ} {r : Written} → Put lent 0 bytes out at ⊎ TooLong bytes lent out at
      → fitting (length lent) (Ok bytes) ≡ asked → (r ≡ finished (length out) at) × (after ≡ kept (finished (length out) at) out)
      → WrittenInto asked lent after r
  chunk_into put is end = record {
    answer = end.0 ∙ chunk_answer put ∙ ap written_of is;
    out = end.1 ∙ chunk_output put ∙ ap (λ (o : Outcome Bytes). output_of o lent) is;
  }
