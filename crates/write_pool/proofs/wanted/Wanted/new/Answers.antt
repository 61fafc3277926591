use mathlib.Core.Path.{◌≡◌, refl, ap, sym, ◌∙◌}
use Prim.Native.Nat.{ℕ, ◌+◌, ◌*◌, ◌/◌, ◌%◌}
use mathlib.Core.List.{List, []}
use native.Mathlib.Omega.{arith}
use borrow.Author.Tests.{eqb-true, eqb-false}
use lib.ListN.{length, get_or}
use Rattle.std.specs.Int.{from_le_bytes, w32}
use Rattle.words.specs.Words.{word_at}
use Rattle.write_pool.specs.Pool.{bucket_count, hash_of}
use Rattle.write_pool.proofs.Hashes.{hash_with_word, bucket_at_end, chunk_word, word_dropped}
use Rattle.write_pool.proofs.wanted.Wanted.new.Goals.{then-not-is_empty, else-not-is_empty}
use Rattle.write_pool.proofs.wanted.Wanted.new.Goals as goal

pub loop-word-init : goal.loop-word-init
unfolding hash_of
loop-word-init c = refl

pub loop-word-preserved : goal.loop-word-preserved
loop-word-preserved c =
    let l = c.loop-word in
    let bytes = c.args.bytes.now in
    let cut = c.as_chunks.ensures in
    let word =
    c.from_le_bytes.ensures
    ∙ ap (λ (ws : List (List ℕ)). from_le_bytes w32 (get_or ws l.word-index [])) cut.front
    ∙ chunk_word (length bytes / 4) l.word-index bytes (omega (arith, cut.front_len, c.loop-word-test.true)) in
    hash_with_word bytes l.word-index l.invariant word c.hash_more-hash.ensures

pub invariant_of-result : goal.invariant_of-result
invariant_of-result c =
    let l = c.loop-word in
    let bytes = c.args.bytes.now in
    let cut = c.as_chunks.ensures in
    let rest = length c.as_chunks.result.1.now in
    let all : l.word-index ≡ length bytes / 4 = omega (arith, cut.front_len, l.auto.word-index-end, c.loop-word-test.false) in
    record {
      in_bucket = elim c.if-not-is_empty.branch [
        | then-not-is_empty w ↦
            let some = eqb-false rest 0 (sym c.is_empty.ensures ∙ w.if-not-is_empty.true) in
            let word =
            w.word_at.ensures
            ∙ ap (λ (s : List ℕ). word_at s 0) cut.back
            ∙ word_dropped bytes (length bytes / 4 * 4)
            ∙ ap (λ (k : ℕ). word_at bytes (k * 4)) (sym all) in
            c.hash_bucket.ensures
            ∙ ap (λ (h : ℕ). h % 65521 % bucket_count) w.hash-is
            ∙ bucket_at_end bytes (l.word-index + 1) (hash_with_word bytes l.word-index l.invariant word w.hash_more-hash-then-not-is_empty.ensures) (omega arith)
        | else-not-is_empty w ↦
            let none = eqb-true rest 0 (sym c.is_empty.ensures ∙ w.if-not-is_empty.false) in
            c.hash_bucket.ensures
            ∙ ap (λ (h : ℕ). h % 65521 % bucket_count) w.hash-is
            ∙ bucket_at_end bytes l.word-index l.invariant (omega arith)
      ];
    }
