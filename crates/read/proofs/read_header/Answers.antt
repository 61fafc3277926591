-- `read_header` meets its contract: each way out is a law of the header, from the tests that led there. Assumes nothing.
use mathlib.Core.Path.{◌≡◌, refl, sym, ◌∙◌}
use mathlib.Core.Bool.{true}
use native.Mathlib.Omega.{arith}
use lib.Dec.{eqb}
use Rattle.std.specs.Prelude.{Ok}
use Rattle.std.proofs.lemmas.Result.{err_from_is_err_and}
use Rattle.read_types.proofs.InChunk.{none_found, some_found}
use Rattle.read.specs.Header.{rd11_check}
use Rattle.read.proofs.Header.{known_major, major_at, major_unknown, major_4, major_5, creator_is}
use Rattle.read.proofs.Header.{refused_too_short, refused_too_long, refused_major, refused_creator, refused_rd11, headed, wide_by_stride, never_wide}
use Rattle.read.proofs.read_header.Goals as goal
use Rattle.read.proofs.read_header.Goals.{After-word_at-offset, in-4, in-5, then-sm5+in_ok-check_rd11, else-sm5}

-- The major version is 4 or 5.
version : (c : After-word_at-offset) → (known_major c.args.chunk.now ≡ true) × (eqb (major_at c.args.chunk.now) 5 ≡ c.match-major_of.sm5)
version c = elim c.match-major_of.branch [
  | in-4 w ↦ major_4 c.args.chunk.now c.word_at.ensures c.major_of.ensures w.in-4.is w.sm5-is
  | in-5 w ↦ major_5 c.args.chunk.now c.word_at.ensures c.major_of.ensures w.in-5.is w.sm5-is
]

pub returns-then-chunk : goal.returns-then-chunk
returns-then-chunk c =
    refused_too_short c.args.chunk.now c.if-chunk.true

pub returns-then-chunk-gt-CHUNK_LIMIT : goal.returns-then-chunk-gt-CHUNK_LIMIT
returns-then-chunk-gt-CHUNK_LIMIT c =
    refused_too_long c.args.chunk.now c.if-chunk.false c.if-chunk-gt-CHUNK_LIMIT.true

pub returns-in_default : goal.returns-in_default
returns-in_default c =
    refused_major c.args.chunk.now c.if-chunk.false c.if-chunk-gt-CHUNK_LIMIT.false
    (major_unknown c.args.chunk.now c.word_at.ensures c.major_of.ensures (λ e. absurd (omega arith)) (λ e. absurd (omega arith)))

pub returns-in_err-creator : goal.returns-in_err-creator
returns-in_err-creator c =
    let p = err_from_is_err_and c.from_residual.result c.from_residual.ensures.1 in
    let bad = none_found _ c.string_at.ensures c.in_err-creator.ensures.value in
    let known = (version (goal.at.returns-in_err-creator c).After-word_at-offset).0 in
    rw (p.1, p.2, bad.refusal)
    (refused_creator c.args.chunk.now c.if-chunk.false c.if-chunk-gt-CHUNK_LIMIT.false known
    (creator_is c.args.chunk.now c.word_at-offset.ensures refl bad.none))

pub returns-in_err-check_rd11 : goal.returns-in_err-check_rd11
returns-in_err-check_rd11 c =
    let found = some_found _ _ c.string_at.ensures c.in_ok-creator.ensures.value in
    let p = err_from_is_err_and c.from_residual-in_err-check_rd11.result c.from_residual-in_err-check_rd11.ensures.1 in
    let v = version (goal.at.returns-in_err-check_rd11 c).After-word_at-offset in
    rw (p.1, p.2)
    (refused_rd11 c.args.chunk.now c.if-chunk.false c.if-chunk-gt-CHUNK_LIMIT.false v.0 _ _
    (creator_is c.args.chunk.now c.word_at-offset.ensures refl found.some)
    (v.1 ∙ c.if-sm5.true) _ (sym c.in_err-check_rd11.ensures))

pub returns-then-sm5-2 : goal.returns-then-sm5-2
returns-then-sm5-2 c =
    let found = some_found _ _ c.string_at.ensures c.in_ok-creator.ensures.value in
    let v = version (goal.at.returns-then-sm5-2 c).After-word_at-offset in
    let checked : c.match-major_of.sm5 ≡ true → rd11_check c.args.chunk.now ≡ Ok tt = elim c.if-sm5.branch [
      | then-sm5+in_ok-check_rd11 w ↦ λ five. sym w.in_ok-check_rd11.ensures
      | else-sm5 w ↦ λ five. absurd (cc (five, w.if-sm5.false))
    ] in
    headed c.args.chunk.now c.if-chunk.false c.if-chunk-gt-CHUNK_LIMIT.false v.0 _ _
    (creator_is c.args.chunk.now c.word_at-offset.ensures refl found.some)
    found.is v.1 checked (wide_by_stride c.args.chunk.now _ c.if-sm5-2.true c.word_at-then-sm5-2.ensures)

pub returns-else-sm5-2 : goal.returns-else-sm5-2
returns-else-sm5-2 c =
    let found = some_found _ _ c.string_at.ensures c.in_ok-creator.ensures.value in
    let v = version (goal.at.returns-else-sm5-2 c).After-word_at-offset in
    headed c.args.chunk.now c.if-chunk.false c.if-chunk-gt-CHUNK_LIMIT.false v.0 _ _
    (creator_is c.args.chunk.now c.word_at-offset.ensures refl found.some)
    found.is v.1 (λ five. absurd (cc (five, c.if-sm5-2.false))) (never_wide c.args.chunk.now _ c.if-sm5-2.false)
