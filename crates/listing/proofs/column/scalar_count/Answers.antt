-- `scalar_count` meets its contract: a byte that begins a sequence adds 1, any other 0, and so the sum is at most the number of bytes.
use Rattle.std.proofs.Common.{rules, tests, arith, ℕ, ◌^◌, cond, ◌∙◌}
use Rattle.std.proofs.lemmas.Iterator.{YieldsList-from_slice, YieldsList-from_map}
use Rattle.std.proofs.lemmas.Iterator.Consumers.{sum_by_from_yields_List, fits_by_from_yields_list}
use Rattle.std.proofs.lemmas.List.Sums.{count_by-le-length}
use Rattle.listing.proofs.Padding.{begins, scalars_counted}
use Rattle.listing.proofs.column.scalar_count.Goals as goal

abbrev added : ℕ → ℕ
added b = cond (begins b) 1 0

pub sum-requires-clause-fits : goal.sum-requires-clause-fits
sum-requires-clause-fits c =
    let bytes = c.args.bytes.now in
    let most = count_by-le-length begins bytes in
    fits_by_from_yields_list added bytes c.map.result (2 ^ 64)
    (YieldsList-from_map _ added (YieldsList-from_slice bytes cc) c.map.ensures.closure (λ x r q k. search (rules, tests))) (omega arith)

pub returns : goal.returns
returns c =
    let bytes = c.args.bytes.now in
    let summed = sum_by_from_yields_List added bytes c.map.result c.sum.result c.sum.ensures.ran
    (YieldsList-from_map _ added (YieldsList-from_slice bytes cc) c.map.ensures.closure (λ x r q k. search (rules, tests))) in
    summed ∙ scalars_counted bytes
