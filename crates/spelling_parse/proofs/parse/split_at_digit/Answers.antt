-- `split_at_digit` meets its contract: the text is parted at its first digit.
use Rattle.std.proofs.Common.{rules}
use Rattle.std.proofs.lemmas.Iterator.{YieldsList-from_slice}
use Rattle.std.proofs.lemmas.Iterator.Search.{position_from_yields_List}
use Rattle.std.specs.List.{position}
use mathlib.Core.Path.{◌≡◌, ap, ◌∙◌}
use Prim.Native.Nat.{ℕ}
use borrow.Author.Tests.{tests}
use lib.ListN.{take, drop}
use Rattle.spelling_parse.specs.Grammar.{is_digit}
use Rattle.spelling_parse.proofs.ParseParts.{parted_before, parted_from}
use Rattle.spelling_parse.proofs.parse.split_at_digit.Goals as goal

pub returns : goal.returns
returns c =
    let text = c.args.text.now in
    let found : c.position-digit.result ≡ position is_digit text =
    position_from_yields_List is_digit _ _ c.position-digit.result c.position-digit.ensures.ran (YieldsList-from_slice text cc)
    (λ x b q k. search (rules, tests)) in
    record {
      before = c.split_at.ensures.front ∙ ap (λ (n : ℕ). take n text) c.unwrap_or.ensures ∙ parted_before text found;
      from = c.split_at.ensures.back ∙ ap (λ (n : ℕ). drop n text) c.unwrap_or.ensures ∙ parted_from text found;
    }
