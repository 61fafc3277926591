-- `lent_words` meets its contract: each number that is passed is a word.
use Rattle.theorem_round_trip.specs.RoundTrip.{EachIsWord}
use borrow.Author.Rules.{rules}
use Rattle.theorem_functions.proofs.lent_words.Goals as goal

pub returns : goal.returns
unfolding EachIsWord
returns c = let fits = c.well_formed.0 in search (rules, fits)
