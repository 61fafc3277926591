-- The one table of worked examples. `proofs/Examples.antt` proves it by one statement.
use Rattle.std.specs.Prelude.{List, ◌++◌}
use Rattle.worked_examples.specs.Example.{Example}
use Rattle.worked_examples.specs.Reading.{reading_examples}
use Rattle.worked_examples.specs.Writing.{writing_examples}
use Rattle.worked_examples.specs.Spelling.{spelling_examples}
use Rattle.worked_examples.specs.Parsing.{parsing_examples}
use Rattle.worked_examples.specs.Listing.{listing_examples}
use Rattle.worked_examples.specs.Codes.{code_examples}

unfoldable pub examples : List Example
examples = reading_examples ++ writing_examples ++ spelling_examples ++ parsing_examples ++ listing_examples ++ code_examples
