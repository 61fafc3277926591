-- `put_descriptor` meets its contract: four words, and five more where the chunk is of major 5.
use mathlib.Core.Path.{◌∙◌}
use native.Mathlib.Omega.{arith}
use Rattle.write_types.proofs.Putting.{words_near, short_descriptor, long_descriptor}
use Rattle.write_types.proofs.put.put_descriptor.Goals as goal

pub put_word_bytes-requires-then-sm5 : goal.put_word_bytes-requires-then-sm5
put_word_bytes-requires-then-sm5 c =
    omega (arith, words_near _ c.put_word_bytes.ensures.text, c.requires)

pub returns-then-sm5 : goal.returns-then-sm5
returns-then-sm5 c =
    let args = c.args in record {
      text =
          long_descriptor args.node args.count args.members args.name c.two_halves-kind.result c.two_halves-shape.result
          c.two_halves-counts.result c.two_halves-kind.ensures c.two_halves-shape.ensures c.two_halves-counts.ensures
          c.if-sm5.true c.put_word_bytes.ensures.text c.put_word_bytes-then-sm5.ensures.text;
      same = c.put_word_bytes-then-sm5.ensures.same ∙ c.put_word_bytes.ensures.same;
    }

pub returns-else-sm5 : goal.returns-else-sm5
returns-else-sm5 c =
    let args = c.args in record {
      text =
          short_descriptor args.node args.count args.members args.name c.two_halves-kind.result c.two_halves-shape.result
          c.two_halves-counts.result c.two_halves-kind.ensures c.two_halves-shape.ensures c.two_halves-counts.ensures
          c.if-sm5.false c.put_word_bytes.ensures.text;
      same = c.put_word_bytes.ensures.same;
    }
