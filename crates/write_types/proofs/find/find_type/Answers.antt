use mathlib.Core.Path.{sym, ◌∙◌}
use Rattle.write_types.proofs.Finding.{newest_pair, newest_found, newest_other, none_left}
use Rattle.write_types.proofs.find.find_type.Goals as goal

pub returns-then-same_type : goal.returns-then-same_type
returns-then-same_type c =
    let args = c.args in
    let pairs = c.as_chunks.ensures in
    let pair = newest_pair args.entries.now pairs.front c.loop-i-test.true c.loop-i.auto.i pairs.front_len in
    sym (c.loop-i.invariant
    ∙ newest_found args.texts.chunk.now args.texts.edits.now args.x.types.now args.levels args.x.node args.entries.now 0 0 c.loop-i.i c.loop-i-test.true
    pair.0 pair.1 (sym c.same_type.ensures ∙ c.if-same_type.true))

pub loop-i-preserved : goal.loop-i-preserved
loop-i-preserved c =
    let args = c.args in
    let pairs = c.as_chunks.ensures in
    let pair = newest_pair args.entries.now pairs.front c.loop-i-test.true c.loop-i.auto.i pairs.front_len in
    c.loop-i.invariant
    ∙ newest_other args.texts.chunk.now args.texts.edits.now args.x.types.now args.levels args.x.node args.entries.now 0 0 c.loop-i.i c.loop-i-test.true
    pair.0 pair.1 (sym c.same_type.ensures ∙ c.if-same_type.false)

pub returns : goal.returns
returns c =
    let args = c.args in
    sym (c.loop-i.invariant
    ∙ none_left args.texts.chunk.now args.texts.edits.now args.x.types.now args.levels args.x.node args.entries.now 0 0 c.loop-i.i c.loop-i-test.false)
