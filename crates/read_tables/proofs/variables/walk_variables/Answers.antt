use Rattle.std.proofs.lemmas.Result.{err_from_is_err_and}
use mathlib.Core.List.{List}
use Prim.Native.Nat.{ℕ, ◌+◌, ◌<◌}
use mathlib.Core.Path.{◌≡◌, sym, ap, ◌∙◌}
use native.Mathlib.Omega.{arith}
use lib.ListN.{length}
use Rattle.words.specs.Words.{word_at}
use Rattle.words.specs.Parts.{inside}
use Rattle.text.specs.Strings.{cstring_at}
use Rattle.reflection.specs.declared.Text.{Text}
use Rattle.reflection.specs.declared.CBufferVariable.{CBufferVariable}
use Rattle.tables.specs.Records.{put_record, variable_width, variable_words_in_table}
use Rattle.read_spec.specs.declared.Counts.{Counts}
use Rattle.read_spec.specs.Read.{variable_stride, default_at}
use Rattle.read_types.specs.declared.chunk.Chunk.{Chunk}
use Rattle.read_types.specs.declared.chunk.Record.{Record}
use Rattle.read_types.specs.Chunk.{RecordAt}
use Rattle.read_types.specs.Walked.{HasRoom}
use Rattle.read_types.proofs.InChunk.{FoundText, not_found, text_found, none_found, some_found, in_record}
use Rattle.read_tables.specs.Variables.{variable_record_in_chunk}
use Rattle.read_tables.proofs.Loop.{ends, stops, goes_on}
use Rattle.read_tables.proofs.Put.{has_room}
use Rattle.read_tables.proofs.Grown.{variables_grown}
use Rattle.read_tables.proofs.OneVariable.{variable_full, variable_short, variable_default_outside, variable_named_badly, variable_put}
use Rattle.read_tables.proofs.OneVariable.{VariableWritten, variable_refused, variable_filled}
use Rattle.read_tables.proofs.variables.walk_variables.Goals as goal

-- The default that the definition has, at the variable's place.
default_in : {chunk : Chunk} {r : Record} {at size : ℕ} → RecordAt chunk at size r
    → default_at chunk.bytes.now (word_at chunk.bytes.now (at + 20)) (word_at chunk.bytes.now (at + 8))
    ≡ default_at r.chunk.bytes.now (word_at r.chunk.bytes.now (r.at + 20)) (word_at r.chunk.bytes.now (r.at + 8))
default_in read = sym (in_record (λ s five wide at. default_at s (word_at s (at + 20)) (word_at s (at + 8))) read)

-- All that is known of the variable once its record was written: it passed its tests, and its type lies at `below`.
written : {chunk : Chunk} {r : Record} {at stride below : ℕ} {capacity n : Counts} {variables variables₁ : List ℕ}
    {name default_text : Text} {variable : CBufferVariable}
    → HasRoom variable_width capacity.variables n.variables variables → n.variables < capacity.variables
    → stride ≡ variable_stride chunk.sm5 → RecordAt chunk at stride r
    → FoundText (default_at r.chunk.bytes.now (word_at r.chunk.bytes.now (r.at + 20)) (word_at r.chunk.bytes.now (r.at + 8))) default_text
    → FoundText (cstring_at r.chunk.bytes.now (word_at r.chunk.bytes.now r.at)) name
    → variable ≡ variable_record_in_chunk r.chunk.bytes.now r.chunk.sm5 r.at name default_text
    → variables₁ ≡ put_record variable_width variables n.variables (variable_words_in_table variable)
    → below ≡ word_at r.chunk.bytes.now (r.at + 16)
    → VariableWritten chunk.bytes.now chunk.sm5 at capacity n variables variables₁ below
written {chunk} {at = at} {capacity = capacity} {n} {variables} {name = name} {default_text} room free is_stride read default found is put below =
    record {
      free = free;
      fits = sym (ap (inside (length chunk.bytes.now) at) is_stride) ∙ read.fits;
      dplace = default.place;
      dlength = default.k;
      default = default_in read ∙ default.some;
      place = found.place;
      k = found.k;
      found = sym (in_record (λ s five wide at. cstring_at s (word_at s at)) read) ∙ found.some;
      taken = variable_put chunk.bytes.now chunk.sm5 at capacity n variables room free found.is default.is
          (is ∙ in_record (λ s five wide at. variable_record_in_chunk s five at name default_text) read) put;
      is_below = below ∙ in_record (λ s five wide at. word_at s (at + 16)) read;
    }

pub returns-in_err-n-clause-walked : goal.returns-in_err-n-clause-walked
returns-in_err-n-clause-walked c =
    let p = err_from_is_err_and c.from_residual.result c.from_residual.ensures.1 in
    rw (p.1, p.2, c.in_err-n.ensures.refusal)
    (stops c.loop.invariant.going (omega arith)
    (variable_full _ _ _ c.args.filling.now.capacity c.loop.filling.counts _ (rw c.loop.invariant.kept.capacity at c.in_err-n.ensures.full)))

pub returns-in_err-record-clause-walked : goal.returns-in_err-record-clause-walked
returns-in_err-record-clause-walked c =
    let p = err_from_is_err_and c.from_residual-in_err-record.result c.from_residual-in_err-record.ensures.1 in
    rw (p.1, p.2, c.in_err-record.ensures.refusal)
    (stops c.loop.invariant.going (omega arith)
    (variable_short _ _ _ c.args.filling.now.capacity c.loop.filling.counts _ (rw c.loop.invariant.kept.capacity at c.in_ok-n.ensures.free)
    (cc (rw c.loop.invariant.chunk at c.in_err-record.ensures.outside, c.variable_stride-stride.ensures))))

pub returns-in_err-default-clause-walked : goal.returns-in_err-default-clause-walked
returns-in_err-default-clause-walked c =
    let p = err_from_is_err_and c.from_residual-in_err-default.result c.from_residual-in_err-default.ensures.1 in
    let read = rw c.loop.invariant.chunk at c.in_ok-record.ensures.read in
    let bad = none_found _ c.default_of.ensures c.in_err-default.ensures.value in
    rw (p.1, p.2, bad.refusal)
    (stops c.loop.invariant.going (omega arith)
    (variable_default_outside _ _ _ c.args.filling.now.capacity c.loop.filling.counts _ (rw c.loop.invariant.kept.capacity at c.in_ok-n.ensures.free)
    (cc (read.fits, c.variable_stride-stride.ensures)) (default_in read ∙ bad.none)))

pub returns-in_err-name-clause-walked : goal.returns-in_err-name-clause-walked
returns-in_err-name-clause-walked c =
    let p = err_from_is_err_and c.from_residual-in_err-name.result c.from_residual-in_err-name.ensures.1 in
    let read = rw c.loop.invariant.chunk at c.in_ok-record.ensures.read in
    let default = some_found _ _ c.default_of.ensures c.in_ok-default.ensures.value in
    let bad = not_found _ c.in_err-name.ensures in
    rw (p.1, p.2, bad.refusal)
    (stops c.loop.invariant.going (omega arith)
    (variable_named_badly _ _ _ c.args.filling.now.capacity c.loop.filling.counts _ (rw c.loop.invariant.kept.capacity at c.in_ok-n.ensures.free)
    (cc (read.fits, c.variable_stride-stride.ensures))
    _ _ (default_in read ∙ default.some)
    (sym (in_record (λ s five wide at. cstring_at s (word_at s at)) read) ∙ bad.none)))

pub returns-in_err-walk_root-clause-walked : goal.returns-in_err-walk_root-clause-walked
returns-in_err-walk_root-clause-walked c =
    let p = err_from_is_err_and c.from_residual-in_err-walk_root.result c.from_residual-in_err-walk_root.ensures.1 in
    let kept = c.loop.invariant.kept in
    rw (p.1, p.2)
    (stops c.loop.invariant.going (omega arith)
    (variable_refused
    (written (rw kept.capacity at kept.variables_fit) (rw kept.capacity at c.in_ok-n.ensures.free) c.variable_stride-stride.ensures
    (rw c.loop.invariant.chunk at c.in_ok-record.ensures.read) (some_found _ _ c.default_of.ensures c.in_ok-default.ensures.value)
    (text_found _ _ c.in_ok-name.ensures) c.variable_record.ensures (rw c.in_ok-n.ensures.is at c.put_variable.ensures) c.word.ensures)
    _ _ (rw (kept.capacity, c.in_ok-n.ensures.one_more, c.in_ok-record.ensures.chunk, c.loop.invariant.chunk) at c.in_err-walk_root.ensures.walked)))

pub loop-preserved : goal.loop-preserved
loop-preserved c =
    let kept = c.loop.invariant.kept in
    let free = rw kept.capacity at c.in_ok-n.ensures.free in
    let walked = rw (kept.capacity, c.in_ok-n.ensures.one_more, c.in_ok-record.ensures.chunk, c.loop.invariant.chunk) at c.in_ok-walk_root.ensures.walked in
    let put = rw c.in_ok-n.ensures.is at c.put_variable.ensures in
    let then = c.in_ok-walk_root.ensures.kept in
    record {
      going = rw c.in_ok-record.ensures.at (goes_on c.loop.invariant.going (omega arith)
          (variable_filled
          (written (rw kept.capacity at kept.variables_fit) free c.variable_stride-stride.ensures
          (rw c.loop.invariant.chunk at c.in_ok-record.ensures.read) (some_found _ _ c.default_of.ensures c.in_ok-default.ensures.value)
          (text_found _ _ c.in_ok-name.ensures) c.variable_record.ensures put c.word.ensures)
          _ _ walked)
          (variables_grown c.args.filling.now.capacity c.loop.invariant.going.grew free walked.grew)
          c.variable_stride-stride.ensures (omega arith));
      chunk = c.in_ok-record.ensures.chunk ∙ c.loop.invariant.chunk;
      kept = record {
        types = then.types ∙ kept.types;
        types_long = then.types_long ∙ kept.types_long;
        capacity = then.capacity ∙ kept.capacity;
        bindings = then.bindings ∙ kept.bindings;
        buffers = then.buffers ∙ kept.buffers;
        variables_fit = has_room kept.variables_fit (λ i. (then.capacity i).variables)
            (omega (arith, then.variables, c.in_ok-n.ensures.one_more, c.in_ok-n.ensures.free)) c.put_variable.auto.table;
      };
    }

pub returns-clause-walked : goal.returns-clause-walked
returns-clause-walked c = ends c.loop.invariant.going (omega arith)
