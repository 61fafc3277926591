use Rattle.std.specs.Option.{is_some}
use Rattle.std.proofs.lemmas.Result.{err_from_is_err_and}
use mathlib.Core.Path.{◌≡◌, sym, ap, ◌∙◌}
use mathlib.Core.Bool.{Bool, false, not}
use mathlib.Core.List.{List}
use Prim.Native.Nat.{ℕ, ◌+◌, ◌-◌, ◌≤◌, ◌<◌}
use native.Mathlib.Omega.{arith}
use lib.ListN.{length, take}
use Rattle.words.specs.Words.{word_at, high_at}
use Rattle.words.specs.Parts.{inside}
use Rattle.text.specs.Strings.{cstring_at}
use Rattle.reflection.specs.Limits.{type_levels}
use Rattle.reflection.specs.Strides.{member_stride}
use Rattle.reflection.specs.declared.Text.{Text}
use Rattle.reflection.specs.declared.TypeDesc.{TypeDesc}
use Rattle.tables.specs.Records.{put_record, type_width, type_words_in_table}
use Rattle.tables.specs.Tables.{type_record}
use Rattle.read_spec.specs.declared.Counts.{Counts}
use Rattle.read_spec.specs.Read.{on_path, type_stride, type_name_at}
use Rattle.read_types.specs.declared.chunk.Chunk.{Chunk}
use Rattle.read_types.specs.declared.chunk.Record.{Record}
use Rattle.read_types.specs.Chunk.{RecordAt}
use Rattle.read_types.specs.Walk.{node_from_chunk}
use Rattle.read_types.specs.Walked.{HasRoom, Claimed}
use Rattle.read_types.proofs.InChunk.{FoundText, not_found, text_found, in_record}
use Rattle.read_types.proofs.Names.{still_some}
use Rattle.read_types.proofs.Kept.{types_then, walked_within}
use Rattle.read_types.proofs.Path.{on_path_by_search}
use Rattle.read_types.proofs.MembersWalk.{MemberAt, ends, ends_short, ends_bad, ends_below, goes_on}
use Rattle.read_types.proofs.TypeWalk.{Entered, stops_deep, stops_cycle, stops_full, stops_short, stops_inside, stops_unnamed, arrives}
use Rattle.read_types.proofs.+walk_members_walk_type.Goals as goal

-- A member's record was read, and its name found.
member_at : {chunk : Chunk} {r : Record} {at left below offset : ℕ} {name : Text} → 0 < left → RecordAt chunk at member_stride r
    → (found : FoundText (cstring_at r.chunk.bytes.now (word_at r.chunk.bytes.now r.at)) name)
    → below ≡ word_at r.chunk.bytes.now (r.at + 4) → offset ≡ word_at r.chunk.bytes.now (r.at + 8)
    → MemberAt chunk.bytes.now at left found.place found.k below offset
member_at more read found below offset = record {
  more = more;
  fits = read.fits;
  named = sym (in_record (λ s five wide at. cstring_at s (word_at s at)) read) ∙ found.some;
  is_below = below ∙ in_record (λ s five wide at. word_at s (at + 4)) read;
  is_offset = offset ∙ in_record (λ s five wide at. word_at s (at + 8)) read;
}

-- A type passed its tests, and its node was written.
entered : {chunk : Chunk} {r : Record} {at : ℕ} {mn : Text} {mo levels : ℕ} {capacity n : Counts} {counted k : ℕ} {types path types₁ : List ℕ}
    {count first stride : ℕ} {known : Bool} {node : TypeDesc}
    → levels ≤ type_levels → length path ≡ type_levels → HasRoom type_width capacity.types n.types types → (levels ≡ 0 → ⊥)
    → known ≡ on_path at (take (type_levels - levels) path) → known ≡ false
    → Claimed capacity.types n.types counted k
    → stride ≡ type_stride chunk.sm5 → RecordAt chunk at stride r
    → node ≡ type_record (node_from_chunk r.chunk.bytes.now r.chunk.sm5 r.at mn mo) → types₁ ≡ put_record type_width types k (type_words_in_table node)
    → count ≡ high_at r.chunk.bytes.now (r.at + 8) → first ≡ word_at r.chunk.bytes.now (r.at + 12)
    → Entered chunk.bytes.now chunk.sm5 at mn mo levels capacity n types path types₁ count first
entered {chunk} {at = at} {mn} {mo} {n = n} {types = types} {node = node}
    levels_fit path_long types_fit level is_known fresh claimed is_stride read is_node put count first = record {
      levels_fit = levels_fit;
      path_long = path_long;
      types_fit = types_fit;
      level = level;
      fresh = sym is_known ∙ fresh;
      free = claimed.free;
      fits = sym (ap (inside (length chunk.bytes.now) at) is_stride) ∙ read.fits;
      put = put
          ∙ ap (λ (x : ℕ). put_record type_width types x (type_words_in_table node)) claimed.is
          ∙ ap (λ (x : TypeDesc). put_record type_width types n.types (type_words_in_table x))
          (is_node ∙ in_record (λ s five wide at. type_record (node_from_chunk s five at mn mo)) read);
      is_count = count ∙ in_record (λ s five wide at. high_at s (at + 8)) read;
      is_first = first ∙ in_record (λ s five wide at. word_at s (at + 12)) read;
    }

-- Whether a type's name is good, by what the code tests.
named : {chunk : Chunk} {r : Record} {at size : ℕ} {b : Bool} → RecordAt chunk at size r → is_some (type_name_at r.chunk.bytes.now r.chunk.sm5 r.at) ≡ b
    → is_some (type_name_at chunk.bytes.now chunk.sm5 at) ≡ b
named read is = sym (in_record (λ s five wide at. is_some (type_name_at s five at)) read) ∙ is

-- The member's record runs past the chunk.
pub walk_members-returns-in_err-record-clause-walked : goal.walk_members-returns-in_err-record-clause-walked
walk_members-returns-in_err-record-clause-walked t c =
    let p = err_from_is_err_and c.from_residual.result c.from_residual.ensures.1 in
    rw (p.1, p.2, c.in_err-record.ensures.refusal)
    (ends_short c.loop.invariant.going (omega arith) (rw c.loop.invariant.chunk at c.in_err-record.ensures.outside))

-- The member's name is bad.
pub walk_members-returns-in_err-name-clause-walked : goal.walk_members-returns-in_err-name-clause-walked
walk_members-returns-in_err-name-clause-walked t c =
    let p = err_from_is_err_and c.from_residual-in_err-name.result c.from_residual-in_err-name.ensures.1 in
    let read = rw c.loop.invariant.chunk at c.in_ok-record.ensures.read in
    let bad = not_found _ c.in_err-name.ensures in
    rw (p.1, p.2, bad.refusal)
    (ends_bad c.loop.invariant.going (omega arith) read.fits
    (sym (in_record (λ s five wide at. cstring_at s (word_at s at)) read) ∙ bad.none))

-- The walk of the member's type refused.
pub walk_members-returns-in_err-walk_type-clause-walked : goal.walk_members-returns-in_err-walk_type-clause-walked
walk_members-returns-in_err-walk_type-clause-walked t c =
    let p = err_from_is_err_and c.from_residual-in_err-walk_type.result c.from_residual-in_err-walk_type.ensures.1 in
    let taken = c.in_ok-record.ensures in
    let found = text_found _ _ c.in_ok-name.ensures in
    rw (p.1, p.2)
    (ends_below c.loop.invariant.going
    (member_at (omega arith) (rw c.loop.invariant.chunk at taken.read) found c.word-in-loop.ensures c.word.ensures) found.is
    (walked_within c.loop.invariant.kept.capacity (rw (taken.chunk, c.loop.invariant.chunk) at c.in_err-walk_type.ensures.walked)))

-- The next member.
pub walk_members-loop-preserved : goal.walk_members-loop-preserved
walk_members-loop-preserved t c =
    let taken = c.in_ok-record.ensures in
    let found = text_found _ _ c.in_ok-name.ensures in
    let kept = c.in_ok-walk_type.ensures.kept in
    record {
      going = rw taken.at
          (goes_on c.loop.invariant.going
          (member_at (omega arith) (rw c.loop.invariant.chunk at taken.read) found c.word-in-loop.ensures c.word.ensures) found.is
          (walked_within c.loop.invariant.kept.capacity (rw (taken.chunk, c.loop.invariant.chunk) at c.in_ok-walk_type.ensures.walked))
          kept.types_long (c.walk_type.new.filling.path_long ∙ sym c.loop.filling.path_long) (omega arith));
      chunk = taken.chunk ∙ c.loop.invariant.chunk;
      kept = types_then c.loop.invariant.kept kept;
    }

-- No member is left.
pub walk_members-returns-clause-walked : goal.walk_members-returns-clause-walked
walk_members-returns-clause-walked t c = ends c.loop.invariant.going (omega arith)

-- Too deep.
pub walk_type-returns-then-levels-eq0-clause-walked : goal.walk_type-returns-then-levels-eq0-clause-walked
walk_type-returns-then-levels-eq0-clause-walked t c = stops_deep _ _ _ _ _ _ _ _ _ _ c.if-levels-eq0.true

-- Already on the path.
pub walk_type-returns-then-contains-clause-walked : goal.walk_type-returns-then-contains-clause-walked
walk_type-returns-then-contains-clause-walked t c =
    stops_cycle _ _ _ _ _ _ _ _ _ _ c.if-levels-eq0.false (sym (c.contains.ensures.value ∙ on_path_by_search _ _) ∙ c.if-contains.true)

-- No room.
pub walk_type-returns-in_err-n-clause-walked : goal.walk_type-returns-in_err-n-clause-walked
walk_type-returns-in_err-n-clause-walked t c =
    let p = err_from_is_err_and c.from_residual.result c.from_residual.ensures.1 in
    rw (p.1, p.2, c.in_err-n.ensures.refusal)
    (stops_full _ _ _ _ _ _ _ _ _ _ c.if-levels-eq0.false (sym (c.contains.ensures.value ∙ on_path_by_search _ _) ∙ c.if-contains.false)
    c.in_err-n.ensures.full)

-- Past the chunk.
pub walk_type-returns-in_err-record-clause-walked : goal.walk_type-returns-in_err-record-clause-walked
walk_type-returns-in_err-record-clause-walked t c =
    let p = err_from_is_err_and c.from_residual-in_err-record.result c.from_residual-in_err-record.ensures.1 in
    rw (p.1, p.2, c.in_err-record.ensures.refusal)
    (stops_short _ _ _ _ _ _ _ _ _ _ c.if-levels-eq0.false (sym (c.contains.ensures.value ∙ on_path_by_search _ _) ∙ c.if-contains.false) c.in_ok-n.ensures.free
    (sym (ap (inside (length c.args.chunk.bytes.now) c.args.at) c.type_stride.ensures) ∙ c.in_err-record.ensures.outside))

-- The walk of the members refused.
pub walk_type-returns-in_err-walk_members-clause-walked : goal.walk_type-returns-in_err-walk_members-clause-walked
walk_type-returns-in_err-walk_members-clause-walked t c =
    let p = err_from_is_err_and c.from_residual-in_err-walk_members.result c.from_residual-in_err-walk_members.ensures.1 in
    rw (p.1, p.2)
    (stops_inside
    (entered c.requires c.args.filling.now.path_long c.args.filling.now.types_fit c.if-levels-eq0.false
    (c.contains.ensures.value ∙ on_path_by_search _ _) c.if-contains.false c.in_ok-n.ensures c.type_stride.ensures c.in_ok-record.ensures
    c.type_node-node.ensures c.put_type.ensures c.high.ensures c.word.ensures)
    (rw c.in_ok-n.ensures.one_more at c.in_err-walk_members.ensures.walked))

-- All members are walked, and the type's name is bad.
pub walk_type-returns-then-is_none-clause-walked : goal.walk_type-returns-then-is_none-clause-walked
walk_type-returns-then-is_none-clause-walked t c =
    stops_unnamed
    (entered c.requires c.args.filling.now.path_long c.args.filling.now.types_fit c.if-levels-eq0.false
    (c.contains.ensures.value ∙ on_path_by_search _ _) c.if-contains.false c.in_ok-n.ensures c.type_stride.ensures c.in_ok-record.ensures
    c.type_node-node.ensures c.put_type.ensures c.high.ensures c.word.ensures)
    (rw c.in_ok-n.ensures.one_more at c.in_ok-walk_members.ensures.walked)
    (named c.in_ok-record.ensures (sym (still_some _) ∙ ap is_some (sym c.type_name_at-name.ensures) ∙ c.is_none.ensures ∙ ap not c.if-is_none.true))

-- All members are walked, and the type's name is good.
pub walk_type-returns-clause-walked : goal.walk_type-returns-clause-walked
walk_type-returns-clause-walked t c =
    arrives
    (entered c.requires c.args.filling.now.path_long c.args.filling.now.types_fit c.if-levels-eq0.false
    (c.contains.ensures.value ∙ on_path_by_search _ _) c.if-contains.false c.in_ok-n.ensures c.type_stride.ensures c.in_ok-record.ensures
    c.type_node-node.ensures c.put_type.ensures c.high.ensures c.word.ensures)
    (rw c.in_ok-n.ensures.one_more at c.in_ok-walk_members.ensures.walked)
    (named c.in_ok-record.ensures (sym (still_some _) ∙ ap is_some (sym c.type_name_at-name.ensures) ∙ c.is_none.ensures ∙ ap not c.if-is_none.false))
