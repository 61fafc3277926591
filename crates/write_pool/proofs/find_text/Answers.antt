use mathlib.Core.Path.{sym, ap, ◌∙◌}
use Prim.Native.Nat.{ℕ, ◌+◌, ◌-◌}
use native.Mathlib.Omega.{arith}
use lib.ListN.{get_or}
use Rattle.text.specs.Same.{same_bytes}
use Rattle.reflection.specs.declared.Text.{Text}
use Rattle.reflection.specs.Texts.{text_bytes}
use Rattle.write_pool.specs.Pool.{entry_text, entry_offset, entry_link}
use Rattle.write_pool.proofs.Links.{searching_begins, searching_ends, searching_goes_on, searching_finds_none, link_falls}
use Rattle.write_pool.proofs.find_text.Goals as goal

pub loop-link-init : goal.loop-link-init
loop-link-init c =
    searching_begins _ _ _ _ c.requires (ap (λ (b : ℕ). get_or c.args.pool.now (1 + b) 0) c.args.wanted.in_bucket)

pub returns-then-same_text : goal.returns-then-same_text
unfolding entry_text entry_offset
returns-then-same_text c =
    let a = c.args in
    let same-as = λ (t : Text). same_bytes a.wanted.bytes.now (text_bytes a.texts.chunk.now a.texts.edits.now t) in
    let same =
    ap same-as (sym c.from-text.ensures) ∙ ap (same_bytes a.wanted.bytes.now) (sym c.name_part.ensures) ∙ sym c.same_text.ensures
    ∙ c.if-same_text.true
    in
    sym (searching_ends _ _ _ _ (c.loop-link.link - 1) (omega arith) c.loop-link.invariant same)

pub loop-link-smaller : goal.loop-link-smaller
unfolding entry_link
loop-link-smaller c =
    link_falls _ _ _ _ (c.loop-link.link - 1) (omega arith) c.loop-link.invariant c.requires

pub loop-link-preserved : goal.loop-link-preserved
unfolding entry_text entry_link
loop-link-preserved c =
    let a = c.args in
    let same-as = λ (t : Text). same_bytes a.wanted.bytes.now (text_bytes a.texts.chunk.now a.texts.edits.now t) in
    let other =
    ap same-as (sym c.from-text.ensures) ∙ ap (same_bytes a.wanted.bytes.now) (sym c.name_part.ensures) ∙ sym c.same_text.ensures
    ∙ c.if-same_text.false
    in
    searching_goes_on _ _ _ _ (c.loop-link.link - 1) (omega arith) c.loop-link.invariant c.requires other

pub returns : goal.returns
returns c =
    sym (searching_finds_none _ _ _ _ (omega arith) c.loop-link.invariant)
