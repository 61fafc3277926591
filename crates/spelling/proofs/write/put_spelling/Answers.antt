-- `put_spelling` meets its contract: the own name, or base, dimensions and suffix in a row.
use mathlib.Core.List.{[]}
use mathlib.Core.Path.{sym, ◌∙◌}
use Rattle.text_output.proofs.Appended.{appended_none, appended_then}
use Rattle.spelling.proofs.WritePieces.{own_named, own_nameless, base_read, base_unread}
use Rattle.spelling.proofs.WritePieces.{no_base, no_dimensions, base_and_dimensions}
use Rattle.spelling.proofs.write.put_spelling.Goals as goal

pub returns-then-is_empty-clause-text : goal.returns-then-is_empty-clause-text
returns-then-is_empty-clause-text c =
    let a = c.args in
    let nameless = own_nameless a.name.now a.t (sym c.by_name.ensures ∙ c.if-by_name.true) (sym c.is_empty.ensures ∙ c.if-is_empty.true) in
    record { bytes = []; is = nameless; put = appended_none a.out.now }

pub returns-then-by_name-clause-text : goal.returns-then-by_name-clause-text
returns-then-by_name-clause-text c =
    let a = c.args in
    let named = own_named a.name.now a.t (sym c.by_name.ensures ∙ c.if-by_name.true) (sym c.is_empty.ensures ∙ c.if-is_empty.false) in
    record { bytes = a.name.now; is = named; put = c.put_bytes.ensures }

pub returns-in_err-known-clause-text : goal.returns-in_err-known-clause-text
returns-in_err-known-clause-text c =
    let a = c.args in
    let numbers = sym c.by_name.ensures ∙ c.if-by_name.false in
    let none = base_unread a.t.var_type c.try_from.result c.try_from.ensures.0 c.in_err-known.ensures.value in
    rw c.from_residual.ensures (record { bytes = []; is = no_base a.name.now a.t numbers none; put = appended_none a.out.now })

pub returns-in_err-put_dimensions-clause-text : goal.returns-in_err-put_dimensions-clause-text
returns-in_err-put_dimensions-clause-text c =
    let a = c.args in
    let numbers = sym c.by_name.ensures ∙ c.if-by_name.false in
    let base = base_read a.t.var_type c.in_ok-known.known c.try_from.result c.try_from.ensures.0 c.in_ok-known.ensures.value in
    let dims = c.in_err-put_dimensions.ensures.text in
    rw c.from_residual-in_err-put_dimensions.ensures
    (record { bytes = _; is = no_dimensions a.name.now a.t numbers base dims.is; put = appended_then c.put_bytes-2.ensures dims.put })

pub returns-clause-text : goal.returns-clause-text
returns-clause-text c =
    let a = c.args in
    let numbers = sym c.by_name.ensures ∙ c.if-by_name.false in
    let base = base_read a.t.var_type c.in_ok-known.known c.try_from.result c.try_from.ensures.0 c.in_ok-known.ensures.value in
    let dims = c.in_ok-put_dimensions.ensures.text in
    let name = rw c.base_name.ensures at c.put_bytes-2.ensures in
    let spelled = base_and_dimensions a.name.now a.t numbers base dims.is in
    record { bytes = _; is = spelled; put = appended_then name (appended_then dims.put c.put_suffix.ensures.text) }
