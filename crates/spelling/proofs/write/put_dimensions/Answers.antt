-- `put_dimensions` meets its contract: by the class that the number is, or nothing.
use mathlib.Core.List.{[]}
use mathlib.Core.Path.{◌∙◌}
use Rattle.text_output.specs.Digits.{decimal}
use mathlib.Core.Logic.{inl, inr}
use Rattle.text_output.proofs.Appended.{appended_none}
use Rattle.spelling.proofs.WritePieces.{class_read, class_unread}
use Rattle.spelling.proofs.write.put_dimensions.Goals as goal

pub returns-in_err-known-clause-text : goal.returns-in_err-known-clause-text
returns-in_err-known-clause-text c =
    let a = c.args in
    let e = class_unread a.t.class a.t.rows a.t.columns c.try_from.result c.try_from.ensures.0 c.in_err-known.ensures.value in
    rw c.from_residual.ensures (record { bytes = []; is = e; put = appended_none a.out.now })

pub returns-in-Scalar-clause-text : goal.returns-in-Scalar-clause-text
returns-in-Scalar-clause-text c =
    let a = c.args in
    let e = class_read a.t.class a.t.rows a.t.columns c.in_ok-known.known c.try_from.result c.try_from.ensures.0 c.in_ok-known.ensures.value in
    record { bytes = []; is = e ∙ rw c.in-Scalar.is; put = appended_none a.out.now }

pub returns-in-Vector-clause-text : goal.returns-in-Vector-clause-text
returns-in-Vector-clause-text c =
    let a = c.args in
    let e = class_read a.t.class a.t.rows a.t.columns c.in_ok-known.known c.try_from.result c.try_from.ensures.0 c.in_ok-known.ensures.value in
    record { bytes = decimal a.t.columns; is = e ∙ rw c.in-Vector.is; put = c.put_decimal.ensures.text }

pub returns-in-MatrixRows-clause-text : goal.returns-in-MatrixRows-clause-text
returns-in-MatrixRows-clause-text c =
    let a = c.args in
    let e = class_read a.t.class a.t.rows a.t.columns c.in_ok-known.known c.try_from.result c.try_from.ensures.0 c.in_ok-known.ensures.value in
    record { bytes = _; is = e ∙ elim c.in-MatrixRows.is [ inl x ↦ rw x | inr x ↦ rw x ]; put = c.put_matrix.ensures.text }

pub returns-in-Object-clause-text : goal.returns-in-Object-clause-text
returns-in-Object-clause-text c =
    let a = c.args in
    let e = class_read a.t.class a.t.rows a.t.columns c.in_ok-known.known c.try_from.result c.try_from.ensures.0 c.in_ok-known.ensures.value in
    let none = e ∙ elim c.in-Object.is [
      | inl x ↦ rw x
      | inr other ↦ elim other [ inl x ↦ rw x | inr other ↦ elim other [ inl x ↦ rw x | inr x ↦ rw x ] ]
    ] in
    record { bytes = []; is = none; put = appended_none a.out.now }
