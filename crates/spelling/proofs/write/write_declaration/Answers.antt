-- `write_declaration` meets its contract: a refusal, or four puts in a row.
use mathlib.Core.List.{[]}
use mathlib.Core.Path.{sym, ap, ◌∙◌}
use native.Mathlib.Omega.{arith}
use lib.ListN.{length}
use Rattle.std.proofs.lemmas.Result.{err_from_is_err_and}
use Rattle.text_output.proofs.Appended.{appended_none, appended_then}
use Rattle.reflection.specs.Texts.{text_bytes}
use Rattle.text_output.proofs.NameLength.{name_at_most}
use Rattle.spelling.proofs.WriteRefusals.{declared_type_unreadable, declared_name_unprintable, declared_by_type, declared_line}
use Rattle.spelling.proofs.write.write_declaration.Goals as goal
use Rattle.spelling.proofs.write.write_declaration.Goals.{then-not-type_readable-via-then-not-type_readable, then-not-type_readable-via-else-not-type_readable+then-not-printable}

pub returns-then-not-type_readable : goal.returns-then-not-type_readable
returns-then-not-type_readable c =
    let a = c.args in
    elim c.then-not-type_readable.branch [
      | then-not-type_readable-via-then-not-type_readable w ↦
          let unreadable = sym c.type_readable.ensures ∙ w.if-not-type_readable.true in
          let refused = declared_type_unreadable a.texts.chunk.now a.texts.edits.now a.t a.name unreadable in
          record { bytes = []; is = refused; put = appended_none a.out.now }
      | then-not-type_readable-via-else-not-type_readable+then-not-printable w ↦
          let refused = declared_name_unprintable a.texts.chunk.now a.texts.edits.now a.t a.name (sym w.printable.ensures ∙ w.if-not-printable.true) in
          record { bytes = []; is = refused; put = appended_none a.out.now }
    ]

pub returns-in_err-write_readable_type : goal.returns-in_err-write_readable_type
returns-in_err-write_readable_type c =
    let a = c.args in
    let p = err_from_is_err_and c.from_residual.result c.from_residual.ensures.1 in
    let by_type = declared_by_type a.texts.chunk.now a.texts.edits.now a.t a.name (sym c.printable.ensures ∙ c.if-not-printable.false) in
    let refused = c.in_err-write_readable_type.ensures.text in
    let line = declared_line (text_bytes a.texts.chunk.now a.texts.edits.now a.name) in
    rw (p.1, p.2) (record { bytes = refused.bytes; is = by_type ∙ ap line refused.is; put = refused.put })

pub put_byte-requires-2 : goal.put_byte-requires-2
put_byte-requires-2 c =
    let a = c.args in
    omega (arith, c.in_ok-write_readable_type.ensures.near, ap length c.name_part.ensures, name_at_most a.texts.chunk.now a.texts.edits.now a.name)

pub returns : goal.returns
returns c =
    let a = c.args in
    let by_type = declared_by_type a.texts.chunk.now a.texts.edits.now a.t a.name (sym c.printable.ensures ∙ c.if-not-printable.false) in
    let type = c.in_ok-write_readable_type.ensures.text in
    let name = rw c.name_part.ensures at c.put_bytes.ensures in
    let line = declared_line (text_bytes a.texts.chunk.now a.texts.edits.now a.name) in
    let put = appended_then type.put (appended_then c.put_byte.ensures (appended_then name c.put_byte-2.ensures)) in
    record { bytes = _; is = by_type ∙ ap line type.is; put = put }
