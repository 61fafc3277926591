-- `put_matrix` meets its contract: rows, `x`, columns.
use Rattle.text_output.proofs.Appended.{appended_then}
use Rattle.spelling.proofs.write.put_matrix.Goals as goal

pub returns-clause-text : goal.returns-clause-text
returns-clause-text c = appended_then c.put_decimal.ensures.text (appended_then c.put_byte.ensures c.put_decimal-2.ensures.text)
