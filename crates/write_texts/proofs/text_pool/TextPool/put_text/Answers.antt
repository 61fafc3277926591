-- `put_text` meets its contract: a default stands after padding.
use native.Mathlib.Omega.{arith}
use Rattle.text_output.proofs.Appended.{appended_then}
use Rattle.write_bytes.proofs.Stores.{padded_near}
use Rattle.write_texts.proofs.text_pool.TextPool.put_text.Goals as goal

pub overflow_cast-offset : goal.overflow_cast-offset
overflow_cast-offset c = omega (arith, padded_near c.put_padding.ensures.text, c.requires)

pub put_bytes-requires : goal.put_bytes-requires
put_bytes-requires c = omega (arith, padded_near c.put_padding.ensures.text, c.requires)

pub returns-in-Defaults-clause-text : goal.returns-in-Defaults-clause-text
returns-in-Defaults-clause-text c = rw c.in-Defaults.is (appended_then c.put_padding.ensures c.put_bytes.ensures)
