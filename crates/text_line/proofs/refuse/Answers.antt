use native.Mathlib.Omega.{arith}
use Rattle.text_line.proofs.LineLaws.{refused-held, refused-done}
use borrow.Author.Rules.{rules}
use Rattle.text_line.proofs.refuse.Goals as goal

pub put_row-requires : goal.put_row-requires
put_row-requires c = (search rules, refused-held _ c.refused.ensures)

pub returns : goal.returns
returns c = refused-done _ _ c.requires.0 _ _ _ _ _ c.refused.ensures c.put_row.ensures.rows_after (omega (arith, c.put_row.ensures.upper_bound, c.requires.1))
