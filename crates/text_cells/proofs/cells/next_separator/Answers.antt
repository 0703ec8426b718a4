use Rattle.std.proofs.Common.{eqb, rules, tests}
use Rattle.std.proofs.lemmas.Iterator.{YieldsList-from_slice}
use Rattle.std.proofs.lemmas.Iterator.Search.{position_from_yields_List}
use Rattle.text_cells.proofs.CellLaws.{until-position}
use Rattle.text_cells.proofs.cells.next_separator.Goals as goal

pub returns : goal.returns
returns c = until-position c.args.bytes.now c.args.from c.args.separator c.requires
    (position_from_yields_List (λ b. eqb b c.args.separator) _ _ _ c.position.ensures.ran (YieldsList-from_slice _ cc) (λ x b q k. search (rules, tests)))
    c.unwrap_or.ensures
