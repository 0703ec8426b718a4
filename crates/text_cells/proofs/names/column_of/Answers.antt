use Rattle.std.proofs.Common.{◌≡◌, true, false, get_or, [], rules, tests}
use Rattle.std.proofs.lemmas.Iterator.{first_from_Range}
use Rattle.text.specs.Strings.{same_text}
use Rattle.text.proofs.TextLaws.{same-as}
use Rattle.text_form.specs.Cells.{cells_of}
use Rattle.text_cells.proofs.NameLaws.{column-first}
use Rattle.text_cells.proofs.names.column_of.Goals as goal

pub returns : goal.returns
returns c =
    let f = first_from_Range _ _ _ c.find.result (λ i. same_text (get_or (cells_of c.args.line.now) i []) c.args.name.now ≡ true) (λ i. same_text (get_or (cells_of c.args.line.now) i []) c.args.name.now ≡ false) c.find.ensures.ran (λ x q k. search (rules, tests, same-as)) (λ x q k. search (rules, tests, same-as)) in
    column-first _ _ _ c.requires.1 f
