use mathlib.Core.Path.{sym, ap, ◌∙◌}
use lib.Seq.{sets}
use Rattle.record.specs.Bytes.{value_bytes}
use Rattle.record.specs.Characters.{hexadecimal}
use Rattle.record.proofs.RoundTrip.{length-value}
use Rattle.text_rows.proofs.RowLaws.{all_set}
use Rattle.property_page.proofs.lines.put_value.Goals as goal

pub returns : goal.returns
returns c = let v = c.args.v in
    c.put_hexadecimal.ensures.0 ∙ ap (λ bytes. sets c.args.out.now c.args.at (hexadecimal bytes)) (c.put_value.ensures ∙ all_set (value_bytes v) _ (sym (length-value v)))
