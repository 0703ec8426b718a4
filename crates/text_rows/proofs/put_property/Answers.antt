use native.Mathlib.Omega.{arith}
use mathlib.Core.Path.{sym}
use Rattle.record.specs.Descriptor.{descriptor_bytes}
use Rattle.property.specs.Descriptor.{descriptor_of, from_property_descriptor}
use Rattle.text_rows.proofs.RowLaws.{length-descriptor, widen, filled-written}
use Rattle.text_rows.proofs.put_property.Goals as goal

pub returns : goal.returns
returns c = let d = from_property_descriptor (descriptor_of c.args.p) in
    let e = rw (c.from_property_descriptor.ensures, c.descriptor_of.ensures) at c.put_descriptor.ensures in
    widen 59 (omega (arith, length-descriptor d)) (filled-written _ _ (descriptor_bytes d) e (sym (length-descriptor d)) c.put_bytes.ensures)
