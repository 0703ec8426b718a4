use Rattle.byte_records.proofs.DescriptorLaws.{store-descriptor}
use Rattle.byte_records.proofs.descriptor_record.put_descriptor.Goals as goal

pub returns : goal.returns
returns c = rw (c.put_value-3.ensures, c.put_value-2.ensures, c.put_value.ensures, c.unwrap_or.ensures, c.unwrap_or-2.ensures, c.unwrap_or-3.ensures, c.mask_of.ensures.0, c.flags_of.ensures.0) (store-descriptor _ _ _)
