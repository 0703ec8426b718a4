use Rattle.store.specs.Words.{property_of}
use Rattle.store_read.proofs.ReadLaws.{odd-flag, even-flag}
use Rattle.benchmark_store.specs.Export.{row_property}
use Rattle.benchmark_store.proofs.property_of.Goals as goal

pub returns-then-flags-eq1 : goal.returns-then-flags-eq1
unfolding row_property property_of
returns-then-flags-eq1 c = rw (odd-flag _ c.if-flags-eq1.true, c.value_of-a.ensures, c.value_of-b.ensures)

pub returns : goal.returns
unfolding row_property property_of
returns c = rw (even-flag _ c.if-flags-eq1.false, c.value_of-a.ensures)
