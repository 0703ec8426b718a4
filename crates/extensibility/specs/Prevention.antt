-- The write of 10.1.4.1. Assumes nothing.
use Rattle.std.specs.Prelude.{ℕ, false}
use Rattle.store.specs.declared.OrdinaryObject.{OrdinaryObject}
use Rattle.store.specs.declared.Object.TheVariants.{Ordinary}
use Rattle.store_write.specs.declared.write.Write.{Write}
use Rattle.store_write.specs.declared.write.Write.TheVariants as write

abbrev pub prevention : ℕ → OrdinaryObject → Write
prevention o r = write.Object o (Ordinary (record { prototype = r.prototype; extensible = false }))
