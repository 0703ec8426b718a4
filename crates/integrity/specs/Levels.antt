-- The code's levels are the definitions'. Assumes nothing.
use Rattle.steps.specs.Operation.{Level, sealed, frozen}
use Rattle.integrity.specs.declared.IntegrityLevel.{IntegrityLevel}
use Rattle.integrity.specs.declared.IntegrityLevel.TheVariants.{Sealed, Frozen}

abbrev pub integrity_level : IntegrityLevel → Level
integrity_level Sealed = sealed
integrity_level Frozen = frozen
