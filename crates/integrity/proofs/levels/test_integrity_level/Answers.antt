use Rattle.internal_methods.proofs.Longer.{methods-longer}
use Rattle.own_keys.proofs.FitLaws.{still_fit}
use Rattle.integrity.proofs.levels.test_integrity_level.Goals as goal

pub own_property_keys-requires : goal.own_property_keys-requires
own_property_keys-requires c = still_fit ((methods-longer _ _).is_extensible _ tt) c.in_ok-extensible.ensures c.requires
