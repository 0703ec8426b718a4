use native.Mathlib.Omega.{arith}
use Rattle.internal_methods.proofs.Longer.{ask_keys-longer, methods-longer}
use Rattle.own_keys.proofs.FitLaws.{still_fit}
use Rattle.own_keys.proofs.+keys_of_target_proxy_exotic_own_property_keys.Goals as goal

pub proxy_exotic_own_property_keys-keys_of_target-requires-2 : goal.proxy_exotic_own_property_keys-keys_of_target-requires-2
proxy_exotic_own_property_keys-keys_of_target-requires-2 t c =
    let answered = still_fit ask_keys-longer c.in_ok-answered.ensures.result_value c.requires in
    (omega arith, still_fit ((methods-longer _ _).is_extensible _ tt) c.in_ok-extensible.ensures answered)
