use Prim.Native.Nat.{◌+◌, ◌*◌}
use Rattle.own_keys.proofs.+keys_of_target_proxy_exotic_own_property_keys.Given as goal

abbrev pub decreases-keys_of_target : goal.decreases-keys_of_target
decreases-keys_of_target l = 2 * l.depth

abbrev pub decreases-proxy_exotic_own_property_keys : goal.decreases-proxy_exotic_own_property_keys
decreases-proxy_exotic_own_property_keys l = 2 * l.depth + 1
