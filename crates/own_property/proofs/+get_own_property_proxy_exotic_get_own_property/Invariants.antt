-- [[GetOwnProperty]] of both kinds is what the definitions say. Assumes nothing.
use Prim.Native.Nat.{◌+◌, ◌*◌}
use Rattle.own_property.proofs.+get_own_property_proxy_exotic_get_own_property.Given as goal

abbrev pub decreases-get_own_property : goal.decreases-get_own_property
decreases-get_own_property l = 2 * l.depth

abbrev pub decreases-proxy_exotic_get_own_property : goal.decreases-proxy_exotic_get_own_property
decreases-proxy_exotic_get_own_property l = 2 * l.depth + 1
