use Prim.Native.Nat.{◌+◌, ◌*◌}
use Rattle.definition.proofs.+define_own_property_proxy_exotic_define_own_property.Given as goal

abbrev pub decreases-define_own_property : goal.decreases-define_own_property
decreases-define_own_property l = 2 * l.depth

abbrev pub decreases-proxy_exotic_define_own_property : goal.decreases-proxy_exotic_define_own_property
decreases-proxy_exotic_define_own_property l = 2 * l.depth + 1
