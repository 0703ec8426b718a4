use Prim.Native.Nat.{◌+◌, ◌*◌}
use Rattle.has_property.proofs.+has_property_ordinary_has_property_proxy_exotic_has_property.Given as goal

abbrev pub decreases-has_property : goal.decreases-has_property
decreases-has_property l = 2 * l.depth

abbrev pub decreases-ordinary_has_property : goal.decreases-ordinary_has_property
decreases-ordinary_has_property l = 2 * l.depth + 1

abbrev pub decreases-proxy_exotic_has_property : goal.decreases-proxy_exotic_has_property
decreases-proxy_exotic_has_property l = 2 * l.depth + 1
