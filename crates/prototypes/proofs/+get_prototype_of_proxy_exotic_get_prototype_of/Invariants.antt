-- [[GetPrototypeOf]] is what its definition says; the body of a proxy is one step before the call of its target. Assumes nothing.
use Prim.Native.Nat.{◌+◌, ◌*◌}
use Rattle.prototypes.proofs.+get_prototype_of_proxy_exotic_get_prototype_of.Given as goal

abbrev pub decreases-get_prototype_of : goal.decreases-get_prototype_of
decreases-get_prototype_of l = 2 * l.depth

abbrev pub decreases-proxy_exotic_get_prototype_of : goal.decreases-proxy_exotic_get_prototype_of
decreases-proxy_exotic_get_prototype_of l = 2 * l.depth + 1
