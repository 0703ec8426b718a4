use Prim.Native.Nat.{◌+◌, ◌*◌}
use Rattle.prototypes.proofs.set_prototype.+set_prototype_of_proxy_exotic_set_prototype_of.Given as goal

abbrev pub decreases-set_prototype_of : goal.decreases-set_prototype_of
decreases-set_prototype_of l = 2 * l.depth

abbrev pub decreases-proxy_exotic_set_prototype_of : goal.decreases-proxy_exotic_set_prototype_of
decreases-proxy_exotic_set_prototype_of l = 2 * l.depth + 1
