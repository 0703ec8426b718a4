use Prim.Native.Nat.{◌+◌, ◌*◌}
use Rattle.setting.proofs.+set_ordinary_set_proxy_exotic_set.Given as goal

abbrev pub decreases-set : goal.decreases-set
decreases-set l = 2 * l.depth

abbrev pub decreases-ordinary_set : goal.decreases-ordinary_set
decreases-ordinary_set l = 2 * l.depth + 1

abbrev pub decreases-proxy_exotic_set : goal.decreases-proxy_exotic_set
decreases-proxy_exotic_set l = 2 * l.depth + 1
