use Prim.Native.Nat.{◌+◌, ◌*◌}
use Rattle.getting.proofs.+get_ordinary_get_proxy_exotic_get.Given as goal

abbrev pub decreases-get : goal.decreases-get
decreases-get l = 2 * l.depth

abbrev pub decreases-ordinary_get : goal.decreases-ordinary_get
decreases-ordinary_get l = 2 * l.depth + 1

abbrev pub decreases-proxy_exotic_get : goal.decreases-proxy_exotic_get
decreases-proxy_exotic_get l = 2 * l.depth + 1
