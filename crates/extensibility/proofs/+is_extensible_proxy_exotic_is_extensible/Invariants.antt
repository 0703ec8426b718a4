use Prim.Native.Nat.{◌+◌, ◌*◌}
use Rattle.extensibility.proofs.+is_extensible_proxy_exotic_is_extensible.Given as goal

abbrev pub decreases-is_extensible : goal.decreases-is_extensible
decreases-is_extensible l = 2 * l.depth

abbrev pub decreases-proxy_exotic_is_extensible : goal.decreases-proxy_exotic_is_extensible
decreases-proxy_exotic_is_extensible l = 2 * l.depth + 1
