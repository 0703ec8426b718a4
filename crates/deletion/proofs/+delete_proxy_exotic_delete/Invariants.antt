use Prim.Native.Nat.{◌+◌, ◌*◌}
use Rattle.deletion.proofs.+delete_proxy_exotic_delete.Given as goal

abbrev pub decreases-delete : goal.decreases-delete
decreases-delete l = 2 * l.depth

abbrev pub decreases-proxy_exotic_delete : goal.decreases-proxy_exotic_delete
decreases-proxy_exotic_delete l = 2 * l.depth + 1
