use Prim.Native.Nat.{◌+◌, ◌*◌}
use Rattle.extensibility.proofs.prevention.+prevent_extensions_proxy_exotic_prevent_extensions.Given as goal

abbrev pub decreases-prevent_extensions : goal.decreases-prevent_extensions
decreases-prevent_extensions l = 2 * l.depth

abbrev pub decreases-proxy_exotic_prevent_extensions : goal.decreases-proxy_exotic_prevent_extensions
decreases-proxy_exotic_prevent_extensions l = 2 * l.depth + 1
