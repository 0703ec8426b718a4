use Prim.Native.Nat.{ℕ, ◌<◌}
use mathlib.Core.Bool.{false}
use mathlib.Core.Path.{◌≡◌}
use Rattle.text.specs.Strings.{same_text}
use Rattle.text.specs.Table.{text_at}
use Rattle.text.proofs.entry.find.Given as goal

abbrev pub invariant-loop-n : goal.invariant-loop-n
invariant-loop-n l = (k : ℕ) → k < l.n → same_text (text_at l.cells k) l.units ≡ false
