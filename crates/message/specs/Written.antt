-- A text in lent bytes. Assumes nothing.
use Rattle.std.specs.Prelude.{ℕ, cond, List, leb, length}
use Rattle.text.specs.Table.{overwrite}

-- from the start on, where all of it fits; other bytes stay
unfoldable pub written : List ℕ → List ℕ → List ℕ
written text bytes = cond (leb (length text) (length bytes)) (overwrite bytes 0 text) bytes
