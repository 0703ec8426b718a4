-- Keys, each in one word. Assumes nothing.

use Rattle.std.specs.Prelude.{ℕ, List, [], ◌∷◌, eqb}
use Rattle.store_read.specs.Answers.{key_from_word}
use Rattle.internal_methods.specs.KeyList.{Sorted}
use Rattle.internal_methods.specs.Proxy.{sorted_by}

-- the target's keys and their marks: 1 if a key counts as configurable
unfoldable pub sorted_from : List ℕ → List ℕ → Sorted
sorted_from [] marks = record { configurable = []; nonconfigurable = [] }
sorted_from (w ∷ ws) [] = record { configurable = []; nonconfigurable = [] }
sorted_from (w ∷ ws) (mark ∷ marks) = sorted_by (key_from_word w) (eqb mark 1) (sorted_from ws marks)
