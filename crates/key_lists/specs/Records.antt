-- The target's keys as records. Assumes nothing.
use Rattle.std.specs.Prelude.{ℕ, List, [], ◌∷◌, eqb}
use Rattle.store_read.specs.Answers.{key_from_word}
use Rattle.internal_methods.specs.KeyList.{Sorted}
use Rattle.internal_methods.specs.Proxy.{sorted_by}
use Rattle.key_lists.specs.declared.target_keys.TargetKey.{TargetKey}

-- sorted by their marks, as step 16 does
unfoldable pub sorted_keys : List TargetKey → Sorted
sorted_keys [] = record { configurable = []; nonconfigurable = [] }
sorted_keys (t ∷ ts) = sorted_by (key_from_word t.key) t.configurable (sorted_keys ts)

-- of words and marks: 1 if a key counts as configurable
unfoldable pub records_of : List ℕ → List ℕ → List TargetKey
records_of [] marks = []
records_of (w ∷ ws) [] = []
records_of (w ∷ ws) (mark ∷ marks) = record { key = w; configurable = eqb mark 1 } ∷ records_of ws marks
