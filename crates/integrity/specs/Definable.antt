-- Keys that a store's words can hold. Assumes nothing.
use Rattle.std.specs.Prelude.{ℕ, ◌^◌, ◌<◌, List, get_or, length}
use Rattle.value.specs.PropertyKey.{key_number}
use Rattle.store_read.specs.Answers.{key_from_word}

abbrev pub AreDefinable : List ℕ → Type 0
AreDefinable keys = (i : ℕ) → i < length keys → key_number (key_from_word (get_or keys i 0)) < 2 ^ 58
