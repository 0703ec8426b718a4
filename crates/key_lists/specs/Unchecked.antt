-- The keys of an answered list that are not checked off. Assumes nothing.
use Rattle.std.specs.Prelude.{ℕ, Bool, true, false, cond, List, [], ◌∷◌, eqb, Option, None, Some}
use Rattle.value.specs.declared.PropertyKey.{PropertyKey}
use Rattle.store_read.specs.Answers.{key_from_word}

-- stands for a key that was checked off; no key of an answered list has this word
abbrev pub checked_mark : ℕ
checked_mark = 18446744073709551615

-- the keys that are not checked off
unfoldable pub unchecked : List ℕ → List PropertyKey
unchecked [] = []
unchecked (w ∷ ws) = cond (eqb w checked_mark) (unchecked ws) (key_from_word w ∷ unchecked ws)

abbrev pub unless_missing : Bool → List PropertyKey → Option (List PropertyKey)
unless_missing true keys = Some keys
unless_missing false keys = None
