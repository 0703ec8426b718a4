-- What a function that writes into lent bytes leaves. Assumes nothing.
use Rattle.std.specs.Prelude.{ℕ, ◌+◌, ◌≤◌, ◌≡◌, List, [], ◌∷◌, ◌++◌, length}
use Rattle.std.proofs.lemmas.List.Edits.{sets}
use Rattle.record.specs.Characters.{line_feed}
use Rattle.text_form.specs.Rows.{value_cell}

-- xs stands from `at` on and all else stays; `next` is the place after xs, whose length is at most `most`
pub record Written (before after : List ℕ) (at : ℕ) (xs : List ℕ) (most next : ℕ) : Type 0 where
  pub bytes : after ≡ sets before at xs
  pub place : next ≡ at + length xs
  pub within : next ≤ at + most

-- the value's cell ends its row
abbrev pub last_cell : List ℕ → List ℕ
last_cell bytes = value_cell bytes ++ (line_feed ∷ [])
