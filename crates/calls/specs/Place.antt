-- The place on the sheet. Assumes nothing.
use Rattle.std.specs.Prelude.{ℕ, ◌-◌}
use Rattle.calls.specs.declared.progress.Progress.{Progress}

abbrev pub progress : ℕ → ℕ → ℕ → Progress
progress at left calls = record { at = at; left = left; calls = calls }

-- past an answer that ends at `end`
abbrev pub after_answer : Progress → ℕ → Progress
after_answer s end = progress end (s.left - 1) s.calls
