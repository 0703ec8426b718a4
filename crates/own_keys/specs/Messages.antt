-- A TypeError by its message's number. Assumes nothing.
use Rattle.std.specs.Prelude.{ℕ, Result, Ok, Err, Option, None, Some}
use Rattle.internal_methods.specs.declared.Failure.{Failure}
use Rattle.internal_methods.specs.declared.Failure.TheVariants.{TypeError}

-- what `throw_any` comes to
abbrev pub thrown : Option ℕ → Result (Unit {0}) Failure
thrown None = Ok tt
thrown (Some n) = Err (TypeError n)
