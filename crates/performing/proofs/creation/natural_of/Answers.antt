use lib.IntN.{ℤ}
use mathlib.Core.Path.{◌∙◌, ◌≡◌, ap}
use mir.Syntax.{w32}
use mir.Val.{of_z, to_z}
use Rattle.steps.specs.Operation.{natural_number}
use Rattle.performing.proofs.CreationLaws.{no_number}
use borrow.Author.Rules.{rules}
use borrow.Enum.Refused.{opened}
use Rattle.performing.proofs.creation.natural_of.Goals as goal

pub returns-in-Integer32 : goal.returns-in-Integer32
returns-in-Integer32 c = let e : to_z w32 (of_z w32 c.in-Integer32.n) ≡ c.in-Integer32.n = search rules in rw c.in-Integer32.is (c.natural_number.ensures ∙ ap (λ (z : ℤ). natural_number z) e)

pub returns-in_default : goal.returns-in_default
returns-in_default c = no_number c.args.v (opened c.in_default.in_default-own.keys2)
