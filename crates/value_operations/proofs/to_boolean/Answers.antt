use borrow.Author.Rules.{rules}
use Rattle.value.specs.Value.{to_boolean}
use Rattle.value.proofs.Truth.{int-true}
use Rattle.value_operations.proofs.to_boolean.Goals as goal

pub returns-in-Integer32 : goal.returns-in-Integer32
unfolding to_boolean
returns-in-Integer32 c = rw c.in-Integer32.is (int-true _ (search rules))
