use borrow.Author.Rules.{rules}
use Rattle.performing.proofs.CreationLaws.{negative_number, positive_number, number_fits}
use Rattle.performing.proofs.creation.natural_number.Goals as goal

pub returns-then-n-lt0 : goal.returns-then-n-lt0
returns-then-n-lt0 c = negative_number c.args.n (search rules) c.if-n-lt0.true

pub overflow_cast-result : goal.overflow_cast-result
overflow_cast-result c = number_fits c.args.n (search rules) c.if-n-lt0.false

pub returns-else-n-lt0 : goal.returns-else-n-lt0
returns-else-n-lt0 c = positive_number c.args.n (search rules) c.if-n-lt0.false
