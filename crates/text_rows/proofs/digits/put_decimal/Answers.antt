use native.Mathlib.Omega.{arith}
use mathlib.Core.Path.{refl}
use Rattle.text_rows.proofs.DigitLaws.{one-digit, decimal-fits}
use Rattle.text_rows.proofs.digits.put_decimal.Goals as goal

pub returns-then-n-lt10 : goal.returns-then-n-lt10
returns-then-n-lt10 c = record { out_after = rw (one-digit _ c.if-n-lt10.true) (refl, refl); upper_bound = omega arith }

pub put_digits-requires : goal.put_digits-requires
put_digits-requires c = omega (arith, decimal-fits c.args.n (omega arith))

pub returns : goal.returns
returns c = record { out_after = c.put_digits.ensures; upper_bound = omega (arith, decimal-fits c.args.n (omega arith)) }
