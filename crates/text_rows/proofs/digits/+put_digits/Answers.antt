use Prim.Native.Nat.{◌/◌}
use native.Mathlib.Omega.{arith}
use native.Mathlib.Numerals.{add-one}
use mathlib.Core.Path.{refl, sym, ap}
use lib.ListN.{length, length-set}
use Rattle.record.specs.Characters.{decimal}
use Rattle.byte_records.proofs.ByteLaws.{sets-append}
use Rattle.text_rows.proofs.DigitLaws.{one-digit, two-decimal, by-hundred, length-hundred}
use Rattle.text_rows.proofs.digits.+put_digits.Goals as goal

pub bounds-out-at : goal.bounds-out-at
bounds-out-at t c = omega (arith, ap length (one-digit _ c.if-n-lt10.true))

pub returns-then-n-lt10 : goal.returns-then-n-lt10
returns-then-n-lt10 t c = rw (one-digit _ c.if-n-lt10.true) (refl, refl)

pub bounds-out-at-then-n-lt100 : goal.bounds-out-at-then-n-lt100
bounds-out-at-then-n-lt100 t c = omega (arith, ap length (two-decimal _ c.if-n-lt10.false c.if-n-lt100.true))

pub bounds-out-at-then-n-lt100-2 : goal.bounds-out-at-then-n-lt100-2
bounds-out-at-then-n-lt100-2 t c = simp length-set (omega (arith, ap length (two-decimal _ c.if-n-lt10.false c.if-n-lt100.true)))

pub overflow_add-result-then-n-lt100 : goal.overflow_add-result-then-n-lt100
overflow_add-result-then-n-lt100 t c = omega (arith, ap length (two-decimal _ c.if-n-lt10.false c.if-n-lt100.true))

pub returns-then-n-lt100 : goal.returns-then-n-lt100
returns-then-n-lt100 t c = rw (two-decimal _ c.if-n-lt10.false c.if-n-lt100.true, add-one c.args.at) (refl, refl)

pub put_digits-next-requires : goal.put_digits-next-requires
put_digits-next-requires t c = (omega arith, omega (arith, length-hundred _ c.if-n-lt100.false))

pub bounds-out-next : goal.bounds-out-next
bounds-out-next t c = omega (arith, length-hundred _ c.if-n-lt100.false)

pub overflow_add-out-4 : goal.overflow_add-out-4
overflow_add-out-4 t c = omega (arith, length-hundred _ c.if-n-lt100.false)

pub bounds-out-next-2 : goal.bounds-out-next-2
bounds-out-next-2 t c = simp length-set (omega (arith, length-hundred _ c.if-n-lt100.false))

pub overflow_add-result-2 : goal.overflow_add-result-2
overflow_add-result-2 t c = omega (arith, length-hundred _ c.if-n-lt100.false)

pub returns : goal.returns
returns t c = let a = c.args in
    let l = c.if-n-lt100.false in (
      rw (add-one c.put_digits-next.result, c.put_digits-next.ensures.0, c.put_digits-next.ensures.1, by-hundred _ l) (sym (sets-append (decimal (a.n / 100)) a.out.now a.at _)),
      omega (arith, length-hundred _ l),
    )
