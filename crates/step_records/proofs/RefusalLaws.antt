-- Refusals 1 to 3 as one number, of which the least counts. Assumes nothing.
use Prim.Native.Nat.{◌≤◌, min}
use native.Mathlib.Omega.{arith}
use mathlib.Core.Path.{◌≡◌, refl}
use mathlib.Core.Bool.{Bool, true, false, cond, ◌&&◌}
use Rattle.step_records.specs.Refusals.{first}

pub min-first : (a b c p q r : Bool) → min (first a b c) (first p q r) ≡ first (a && p) (b && q) (c && r)
min-first false b c false q r = refl
min-first false b c true false r = refl
min-first false b c true true false = refl
min-first false b c true true true = refl
min-first true false c false q r = refl
min-first true false c true false r = refl
min-first true false c true true false = refl
min-first true false c true true true = refl
min-first true true false false q r = refl
min-first true true false true false r = refl
min-first true true false true true false = refl
min-first true true false true true true = refl
min-first true true true false q r = refl
min-first true true true true false r = refl
min-first true true true true true false = refl
min-first true true true true true true = refl

pub first-least : (a b c : Bool) → 1 ≤ first a b c
first-least false b c = omega arith
first-least true false c = omega arith
first-least true true false = omega arith
first-least true true true = omega arith

pub first-most : (a b c : Bool) → first a b c ≤ 4
first-most false b c = omega arith
first-most true false c = omega arith
first-most true true false = omega arith
first-most true true true = omega arith
