-- A value as its kind and its payload, both numbers: the value record of docs/REFERENCE.md. Assumes nothing.
use Rattle.std.specs.Prelude.{ℕ, ◌^◌, Bool, true, false, not, cond, eqb, ltb, Float}
use Rattle.std.specs.Float.{binary64}
use Rattle.std.specs.Float.Ieee.{of_bits, to_bits}
use Rattle.std.specs.Int.{w32}
use Rattle.std.proofs.Common.{to_z, of_z}
use Rattle.value.specs.declared.Value.{Value}
use Rattle.value.specs.declared.Value.TheVariants.{Undefined, Null, Boolean, Integer32, Float64, String, Symbol, Object, Function}

abbrev pub kind_of : Value → ℕ
kind_of Undefined = 0
kind_of Null = 1
kind_of (Boolean b) = 2
kind_of (Integer32 n) = 3
kind_of (Float64 x) = 4
kind_of (String s) = 5
kind_of (Symbol s) = 6
kind_of (Object o) = 7
kind_of (Function f) = 8

-- an Integer32 in two's complement of 32 bits; NaN is written 0x7ff8000000000000
unfoldable pub payload_of : Value → ℕ
payload_of Undefined = 0
payload_of Null = 0
payload_of (Boolean b) = cond b 1 0
payload_of (Integer32 n) = of_z w32 n
payload_of (Float64 x) = to_bits binary64 x
payload_of (String s) = s
payload_of (Symbol s) = s
payload_of (Object o) = o
payload_of (Function f) = f

abbrev pub pick : {A : Type 0} → Bool → A → A → A
pick true a b = a
pick false a b = b

-- every pair of numbers reads as a value; what is not well formed as undefined or as near as can be
unfoldable pub value_of : ℕ → ℕ → Value
value_of k p =
    pick (eqb k 1) Null
    (pick (eqb k 2) (Boolean (not (eqb p 0)))
    (pick (eqb k 3) (pick (ltb p (2 ^ 32)) (Integer32 (to_z w32 p)) Undefined)
    (pick (eqb k 4) (Float64 (of_bits binary64 p))
    (pick (eqb k 5) (String p)
    (pick (eqb k 6) (Symbol p)
    (pick (eqb k 7) (Object p)
    (pick (eqb k 8) (Function p)
    Undefined)))))))

-- refusal 1: a kind above 8, a Boolean other than 0 and 1, or a nonzero part that the kind does not use
unfoldable pub is_formed : ℕ → ℕ → Bool
is_formed k p =
    pick (ltb k 2) (eqb p 0)
    (pick (eqb k 2) (ltb p 2)
    (pick (eqb k 3) (ltb p (2 ^ 32))
    (ltb k 9)))
