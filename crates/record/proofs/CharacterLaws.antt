-- Bytes in hexadecimal digits: how many there are, that they are printable, and that they tell the bytes. Assumes nothing.
use Rattle.std.specs.Prelude.{Some}
use Prim.Native.Nat.{ℕ, zero, suc, ◌+◌, ◌-◌, ◌*◌, ◌/◌, ◌%◌, ◌<◌, ◌≤◌}
use native.Mathlib.Omega.{arith}
use mathlib.Core.Path.{◌≡◌, refl}
use mathlib.Core.Bool.{Bool, true, false, ◌&&◌, cond}
use mathlib.Core.List.{List, [], ◌∷◌, ◌++◌}
use lib.Dec.{ltb, leb}
use lib.ListN.{length}
use borrow.Author.Tests.{ltb-true, ltb-false, le-leb, lt-leb}
use Rattle.value.specs.declared.Value.{Value}
use Rattle.value.specs.declared.Value.TheVariants as value
use Rattle.value.specs.Words.{kind_of, payload_of}
use Rattle.value.proofs.Bools.{and-true}
use Rattle.record.specs.Bytes.{bytes_of, value_bytes}
use Rattle.record.specs.Characters.{are_printable, digit_for, hexadecimal, digit_of, bytes_in}

pub length-hexadecimal : (bytes : List ℕ) → length (hexadecimal bytes) ≡ 2 * length bytes
unfolding hexadecimal
length-hexadecimal [] = refl
length-hexadecimal (b ∷ bytes) = omega (arith, length-hexadecimal bytes)

-- Printable characters --------------------------------------------------------------------

pub printable-one : (b : ℕ) (bytes : List ℕ) → 32 ≤ b → b ≤ 126 → are_printable bytes ≡ true → are_printable (b ∷ bytes) ≡ true
unfolding are_printable
printable-one b bytes h i e = rw (le-leb 32 b h, le-leb b 126 i, e)

pub printable-append : (xs ys : List ℕ) → are_printable xs ≡ true → are_printable ys ≡ true → are_printable (xs ++ ys) ≡ true
unfolding are_printable
printable-append [] ys e f = f
printable-append (x ∷ xs) ys e f = let (a, b) = and-true (leb 32 x && leb x 126) (are_printable xs) e in rw (a, printable-append xs ys b f)

digit-printable : (n : ℕ) (digits : List ℕ) → n < 16 → are_printable digits ≡ true → are_printable (cond (ltb n 10) (48 + n) (87 + n) ∷ digits) ≡ true
digit-printable n digits h e = go (ltb n 10)
  where
    go : (b : Bool) → are_printable (cond b (48 + n) (87 + n) ∷ digits) ≡ true
    go true = printable-one (48 + n) digits (omega arith) (omega arith) e
    go false = printable-one (87 + n) digits (omega arith) (omega arith) e

-- Reading back ----------------------------------------------------------------------------

digit-back : (n : ℕ) → n < 16 → digit_of (cond (ltb n 10) (48 + n) (87 + n)) ≡ Some n
unfolding digit_of
digit-back n h = go (ltb n 10) refl
  where
    go : (b : Bool) → ltb n 10 ≡ b → digit_of (cond b (48 + n) (87 + n)) ≡ Some n
    go true e =
        let l = ltb-true n 10 e in
        let z : 48 + n - 48 ≡ n = omega arith in
        rw (le-leb 48 (48 + n) (omega arith), le-leb (48 + n) 57 (omega arith), z)
    go false e =
        let l = ltb-false n 10 e in
        let z : 87 + n - 87 ≡ n = omega arith in
        rw (le-leb 48 (87 + n) (omega arith), lt-leb (87 + n) 57 (omega arith), le-leb 97 (87 + n) (omega arith), le-leb (87 + n) 102 (omega arith), z)

unfoldable AreBytes : List ℕ → Type 0
AreBytes [] = Unit {0}
AreBytes (b ∷ bytes) = (b < 256) × AreBytes bytes

bytes_back : (bytes : List ℕ) → AreBytes bytes → bytes_in (hexadecimal bytes) ≡ Some bytes
unfolding AreBytes hexadecimal bytes_in
bytes_back [] h = refl
bytes_back (b ∷ bytes) h =
    let l = h.0 in
    let z : 16 * (b / 16) + b % 16 ≡ b = omega arith in
    rw (digit-back (b / 16) (omega arith), digit-back (b % 16) (omega arith), bytes_back bytes h.1, z)

bytes-printable : (bytes : List ℕ) → AreBytes bytes → are_printable (hexadecimal bytes) ≡ true
unfolding AreBytes hexadecimal are_printable
bytes-printable [] h = refl
bytes-printable (b ∷ bytes) h = let l = h.0 in digit-printable (b / 16) (digit_for (b % 16) ∷ hexadecimal bytes) (omega arith) (digit-printable (b % 16) (hexadecimal bytes) (omega arith) (bytes-printable bytes h.1))

low-bytes : (n x : ℕ) → AreBytes (bytes_of n x)
unfolding AreBytes bytes_of
low-bytes zero x = tt
low-bytes (suc n) x = (omega arith, low-bytes n (x / 256))

kind-small : (v : Value) → kind_of v < 256
kind-small value.Undefined = omega arith
kind-small value.Null = omega arith
kind-small (value.Boolean b) = omega arith
kind-small (value.Integer32 n) = omega arith
kind-small (value.Float64 x) = omega arith
kind-small (value.String s) = omega arith
kind-small (value.Symbol s) = omega arith
kind-small (value.Object o) = omega arith
kind-small (value.Function f) = omega arith

pub value-digits-back : (v : Value) → bytes_in (hexadecimal (value_bytes v)) ≡ Some (value_bytes v)
unfolding AreBytes value_bytes
value-digits-back v = bytes_back (kind_of v ∷ bytes_of 8 (payload_of v)) (kind-small v, low-bytes 8 (payload_of v))

pub value-printable : (v : Value) → are_printable (hexadecimal (value_bytes v)) ≡ true
unfolding AreBytes value_bytes
value-printable v = bytes-printable (kind_of v ∷ bytes_of 8 (payload_of v)) (kind-small v, low-bytes 8 (payload_of v))
