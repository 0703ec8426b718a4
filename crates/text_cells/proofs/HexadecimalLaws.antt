-- Digits and bytes two at a time. Assumes nothing.
use Rattle.std.specs.Prelude.{Option, None, Some}
use Prim.Native.Nat.{ℕ, suc, ◌+◌, ◌*◌, ◌-◌, ◌<◌, ◌≤◌}
use native.Mathlib.Numerals.{add-one}
use native.Mathlib.Omega.{arith}
use mathlib.Core.Path.{◌≡◌, refl}
use mathlib.Core.Bool.{◌&&◌}
use mathlib.Core.List.{List, [], ◌∷◌}
use lib.Dec.{eqb}
use lib.ListN.{length, get_or, take, drop, set, drop_of_length-le}
use lib.Seq.{drop-cons}
use borrow.Author.Tests.{ne_eqb}
use Rattle.record.specs.Characters.{digit_of, with_byte, bytes_in}
use Rattle.text_form.specs.Cells.{with_unit, units_of, is_dash}
use Rattle.text_form.specs.Lines.{joined}
use Rattle.text_cells.proofs.JoinLaws.{one_more, all-written}

drop-two : (l : List ℕ) (i : ℕ) → 2 * i + 1 < length l → drop (2 * i) l ≡ get_or l (2 * i) 0 ∷ get_or l (2 * i + 1) 0 ∷ drop (2 * (i + 1)) l
drop-two l i h =
    let e : 2 * (i + 1) ≡ suc (suc (2 * i)) = omega arith in
    let k : 2 * i < length l = omega arith in
    let s : suc (2 * i) < length l = omega arith in
    rw (e, add-one, drop-cons l (2 * i) 0 k, drop-cons l (suc (2 * i)) 0 s)

byte-first : (high low : ℕ) (rest : Option (List ℕ)) → with_byte (Some high) (Some low) rest ≡ joined (Some ((16 * high + low) ∷ [])) rest
byte-first high low None = refl
byte-first high low (Some bytes) = refl

unit-first : (unit : ℕ) (rest : Option (List ℕ)) → with_unit unit rest ≡ joined (Some (unit ∷ [])) rest
unit-first unit None = refl
unit-first unit (Some units) = refl

module _ (digits : List ℕ) (i : ℕ) (inside : 2 * i + 1 < length digits) where
  pub no-high : digit_of (get_or digits (2 * i) 0) ≡ None → bytes_in (drop (2 * i) digits) ≡ None
  unfolding bytes_in
  no-high e = rw (drop-two digits i inside, e)

  pub no-low : {high : ℕ} → digit_of (get_or digits (2 * i) 0) ≡ Some high → digit_of (get_or digits (2 * i + 1) 0) ≡ None → bytes_in (drop (2 * i) digits) ≡ None
  unfolding bytes_in
  no-low e f = rw (drop-two digits i inside, e, f)

  module _ (out : List ℕ) (room : i < length out) where
    pub next-byte : {high low : ℕ} → digit_of (get_or digits (2 * i) 0) ≡ Some high → digit_of (get_or digits (2 * i + 1) 0) ≡ Some low → joined (Some (take i out)) (bytes_in (drop (2 * i) digits)) ≡ joined (Some (take (i + 1) (set out i (16 * high + low)))) (bytes_in (drop (2 * (i + 1)) digits))
    unfolding bytes_in
    next-byte {high} {low} e f = rw (drop-two digits i inside, e, f, byte-first high low (bytes_in (drop (2 * (i + 1)) digits))) (one_more out i (16 * high + low) (bytes_in (drop (2 * (i + 1)) digits)) room)

    pub next-unit : {unit : ℕ} → unit ≡ get_or digits (2 * i) 0 * 256 + get_or digits (2 * i + 1) 0 → joined (Some (take i out)) (units_of (drop (2 * i) digits)) ≡ joined (Some (take (i + 1) (set out i unit))) (units_of (drop (2 * (i + 1)) digits))
    unfolding units_of
    next-unit {unit} e =
        let q : 256 * get_or digits (2 * i) 0 + get_or digits (2 * i + 1) 0 ≡ unit = omega arith in
        rw (drop-two digits i inside, q, unit-first unit (units_of (drop (2 * (i + 1)) digits))) (one_more out i unit (units_of (drop (2 * (i + 1)) digits)) room)

pub bytes-end : (digits out : List ℕ) (i : ℕ) → length digits ≡ 2 * length out → length out ≤ i → joined (Some (take i out)) (bytes_in (drop (2 * i) digits)) ≡ Some out
unfolding bytes_in
bytes-end digits out i e h = rw (drop_of_length-le digits {i = 2 * i} (omega arith)) (all-written out i h)

pub units-end : (bytes out : List ℕ) (i : ℕ) → length bytes ≡ 2 * length out → length out ≤ i → joined (Some (take i out)) (units_of (drop (2 * i) bytes)) ≡ Some out
unfolding units_of
units-end bytes out i e h = rw (drop_of_length-le bytes {i = 2 * i} (omega arith)) (all-written out i h)

pub dash_is : (cell : List ℕ) → is_dash cell ≡ (eqb (length cell) 1 && eqb (get_or cell 0 0) 45)
unfolding is_dash
dash_is [] = refl
dash_is (b ∷ []) = refl
dash_is (b ∷ c ∷ cell) = rw (ne_eqb (length (b ∷ c ∷ cell)) 1 (λ q. omega arith))

-- a digit alone is no byte
pub odd-none : (digits : List ℕ) (n : ℕ) → length digits ≡ 2 * n + 1 → bytes_in digits ≡ None
unfolding bytes_in
odd-none [] n e = absurd (omega arith)
odd-none (a ∷ []) n e = refl
odd-none (a ∷ b ∷ digits) n e = rw (odd-none digits (n - 1) (omega arith)) (no-rest (digit_of a) (digit_of b))
  where
    no-rest : (high low : Option ℕ) → with_byte high low None ≡ None
    no-rest None low = refl
    no-rest (Some h) None = refl
    no-rest (Some h) (Some l) = refl
