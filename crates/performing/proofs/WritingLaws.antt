-- The codes of the operations that may write. Assumes nothing.
use Prim.Native.Nat.{ℕ, suc, ◌≤◌, ◌<◌}
use native.Mathlib.Omega.{arith}
use mathlib.Core.Path.{◌≡◌, refl, sym, ◌∙◌}
use mathlib.Core.Bool.{true, false}
use Rattle.performing.specs.Results.{is_reading}

other-code : (code n : ℕ) → is_reading n ≡ true → is_reading code ≡ false → code ≡ n → ⊥
other-code code n t f e = let z : true ≡ false = sym t ∙ (rw e at f) in let y : ◌≡◌ {A = ℕ} 0 1 = cc in absurd (omega arith)

past : (n code : ℕ) → n ≤ code → (code ≡ n → ⊥) → suc n ≤ code
past n code h d = omega (arith, h, d)

-- the last of them
pub last_writing : (code : ℕ) → is_reading code ≡ false → 4 ≤ code → code < 14 → (code ≡ 5 → ⊥) → (code ≡ 7 → ⊥) → (code ≡ 9 → ⊥) → (code ≡ 12 → ⊥) → code ≡ 13
unfolding is_reading
last_writing code f low high a b c d =
    let six : 6 ≤ code = past 5 code (past 4 code low (other-code code 4 refl f)) a in
    let eight : 8 ≤ code = past 7 code (past 6 code six (other-code code 6 refl f)) b in
    let ten : 10 ≤ code = past 9 code (past 8 code eight (other-code code 8 refl f)) c in
    let twelve : 12 ≤ code = past 11 code (past 10 code ten (other-code code 10 refl f)) (other-code code 11 refl f) in
    let last : 13 ≤ code = past 12 code twelve d in
    equal code last high
  where
    equal : (m : ℕ) → 13 ≤ m → m < 14 → m ≡ 13
    equal m p q = omega arith
