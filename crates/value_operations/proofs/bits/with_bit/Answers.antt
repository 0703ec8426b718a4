use Prim.Native.Nat.{ℕ, suc, ◌+◌, ◌*◌, ◌/◌, ◌%◌, ◌^◌, ◌<◌, ◌≤◌}
use native.Mathlib.Omega.{arith}
use native.Mathlib.Nat.{mod-lt, mul_comm, mod-eq_of_lt}
use native.Mathlib.Numerals.{add-one}
use mathlib.Core.Bool.{Bool}
use mathlib.Core.Path.{◌≡◌, ◌∙◌}
use lib.Pow.{pow_pos, pow_mono, shl_exact, split}
use Rattle.value.specs.Bits.{weight, with_bit}
use Rattle.value.proofs.BitLaws.{with-below}
use Rattle.value_operations.proofs.bits.with_bit.Goals as goal

placed : (n : ℕ) → n < 32 → 1 * 2 ^ n % 2 ^ 64 ≡ 2 ^ n
placed n h = shl_exact 1 n 64 (omega arith) (omega arith) ∙ omega arith

-- the bits from the next one on, in their places
upper : (w n : ℕ) → n < 32 → w < 2 ^ 64 → w / 2 ^ (n + 1) * 2 ^ (n + 1) % 2 ^ 64 ≡ 2 ^ suc n * (w / 2 ^ suc n)
upper w n h l =
    let s = split w (suc n) in
    let e : w / 2 ^ suc n * 2 ^ suc n < 2 ^ 64 = omega (arith, s, l) in
    rw (add-one n) (mod-eq_of_lt e ∙ mul_comm (w / 2 ^ suc n) (2 ^ suc n))

below : (w n : ℕ) (b : Bool) → n < 32 → w < 2 ^ 64 → w % 2 ^ n + weight b (2 ^ n) + 2 ^ suc n * (w / 2 ^ suc n) < 2 ^ 64
unfolding with_bit
below w n b h l = with-below w n 64 b (omega arith) l

pub nonzero_rem-result : goal.nonzero_rem-result
nonzero_rem-result c = rw (placed _ c.requires) (pow_pos _)

pub overflow_add-result : goal.overflow_add-result
overflow_add-result c = let n = c.args.i in
    let e = placed n c.requires in
    let m = mod-lt c.args.word (pow_pos n) in
    let k : 2 ^ n ≤ 2 ^ 32 = pow_mono {j = 32} (omega arith) in
    rw e (omega (arith, m, k, rw e at c.weight.ensures.1))

pub overflow_add-result-2 : goal.overflow_add-result-2
overflow_add-result-2 c = let a = c.args in
    rw (placed a.i c.requires, c.weight.ensures.0, placed a.i c.requires, upper a.word a.i c.requires c.well_formed.0.1)
    (record { fits = below a.word a.i a.b c.requires c.well_formed.0.1 })

pub returns : goal.returns
unfolding with_bit
returns c = let a = c.args in
    rw (c.weight.ensures.0, placed a.i c.requires, upper a.word a.i c.requires c.well_formed.0.1)
