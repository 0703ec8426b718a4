use Prim.Native.Nat.{suc, ◌+◌}
use native.Mathlib.Omega.{arith}
use mathlib.Core.Path.{◌≡◌}
use lib.ListN.{length-set}
use Rattle.property_page.proofs.lines.put_attributes.Goals as goal

pub bounds-out-at-in-Data : goal.bounds-out-at-in-Data
bounds-out-at-in-Data c = simp length-set (omega arith)

pub bounds-out-at-in-Data-2 : goal.bounds-out-at-in-Data-2
bounds-out-at-in-Data-2 c = simp length-set (omega arith)

pub bounds-out-at-in-Accessor-2 : goal.bounds-out-at-in-Accessor-2
bounds-out-at-in-Accessor-2 c = simp length-set (omega arith)

pub bounds-out-at-in-Accessor-3 : goal.bounds-out-at-in-Accessor-3
bounds-out-at-in-Accessor-3 c = simp length-set (omega arith)

pub returns-in-Data : goal.returns-in-Data
returns-in-Data c = let at = c.args.at in
    let e₁ : at + 1 ≡ suc at = omega arith in
    let e₂ : at + 2 ≡ suc (suc at) = omega arith in
    rw (c.in-Data.is, c.mark.ensures, c.mark-in-Data.ensures, c.mark-in-Data-2.ensures, e₁, e₂)

pub returns-in-Accessor : goal.returns-in-Accessor
returns-in-Accessor c = let at = c.args.at in
    let e₁ : at + 1 ≡ suc at = omega arith in
    let e₂ : at + 2 ≡ suc (suc at) = omega arith in
    rw (c.in-Accessor.is, c.mark-in-Accessor.ensures, c.mark-in-Accessor-2.ensures, e₁, e₂)
