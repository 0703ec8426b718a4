-- The ordinary object under a chain of proxies, and the facts about it that last. Assumes nothing.
use Rattle.std.specs.Prelude.{Some}
use Prim.Native.Nat.{ℕ}
use mathlib.Core.Path.{◌≡◌, refl, subst}
use mathlib.Core.Bool.{true, false, false≢true}
use Rattle.value.specs.declared.Value.{Value}
use Rattle.value.specs.declared.PropertyKey.{PropertyKey}
use Rattle.value.specs.Value.{same_value}
pub use Rattle.property.proofs.ValidateLaws.{frozen_as, is_absent}
use Rattle.store.specs.declared.OrdinaryObject.{OrdinaryObject}
use Rattle.store.specs.declared.ProxyObject.{ProxyObject}
use Rattle.store.specs.declared.Object.TheVariants.{Ordinary, Proxy}
use Rattle.store.specs.Store.{Store, lookup, own}

-- o is a proxy that is not revoked
pub record Active (σ : Store) (o : ℕ) (p : ProxyObject) : Type 0 where
  pub found : lookup σ o ≡ Some (Proxy p)
  pub unrevoked : p.revoked ≡ false

-- the ordinary object under o, with its number, through proxies that are not revoked
pub data Base (σ : Store) : ℕ → ℕ → OrdinaryObject → Type 0 where
  here : {o : ℕ} {r : OrdinaryObject} → lookup σ o ≡ Some (Ordinary r) → Base σ o o r
  over : {o b : ℕ} {p : ProxyObject} {r : OrdinaryObject} → Active σ o p → Base σ p.target b r → Base σ o b r

-- o has a base, and P holds of it
pub record Under (σ : Store) (o : ℕ) (P : ℕ → OrdinaryObject → Type 0) : Type 0 where
  pub number : ℕ
  pub object : OrdinaryObject
  pub base : Base σ o number object
  pub holds : P number object

-- P holds of the base of o, if it has one
pub record OnBase (σ : Store) (o : ℕ) (P : ℕ → OrdinaryObject → Type 0) : Type 0 where
  pub at : {b : ℕ} {r : OrdinaryObject} → Base σ o b r → P b r

-- there is one base
pub base-unique : {σ : Store} {o b c : ℕ} {r s : OrdinaryObject} → Base σ o b r → Base σ o c s → (b ≡ c) × (r ≡ s)
base-unique (here e) (here f) = (refl, cc)
base-unique (here e) (over f b) = let g = f.found in absurd (false≢true cc)
base-unique (over e b) (here f) = let g = e.found in absurd (false≢true cc)
base-unique (over {p = p} e b) (over {p = q} f c) = let g = e.found in let i = f.found in let h : p ≡ q = cc in base-unique b (rw h c)

pub at_base : {σ : Store} {o b : ℕ} {P : ℕ → OrdinaryObject → Type 0} {r : OrdinaryObject} → Base σ o b r → Under σ o P → P b r
at_base {P = P} b u =
    let (n, r) = base-unique u.base b in
    subst (λ (m : ℕ). P m _) n (subst (λ (s : OrdinaryObject). P u.number s) r u.holds)

pub on-base : {σ : Store} {o : ℕ} {P : ℕ → OrdinaryObject → Type 0} → Under σ o P → OnBase σ o P
on-base u = record { at = λ b. at_base b u }

-- what holds of the target's base holds of the proxy's, and the other way
pub through : {σ : Store} {o : ℕ} {p : ProxyObject} {P : ℕ → OrdinaryObject → Type 0} → Active σ o p → Under σ p.target P → Under σ o P
through e u = record { number = u.number; object = u.object; base = over e u.base; holds = u.holds }

base-below : {σ : Store} {o b : ℕ} {p : ProxyObject} {r : OrdinaryObject} → lookup σ o ≡ Some (Proxy p) → Base σ o b r → Base σ p.target b r
base-below e (here f) = absurd (false≢true cc)
base-below {p = p} e (over {p = q} f b) = let g = f.found in let s : p ≡ q = cc in rw s b

pub on-proxy : {σ : Store} {o : ℕ} {p : ProxyObject} {P : ℕ → OrdinaryObject → Type 0} → lookup σ o ≡ Some (Proxy p) → OnBase σ p.target P → OnBase σ o P
on-proxy e u = record { at = λ b. u.at (base-below e b) }

pub at_target : {σ : Store} {o : ℕ} {p : ProxyObject} {P : ℕ → OrdinaryObject → Type 0} → Active σ o p → OnBase σ o P → OnBase σ p.target P
at_target e u = record { at = λ b. u.at (over e b) }

-- it has a data property that is neither writable nor configurable, with this value
abbrev pub Frozen : Store → ℕ → PropertyKey → Value → Type 0
Frozen σ o k v = OnBase σ o (λ b r. frozen_as v (own σ b k) ≡ true)

-- it is not extensible
abbrev pub Shut : Store → ℕ → Type 0
Shut σ o = OnBase σ o (λ b r. r.extensible ≡ false)

-- it is not extensible, and this is its prototype
abbrev pub Rooted : Store → ℕ → Value → Type 0
Rooted σ o v = OnBase σ o (λ b r. (r.extensible ≡ false) × (same_value r.prototype v ≡ true))

-- it is not extensible, and has no property of this key
abbrev pub Lacking : Store → ℕ → PropertyKey → Type 0
Lacking σ o k = OnBase σ o (λ b r. (r.extensible ≡ false) × (is_absent (own σ b k) ≡ true))
