-- A chain of prototypes followed member by member. Assumes nothing.
use Rattle.std.specs.Prelude.{Option, None, Some}
use Prim.Native.Nat.{ℕ, zero, suc, ◌-◌, ◌<◌}
use native.Mathlib.Omega.{arith}
use native.Mathlib.Numerals.{unary_clauses}
use mathlib.Core.Path.{◌≡◌, refl}
use mathlib.Core.Bool.{Bool, true, false, cond}
use Rattle.std.proofs.Common.{eqb}
use Rattle.std.proofs.lemmas.Bool.Decides.{nat_tests}
use Rattle.value.specs.declared.Value.{Value}
use Rattle.value.specs.Value.{object_of}
use Rattle.store.specs.declared.Object.{Object}
use Rattle.store.specs.declared.Object.TheVariants.{Ordinary, Proxy}
use Rattle.store.specs.Store.{Store, lookup}
use Rattle.store.proofs.WordLaws.{object-length as object_length}
use Rattle.internal_methods.specs.Ordinary.{reaches}

module _ (n : ℕ) (σ : Store) (o : ℕ) where
  -- where the chain leads from a member that is another object
  abbrev pub reaches_from : Option Object → Bool
  reaches_from None = false
  reaches_from (Some (Proxy p)) = false
  reaches_from (Some (Ordinary r)) = reaches n σ o r.prototype

  -- where it leads from a value
  abbrev pub reaches_through : Option ℕ → Bool
  reaches_through None = false
  reaches_through (Some p) = cond (eqb p o) true (reaches_from ((lookup σ p)))

module _ (n : ℕ) (σ : Store) (o : ℕ) (v : Value) where
  member : (p : ℕ) (b : Bool) (x : Option Object) → object_of v ≡ Some p → eqb p o ≡ b → lookup σ p ≡ x → reaches (suc n) σ o v ≡ reaches_through n σ o (Some p)
  unfolding reaches
  member p true x k e l = rw (k, e, reaches)
  member p false None k e l = rw (k, e, l, reaches)
  member p false (Some (Ordinary r)) k e l = rw (k, e, l, reaches)
  member p false (Some (Proxy q)) k e l = rw (k, e, l, reaches)

  through : (x : Option ℕ) → object_of v ≡ x → reaches (suc n) σ o v ≡ reaches_through n σ o (x)
  unfolding reaches
  through None k = rw (k, reaches)
  through (Some p) k = member p (eqb p o) (lookup σ p) k refl refl

pub reaches_more : (n : ℕ) (σ : Store) (o : ℕ) (v : Value) → 0 < n → reaches n σ o v ≡ reaches_through (n - 1) σ o ((object_of v))
reaches_more zero σ o v h = absurd (omega (arith, h))
reaches_more (suc n) σ o v h = simp unary_clauses (through n σ o v (object_of v) refl)

pub reaches_zero : (σ : Store) (o : ℕ) (v : Value) → reaches 0 σ o v ≡ false
unfolding reaches
reaches_zero σ o v = refl

pub ruleset chain = (reaches_more, reaches_zero, object_length, nat_tests)
