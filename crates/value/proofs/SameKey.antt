-- Equality of property keys. Assumes nothing.
use mathlib.Core.Path.{◌≡◌, refl, ap}
use mathlib.Core.Bool.{true, false, false≢true}
use borrow.Author.Tests.{eqb-true, eq-eqb}
use Rattle.value.specs.declared.PropertyKey.{PropertyKey}
use Rattle.value.specs.declared.PropertyKey.TheVariants.{String, Symbol}
use Rattle.value.specs.PropertyKey.{same_key}
use Rattle.value.proofs.Bools.{bool-ext}

pub key-refl : (k : PropertyKey) → same_key k k ≡ true
unfolding same_key
key-refl (String a) = eq-eqb a a refl
key-refl (Symbol a) = eq-eqb a a refl

pub key-eq : (k l : PropertyKey) → same_key k l ≡ true → k ≡ l
unfolding same_key
key-eq (String a) (String b) h = ap String (eqb-true a b h)
key-eq (String a) (Symbol b) h = absurd (false≢true h)
key-eq (Symbol a) (String b) h = absurd (false≢true h)
key-eq (Symbol a) (Symbol b) h = ap Symbol (eqb-true a b h)

pub key-sym : (k l : PropertyKey) → same_key k l ≡ same_key l k
key-sym k l = bool-ext _ _ (λ h. rw (key-eq k l h) (key-refl l)) (λ h. rw (key-eq l k h) (key-refl k))
