-- Where a test of a validation fails, the number told is that of a test up to it: the half of the first test that the order of the tests decides. Assumes nothing.
use Rattle.std.specs.Prelude.{Option, Some}
use Prim.Native.Nat.{ℕ, ◌<◌, ◌≤◌}
use native.Mathlib.Omega.{arith}
use mathlib.Core.Path.{◌≡◌, refl, ap, ◌∙◌}
use mathlib.Core.Bool.{Bool, true, false, not, beq, false≢true}
use Rattle.value.specs.declared.Value.{Value}
use Rattle.value.specs.Value.{same_value}
use Rattle.property.specs.declared.PropertyDescriptor.{PropertyDescriptor}
use Rattle.property.specs.declared.Property.{Property}
use Rattle.property.specs.declared.Property.TheVariants.{Data, Accessor}
use Rattle.property.specs.declared.ValidationTest.{ValidationTest}
use Rattle.property.specs.declared.ValidationTest.TheVariants as test
use Rattle.property.specs.declared.Validation.{Validation}
use Rattle.property.specs.declared.Validation.TheVariants.{Becomes}
use Rattle.property.specs.Fields.{is_true, unlike, unlike_flag, enumerable, is_accessor}
use Rattle.property.specs.Descriptor.{is_accessor_descriptor}
use Rattle.property.specs.Validate.{applied, reject_if, validate_kind, validate_fixed, validate, test_number, failed_test}
use Rattle.property.specs.FirstTest.{Reached, Fails}

flag-unlike : (a b : Bool) → (a ≡ b → ⊥) → not (beq a b) ≡ true
flag-unlike true true h = absurd (h refl)
flag-unlike true false h = refl
flag-unlike false true h = refl
flag-unlike false false h = absurd (h refl)

field-unlike : (f : Option Value) (u v : Value) → f ≡ Some u → same_value u v ≡ false → unlike f v ≡ true
field-unlike f u v h o = rw (h, o)

pub positive : (t : ValidationTest) → 0 < test_number t
positive test.Extensible = omega arith
positive test.Configurable = omega arith
positive test.Enumerable = omega arith
positive test.Kind = omega arith
positive test.Get = omega arith
positive test.Set = omega arith
positive test.Writable = omega arith
positive test.Value = omega arith

-- Where test m fails, one up to m is told -----------------------------------------------------------

module _ (x : Bool) (d : PropertyDescriptor) where
  pub record UpTo (m : ℕ) (v : Validation) : Type 0 where
    pub some : 0 < failed_test v
    pub most : failed_test v ≤ m

  here : (t : ValidationTest) (b : Bool) (next : Validation) → b ≡ true → UpTo (test_number t) (reject_if t b next)
  unfolding reject_if
  here t true next h = record { some = positive t; most = omega arith }
  here t false next h = absurd (false≢true h)

  later : (m : ℕ) (t : ValidationTest) (b : Bool) (next : Validation) → test_number t ≤ m → UpTo m next → UpTo m (reject_if t b next)
  unfolding reject_if
  later m t true next l h = record { some = positive t; most = l }
  later m t false next l h = h

  -- past 5.a, 5.b and 5.c
  past-kind : (m : ℕ) (p : Property) → 4 ≤ m → UpTo m (validate_kind d p (Becomes (applied d p))) → UpTo m (validate_fixed d p (Becomes (applied d p)))
  past-kind m p l h = later _ _ _ _ (omega arith) (later _ _ _ _ (omega arith) (later _ _ _ _ (omega arith) h))

  past-fields : (m : ℕ) (p : Property) → Reached d p → UpTo m (validate_fixed d p (Becomes (applied d p))) → UpTo m (validate x d (Some p))
  unfolding validate
  past-fields m p a h = rw (a.fields, a.fixed) h

  pub told : (t : Option Property) (m : ℕ) → Fails x d t m → UpTo m (validate x d t)
  unfolding validate
  told _ _ (Fails.not-extensible h) = here _ _ _ (ap not h)
  told _ _ (Fails.configurable-asked {p} a h) = past-fields _ p a (here _ _ _ (ap is_true h))
  told _ _ (Fails.enumerable-unlike {p} {b} a h o) =
      past-fields _ p a (later _ _ _ _ (omega arith) (here _ _ _ (ap (λ f. unlike_flag f (enumerable p)) h ∙ flag-unlike b (enumerable p) o)))
  told _ _ (Fails.kind-unlike {p} a h o) =
      past-fields _ p a (later _ _ _ _ (omega arith) (later _ _ _ _ (omega arith) (here _ _ _ (rw h (flag-unlike (is_accessor_descriptor d) (is_accessor p) o)))))
  told _ _ (Fails.get-unlike {g} {s} {v} {e} {c} a h o) =
      past-fields _ (Accessor g s e c) a (past-kind _ (Accessor g s e c) (omega arith) (here _ _ _ (field-unlike _ v g h o)))
  told _ _ (Fails.set-unlike {g} {s} {v} {e} {c} a h o) =
      past-fields _ (Accessor g s e c) a (past-kind _ (Accessor g s e c) (omega arith) (later _ _ _ _ (omega arith) (here _ _ _ (field-unlike _ v s h o))))
  told _ _ (Fails.writable-asked {w} {e} {c} a h) =
      past-fields _ (Data w false e c) a (past-kind _ (Data w false e c) (omega arith) (here _ _ _ (ap is_true h)))
  told _ _ (Fails.value-unlike {w} {v} {e} {c} a h o) =
      past-fields _ (Data w false e c) a (past-kind _ (Data w false e c) (omega arith) (later _ _ _ _ (omega arith) (here _ _ _ (field-unlike _ v w h o))))
