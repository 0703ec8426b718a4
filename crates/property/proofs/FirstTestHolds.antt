-- The number of a validation is that of the first test that fails. Assumes nothing.
use Rattle.std.specs.Prelude.{Option, None, Some}
use Prim.Native.Nat.{ℕ, ◌<◌}
use native.Mathlib.Omega.{arith}
use mathlib.Core.Path.{◌≡◌, refl, subst}
use mathlib.Core.Bool.{Bool, true, false, not, ◌&&◌, beq, cond, false≢true, true≢false}
use Rattle.value.specs.declared.Value.{Value}
use Rattle.value.specs.Value.{same_value}
use Rattle.property.specs.declared.PropertyDescriptor.{PropertyDescriptor}
use Rattle.property.specs.declared.Property.{Property}
use Rattle.property.specs.declared.Property.TheVariants.{Data, Accessor}
use Rattle.property.specs.declared.ValidationTest.{ValidationTest}
use Rattle.property.specs.declared.ValidationTest.TheVariants as test
use Rattle.property.specs.declared.Validation.{Validation}
use Rattle.property.specs.declared.Validation.TheVariants.{Rejected, Unchanged, Becomes}
use Rattle.property.specs.Fields.{has, is_true, unlike, unlike_flag, value_field, writable_field, get_field, set_field, enumerable, configurable}
use Rattle.property.specs.Validate.{has_no_fields, is_other_kind, applied, reject_if, validate_kind, validate_fixed, validate, test_number, failed_test, is_accepted}
use Rattle.property.specs.FirstTest.{Reached, Fails, FirstFails, TestsDecided}
use Rattle.property.proofs.FirstTestTold.{positive, told}

-- What a field that fails its test holds ----------------------------------------------------------

true-asked : (f : Option Bool) → is_true f ≡ true → f ≡ Some true
true-asked None h = absurd (false≢true h)
true-asked (Some true) h = refl
true-asked (Some false) h = absurd (false≢true h)

record OtherFlag (f : Option Bool) (b : Bool) : Type 0 where
  asked : Bool
  given : f ≡ Some asked
  other : asked ≡ b → ⊥

other-flag : (f : Option Bool) (b : Bool) → unlike_flag f b ≡ true → OtherFlag f b
other-flag None b h = absurd (false≢true h)
other-flag (Some true) true h = absurd (false≢true h)
other-flag (Some true) false h = record { asked = true; given = refl; other = true≢false }
other-flag (Some false) true h = record { asked = false; given = refl; other = false≢true }
other-flag (Some false) false h = absurd (false≢true h)

record OtherField (f : Option Value) (v : Value) : Type 0 where
  asked : Value
  given : f ≡ Some asked
  other : same_value asked v ≡ false

not-true : (b : Bool) → not b ≡ true → b ≡ false
not-true true h = absurd (false≢true h)
not-true false h = refl

other-field : (f : Option Value) (v : Value) → unlike f v ≡ true → OtherField f v
other-field None v h = absurd (false≢true h)
other-field (Some u) v h = record { asked = u; given = refl; other = not-true (same_value u v) h }

-- 5.c by its two parts
kind-parts : (g a b : Bool) → (not g && not (beq a b)) ≡ true → (g ≡ false) × (a ≡ b → ⊥)
kind-parts true a b h = absurd (false≢true h)
kind-parts false true true h = absurd (false≢true h)
kind-parts false true false h = (refl, true≢false)
kind-parts false false true h = (refl, false≢true)
kind-parts false false false h = absurd (false≢true h)

-- A number that is told is that of a test that fails -----------------------------------------------

-- the test by itself, of a property that is there
abbrev failing : ValidationTest → PropertyDescriptor → Property → Bool
failing test.Extensible d p = false
failing test.Configurable d p = is_true d.configurable
failing test.Enumerable d p = unlike_flag d.enumerable (enumerable p)
failing test.Kind d p = is_other_kind d p
failing test.Get d (Accessor g s e c) = unlike (get_field d.kind) g
failing test.Get d (Data w wr e c) = false
failing test.Set d (Accessor g s e c) = unlike (set_field d.kind) s
failing test.Set d (Data w wr e c) = false
failing test.Writable d (Accessor g s e c) = false
failing test.Writable d (Data w wr e c) = not wr && is_true (writable_field d.kind)
failing test.Value d (Accessor g s e c) = false
failing test.Value d (Data w wr e c) = not wr && unlike (value_field d.kind) w

module _ (x : Bool) (d : PropertyDescriptor) where
  test-fails : (n : ValidationTest) (p : Property) → Reached d p → failing n d p ≡ true → Fails x d (Some p) (test_number n)
  test-fails test.Extensible p a h = absurd (false≢true h)
  test-fails test.Configurable p a h = Fails.configurable-asked a (true-asked _ h)
  test-fails test.Enumerable p a h = let o = other-flag _ (enumerable p) h in Fails.enumerable-unlike a o.given o.other
  test-fails test.Kind p a h = let o = kind-parts _ _ _ h in Fails.kind-unlike a o.0 o.1
  test-fails test.Get (Accessor g s e c) a h = let o = other-field _ g h in Fails.get-unlike a o.given o.other
  test-fails test.Get (Data w wr e c) a h = absurd (false≢true h)
  test-fails test.Set (Accessor g s e c) a h = let o = other-field _ s h in Fails.set-unlike a o.given o.other
  test-fails test.Set (Data w wr e c) a h = absurd (false≢true h)
  test-fails test.Writable (Accessor g s e c) a h = absurd (false≢true h)
  test-fails test.Writable (Data w true e c) a h = absurd (false≢true h)
  test-fails test.Writable (Data w false e c) a h = Fails.writable-asked a (true-asked _ h)
  test-fails test.Value (Accessor g s e c) a h = absurd (false≢true h)
  test-fails test.Value (Data w true e c) a h = absurd (false≢true h)
  test-fails test.Value (Data w false e c) a h = let o = other-field _ w h in Fails.value-unlike a o.given o.other

  record Sound (t : Option Property) (v : Validation) : Type 0 where
    failed : 0 < failed_test v → Fails x d t (failed_test v)

  sound-test : (n : ValidationTest) (p : Property) (next : Validation) → Reached d p → Sound (Some p) next → Sound (Some p) (reject_if n (failing n d p) next)
  unfolding reject_if
  sound-test n p next a rest = go (failing n d p) refl
    where
      go : (b : Bool) → failing n d p ≡ b → Sound (Some p) (reject_if n b next)
      go true e = record { failed = λ l. test-fails n p a e }
      go false e = rest

  sound-yes : (t : Option Property) (v : Validation) → failed_test v ≡ 0 → Sound t v
  sound-yes t v e = record { failed = λ l. absurd (omega arith) }

  accepts : (b : Bool) (p : Property) → failed_test (cond b Unchanged (Becomes p)) ≡ 0
  accepts true p = refl
  accepts false p = refl

  sound-absent : (b : Bool) (next : Validation) → x ≡ b → failed_test next ≡ 0 → Sound None (reject_if test.Extensible (not b) next)
  unfolding reject_if
  sound-absent true next e h = sound-yes _ _ h
  sound-absent false next e h = record { failed = λ l. Fails.not-extensible e }

  sound-kind : (p q : Property) → Reached d p → Sound (Some p) (validate_kind d p (Becomes q))
  sound-kind (Accessor g s e c) q a = sound-test _ _ _ a (sound-test _ _ _ a (sound-yes _ _ refl))
  sound-kind (Data w true e c) q a = sound-yes _ _ refl
  sound-kind (Data w false e c) q a = sound-test _ _ _ a (sound-test _ _ _ a (sound-yes _ _ (accepts (has (value_field d.kind)) q)))

  sound-fixed : (p q : Property) → Reached d p → Sound (Some p) (validate_fixed d p (Becomes q))
  sound-fixed p q a = sound-test _ _ _ a (sound-test _ _ _ a (sound-test _ _ _ a (sound-kind p q a)))

  sound : (t : Option Property) → Sound t (validate x d t)
  unfolding validate
  sound None = sound-absent x _ refl refl
  sound (Some p) = go (has_no_fields d) (configurable p) refl refl
    where
      go : (a b : Bool) → has_no_fields d ≡ a → configurable p ≡ b → Sound (Some p) (cond a Unchanged (cond b (Becomes (applied d p)) (validate_fixed d p (Becomes (applied d p)))))
      go true b e f = sound-yes _ _ refl
      go false true e f = sound-yes _ _ refl
      go false false e f = sound-fixed p (applied d p) (record { fields = e; fixed = f })

  -- The statement ------------------------------------------------------------------------------------

  module _ (t : Option Property) where
    is-first : (n : ℕ) → 0 < n → failed_test (validate x d t) ≡ n → FirstFails x d t n
    is-first n l e = record {
      fails = subst (Fails x d t) e ((sound t).failed (omega arith));
      none_before = λ m h f. let u = (told x d t m f).most in omega arith;
    }

    first-is : (n : ℕ) → FirstFails x d t n → failed_test (validate x d t) ≡ n
    first-is n f =
        let l = (told x d t n f.fails).some in
        let u = (told x d t n f.fails).most in
        let s = (sound t).failed l in
        let b : failed_test (validate x d t) < n → ⊥ = λ h. f.none_before _ h s in
        omega arith

    none-fails : failed_test (validate x d t) ≡ 0 → (n : ℕ) → Fails x d t n → ⊥
    none-fails e n f = let l = (told x d t n f).some in omega arith

    is_none : ((n : ℕ) → Fails x d t n → ⊥) → failed_test (validate x d t) ≡ 0
    is_none h =
        let b : 0 < failed_test (validate x d t) → ⊥ = λ l. h _ ((sound t).failed l) in
        omega arith

accepted-none : (v : Validation) → is_accepted v ≡ true → failed_test v ≡ 0
accepted-none (Rejected t) h = absurd (false≢true h)
accepted-none Unchanged h = refl
accepted-none (Becomes p) h = refl

none-accepted : (v : Validation) → failed_test v ≡ 0 → is_accepted v ≡ true
none-accepted (Rejected t) h = let l = positive t in absurd (omega arith)
none-accepted Unchanged h = refl
none-accepted (Becomes p) h = refl

pub tests-decided : (x : Bool) (d : PropertyDescriptor) (t : Option Property) → TestsDecided x d t
tests-decided x d t = record {
  first = λ n l. (is-first x d t n l, first-is x d t n);
  none = (none-fails x d t, is_none x d t);
  accepted = (λ h. none-fails x d t (accepted-none (validate x d t) h), λ h. none-accepted (validate x d t) (is_none x d t h));
}
