-- What holds of a step and its sheet once none of the tests over them fails. Assumes nothing.
use Rattle.std.specs.Prelude.{None}
use Prim.Native.Nat.{ℕ, ◌<◌, ◌≤◌, ◌^◌}
use native.Mathlib.Omega.{arith}
use mathlib.Core.Path.{◌≡◌, refl}
use mathlib.Core.Bool.{Bool, true, false, ◌&&◌, ◌||◌, false≢true}
use mathlib.Core.List.{List, ◌∷◌}
use lib.Dec.{eqb, leb, ltb}
use lib.ListN.{length}
use borrow.Author.Tests.{ltb-true, leb-true, eqb-true, eqb-false}
use Rattle.value.proofs.Bools.{and-true, or-false, or_cases}
use Rattle.value.specs.declared.Value.{Value}
use Rattle.value.specs.declared.Value.TheVariants.{Undefined, Null, Boolean, Integer32, Float64, String, Symbol, Object, Function}
use Rattle.value.specs.PropertyKey.{key_of, key_number}
use Rattle.value.specs.Bits.{bit}
use Rattle.store.specs.Store.{World, live_marks}
use Rattle.record.specs.Bytes.{byte_at}
use Rattle.record.specs.Tests.{Counts, is_known, first_failing}
use Rattle.record.specs.Step.{step_of, uses_object, uses_level, unless, is_step, is_code, are_objects_made, are_kinds_usable}
use Rattle.record.specs.Sheet.{sheet_of, is_sheet, sheet_passes}
use Rattle.steps.specs.Operation.{key_or_first}
use Rattle.steps.specs.Step.{counts_of, record_tests}

passed : (n : ℕ) (b : Bool) (ts : List (ℕ × Bool)) → first_failing ((n, b) ∷ ts) ≡ None → b ≡ true
unfolding first_failing
passed n true ts e = refl
passed n false ts e = let z : ◌≡◌ {A = ℕ} 0 1 = cc in absurd (omega arith)

later : (n : ℕ) (b : Bool) (ts : List (ℕ × Bool)) → first_failing ((n, b) ∷ ts) ≡ None → first_failing ts ≡ None
unfolding first_failing
later n true ts e = e
later n false ts e = let z : ◌≡◌ {A = ℕ} 0 1 = cc in absurd (omega arith)

-- a known value is no key, or one of a number that a key word can join
known-key : (n : Counts) (v : Value) → n.strings ≤ 256 → is_known n v ≡ true → key_number (key_or_first (key_of v)) < 2 ^ 58
unfolding is_known
known-key n Undefined h e = omega arith
known-key n Null h e = omega arith
known-key n (Boolean b) h e = omega arith
known-key n (Integer32 i) h e = omega arith
known-key n (Float64 x) h e = omega arith
known-key n (String s) h e = omega (arith, ltb-true s n.strings e)
known-key n (Symbol s) h e = omega (arith, ltb-true s 256 e)
known-key n (Object o) h e = omega arith
known-key n (Function f) h e = omega arith

-- the codes that are left: 1 to 13, 16, which makes a function, and 17, which releases
below : (c : ℕ) → is_code c ≡ true → (c ≡ 14 → ⊥) → (c ≡ 18 → ⊥) → (c ≡ 19 → ⊥) → (1 ≤ c) × ((ltb c 4 || (eqb c 16 || eqb c 17)) ≡ false → c < 14)
below c e n14 n18 n19 =
    or_cases (leb 1 c && leb c 14) (eqb c 16 || (eqb c 17 || uses_level c)) e
    (λ h. let p = and-true (leb 1 c) (leb c 14) h in (leb-true 1 c p.0, λ f. omega (arith, leb-true c 14 p.1, n14)))
    (λ h. or_cases (eqb c 16) (eqb c 17 || uses_level c) h
    (λ q. let s = eqb-true c 16 q in (omega arith, λ f. absurd (eqb-false c 16 (or-false (eqb c 16) (eqb c 17) (or-false (ltb c 4) (eqb c 16 || eqb c 17) f).1).0 s)))
    (λ g. or_cases (eqb c 17) (uses_level c) g
    (λ q. let s = eqb-true c 17 q in (omega arith, λ f. absurd (eqb-false c 17 (or-false (eqb c 16) (eqb c 17) (or-false (ltb c 4) (eqb c 16 || eqb c 17) f).1).1 s)))
    (λ q. absurd (or_cases (eqb c 18) (eqb c 19) q (λ t. n18 (eqb-true c 18 t)) (λ t. n19 (eqb-true c 19 t))))))

module _ (ω : World) (bytes sheet : List ℕ) (h : first_failing (record_tests ω bytes sheet) ≡ None) where
  pub step-formed : is_step bytes ≡ true
  step-formed = passed _ _ _ h

  pub sheet-formed : is_sheet sheet ≡ true
  sheet-formed = passed _ _ _ (later _ _ _ (later _ _ _ (later _ _ _ (later _ _ _ (later _ _ _ h)))))

  pub sheet-known : sheet_passes (is_known (counts_of ω)) (sheet_of sheet) ≡ true
  sheet-known = passed _ _ _ (later _ _ _ (later _ _ _ (later _ _ _ (later _ _ _ (later _ _ _ (later _ _ _ (later _ _ _ h)))))))

  pub step-length : length bytes ≡ 58
  unfolding is_step
  step-length = eqb-true _ _ (and-true _ _ step-formed).0

  code-formed : is_code (byte_at bytes 0) ≡ true
  unfolding is_step
  code-formed = (and-true (is_code (byte_at bytes 0)) _ (and-true (eqb (length bytes) 58) _ step-formed).1).0

  -- the object that a step uses is live
  pub object-live : uses_object (byte_at bytes 0) ≡ true → bit (live_marks ω.store.objects) (byte_at bytes 1) ≡ true
  unfolding are_objects_made step_of
  object-live u = used _ _ u (and-true _ _ (passed _ _ _ (later _ _ _ h))).0
    where
      used : (u t : Bool) → u ≡ true → unless u t ≡ true → t ≡ true
      used true t e q = q
      used false t e q = absurd (false≢true e)

  -- a code that neither lists keys nor uses a level
  pub other-code : (byte_at bytes 0 ≡ 14 → ⊥) → (byte_at bytes 0 ≡ 18 → ⊥) → (byte_at bytes 0 ≡ 19 → ⊥) → (1 ≤ byte_at bytes 0) × ((ltb (byte_at bytes 0) 4 || (eqb (byte_at bytes 0) 16 || eqb (byte_at bytes 0) 17)) ≡ false → byte_at bytes 0 < 14)
  other-code = below (byte_at bytes 0) code-formed

  pub sheet-there : 0 < length sheet
  unfolding is_sheet
  sheet-there = ltb-true _ _ (and-true _ _ sheet-formed).0

  pub key_fits : length ω.strings ≤ 256 → key_number (key_or_first (key_of (step_of bytes).key)) < 2 ^ 58
  unfolding are_kinds_usable
  key_fits q = known-key (counts_of ω) _ q (and-true _ _ (and-true _ _ (passed _ _ _ (later _ _ _ (later _ _ _ h)))).0).0
