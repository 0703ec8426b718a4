-- The tests of a call's records in their order, by the numbers of the step and of the sheet. Assumes nothing.
use Rattle.std.specs.Prelude.{None, Some}
use Prim.Native.Nat.{ℕ}
use native.Mathlib.Omega.{arith}
use mathlib.Core.Path.{◌≡◌}
use mathlib.Core.Bool.{Bool, cond, not, ◌&&◌}
use mathlib.Core.List.{List}
use lib.Dec.{eqb}
use lib.ListN.{length}
use borrow.Author.Tests.{ne_eqb}
use Rattle.store.specs.Store.{World, lookup}
use Rattle.store.specs.Words.{world_of}
use Rattle.store.specs.Release.{is_named}
use Rattle.record.specs.Bytes.{byte_at}
use Rattle.record.specs.Descriptor.{descriptor_at}
use Rattle.record.specs.Step.{releases, unless, step_of, is_step, are_kinds_usable}
use Rattle.record.specs.Tests.{is_descriptor, failing, first_failing}
use Rattle.steps.specs.Step.{counts_of, is_proxy, record_tests}
use Rattle.step_records.specs.Refusals.{first, refusal_of, step_refusal, sheet_refusal, release_refusal}

numbers : (a b c u d x y z : Bool) → failing a 1 (failing b 2 (failing c 3 (failing (not u) 14 (failing d 4 (failing x 1 (failing y 2 (failing z 3 None)))))))
    ≡ cond (eqb (release_refusal u (first a b c)) 4) (cond d (refusal_of (first x y z)) (Some 4)) (Some (release_refusal u (first a b c)))
numbers a b c u d x y z = grind arith

-- a step that releases has an object that is not named
unless-named : (u x : Bool) → unless u (not x) ≡ not (u && x)
unless-named u x = grind arith

-- only a step that revokes asks whether its object is a proxy
unless-both : (u x : Bool) → unless u x ≡ unless u (u && x)
unless-both u x = grind arith

module _ (words strings bytes sheet : List ℕ) where
  abbrev ω : World
  ω = world_of words strings

  pub no_length : (length bytes ≡ 58 → ⊥) → first_failing (record_tests ω bytes sheet) ≡ Some 1
  unfolding first_failing is_step
  no_length h = rw (ne_eqb _ _ h)

  abbrev refused : ℕ
  refused = release_refusal (releases (byte_at bytes 0) && is_named ω.store (byte_at bytes 1)) (step_refusal (eqb (byte_at bytes 0) 3 && is_proxy (lookup ω.store (byte_at bytes 1))) (counts_of ω) bytes)

  pub all_tests : first_failing (record_tests ω bytes sheet) ≡ cond (eqb refused 4) (cond (is_descriptor (descriptor_at bytes 29)) (refusal_of (sheet_refusal (counts_of ω) sheet)) (Some 4)) (Some refused)
  unfolding first_failing step_of are_kinds_usable step_refusal sheet_refusal
  all_tests = rw (unless-named (releases (byte_at bytes 0)) (is_named ω.store (byte_at bytes 1)), unless-both (eqb (byte_at bytes 0) 3) (is_proxy (lookup ω.store (byte_at bytes 1))), numbers)
