-- The operations that make no calls, as the definitions have them. Assumes nothing.
use Rattle.std.specs.Prelude.{Ok, Err, Option, None, Some}
use Prim.Native.Nat.{ℕ, ◌≤◌}
use native.Mathlib.Omega.{arith}
use mathlib.Core.Path.{◌≡◌, refl}
use mathlib.Core.Bool.{Bool, true, false, ◌||◌, cond, true≢false}
use mathlib.Core.List.{List, [], ◌∷◌}
use types.Run.{OneOf, miss}
use denote.Enum.Declared.{tag_of}
use borrow.Author.Tests.{ltb-true, ltb-false, eqb-true}
use lib.IntN.{ℤ, pos, negsuc, nat_abs}
use lib.Signed.{lt_z, non_neg}
use mir.Syntax.{w32, w64}
use mir.Val.{SFits, Fits, of_z, to_z}
use mir.ValLaws.{to_z-of_z}
use Rattle.value.specs.contracts.Value.{the_type}
use lib.Dec.{T, eqb, ltb}
use Rattle.value.specs.declared.Value.{Value}
use Rattle.value.specs.declared.Value.TheVariants as value
use Rattle.store.specs.declared.Object.{Object}
use Rattle.store.specs.declared.Object.TheVariants.{Ordinary, Proxy}
use Rattle.store.specs.Store.{Store, lookup, next_number, live_count, add, named, maximum_objects}
use Rattle.internal_methods.specs.Monad.{done, pure, fails, when◌then◌else◌}
use Rattle.internal_methods.specs.Methods.{Context}
use Rattle.calls.specs.declared.progress.Progress.{Progress}
use Rattle.calls.specs.Outs.{state_of}
use Rattle.steps.specs.Operation.{make_object, make_proxy, revoke, make_function, release, natural_number, natural_of}
use Rattle.steps.specs.Sequence.{written}
use Rattle.steps.specs.Perform.{once, make, perform, boolean, revoked}
use Rattle.steps.specs.Perform as result
use Rattle.store_write.specs.declared.write.Write.TheVariants as write
use Rattle.internal_methods.specs.declared.Failure.TheVariants.{Refused}
use Rattle.reporting.specs.Performed.{out_performed}
use Rattle.performing.specs.Creation.{performed, make_out, make_object_out, make_proxy_out, revoke_out, revocation, release_out}
use Rattle.performing.specs.Results.{is_creation}
use Rattle.store.specs.Words.{store_of, is_store}
use Rattle.store_write.specs.Write.{FitsIn}
use Rattle.store_read.proofs.ReadLaws.{lookup-marked}
use Rattle.store.proofs.WordLaws.{sized}

module _ (sheet : List ℕ) (s : Progress) where
  making : (σ : Store) (x : Object) (callable b : Bool)
      → out_performed sheet σ (cond b (Ok (performed (named callable (next_number σ)) (write.NewObject x callable))) (Err (Refused 7))) s
      ≡ written σ ((when b then pure (result.value (named callable (next_number σ)), add σ x callable) else fails (Refused 7)).run (state_of sheet s))
  unfolding pure fails when◌then◌else◌
  making σ x callable true = refl
  making σ x callable false = refl

  made : (σ : Store) (x : Object) (callable : Bool) → out_performed sheet σ (make_out σ x callable) s ≡ (once σ (make σ x callable)).run (state_of sheet s)
  unfolding make_out once make
  made σ x callable = making σ x callable (ltb (live_count σ) maximum_objects)

  module _ (depth : ℕ) (c : Context) where
    pub object_made : (v : Value) → out_performed sheet c.store (make_object_out c.store v false) s ≡ (perform depth c (make_object v)).run (state_of sheet s)
    unfolding perform
    object_made v = made c.store _ false

    pub function_made : (v : Value) → out_performed sheet c.store (make_object_out c.store v true) s ≡ (perform depth c (make_function v)).run (state_of sheet s)
    unfolding perform
    function_made v = made c.store _ true

    pub proxy_made : (o : ℕ) (mask : Value) → out_performed sheet c.store (make_proxy_out c.store o mask) s ≡ (perform depth c (make_proxy o (natural_of mask))).run (state_of sheet s)
    unfolding perform
    proxy_made o mask = made c.store _ false

    revoking : (o : ℕ) (x : Option Object) → out_performed sheet c.store (Ok (revoke_out o x)) s ≡ (done (boolean true) (state_of sheet s), revoked c.store o x)
    revoking o None = refl
    revoking o (Some (Ordinary r)) = refl
    revoking o (Some (Proxy p)) = refl

    pub proxy_revoked : (o : ℕ) → out_performed sheet c.store (Ok (revoke_out o (lookup c.store o))) s ≡ (perform depth c (revoke o)).run (state_of sheet s)
    unfolding perform once pure
    proxy_revoked o = revoking o (lookup c.store o)

    pub object_released : (o : ℕ) → out_performed sheet c.store (Ok (release_out o)) s ≡ (perform depth c (release o)).run (state_of sheet s)
    unfolding perform once pure
    object_released o = refl

-- trap masks and integrity levels that are signed numbers
negative : (z : ℤ) → lt_z z (pos 0) ≡ true → 0 ≡ natural_number z
negative (pos n) e = absurd (omega (arith, ltb-true n 0 e))
negative (negsuc k) e = refl

natural : (z : ℤ) → lt_z z (pos 0) ≡ false → nat_abs z ≡ natural_number z
natural (pos n) e = refl
natural (negsuc k) e = cc

pub negative_number : (z : ℤ) → SFits w32 z → lt_z (to_z w32 (of_z w32 z)) (pos 0) ≡ true → 0 ≡ natural_number z
negative_number z s e = negative z (rw (to_z-of_z w32 z s) at e)

pub positive_number : (z : ℤ) → SFits w32 z → lt_z (to_z w32 (of_z w32 z)) (pos 0) ≡ false → nat_abs (to_z w32 (of_z w32 z)) ≡ natural_number z
positive_number z s e = rw (to_z-of_z w32 z s) (natural z (rw (to_z-of_z w32 z s) at e))

natural-fits : (z : ℤ) → lt_z z (pos 0) ≡ false → SFits w32 z → T (non_neg z) × Fits w64 (nat_abs z)
natural-fits (pos n) e f = (tt, record { fits = omega (arith, f.sfits) })
natural-fits (negsuc k) e f = let y : ◌≡◌ {A = ℕ} 0 1 = cc in absurd (omega arith)

pub number_fits : (z : ℤ) → SFits w32 z → lt_z (to_z w32 (of_z w32 z)) (pos 0) ≡ false → T (non_neg (to_z w32 (of_z w32 z))) × Fits w64 (nat_abs (to_z w32 (of_z w32 z)))
number_fits z s e = rw (to_z-of_z w32 z s) (natural-fits z (rw (to_z-of_z w32 z s) at e) s)

pub no_number : (v : Value) → OneOf (0 ∷ 1 ∷ 2 ∷ 4 ∷ 5 ∷ 6 ∷ 7 ∷ 8 ∷ []) (tag_of the_type v) → 0 ≡ natural_of v
no_number value.Undefined h = refl
no_number value.Null h = refl
no_number (value.Boolean b) h = refl
no_number (value.Integer32 n) h = absurd (miss (0 ∷ 1 ∷ 2 ∷ 4 ∷ 5 ∷ 6 ∷ 7 ∷ 8 ∷ []) 3 tt h)
no_number (value.Float64 x) h = refl
no_number (value.String s) h = refl
no_number (value.Symbol s) h = refl
no_number (value.Object o) h = refl
no_number (value.Function f) h = refl

pub revocation_fits : (words : List ℕ) (o : ℕ) (x : Object) → is_store words ≡ true → lookup (store_of words) o ≡ Some x → FitsIn (revocation o x) words
revocation_fits words o (Ordinary r) s e = record { store = s; bounds = tt }
revocation_fits words o (Proxy p) s e = record { store = s; bounds = lookup-marked words (sized words s) o (Proxy p) e }

-- the codes that make, revoke or release: the last of them, and where the others begin
pub last_creation : (code : ℕ) → is_creation code ≡ true → 1 ≤ code → (code ≡ 1 → ⊥) → (code ≡ 2 → ⊥) → (code ≡ 3 → ⊥) → (code ≡ 17 → ⊥) → code ≡ 16
last_creation code t h a b c d = go (ltb code 4) (eqb code 16) refl refl t
  where
    go : (low function : Bool) → ltb code 4 ≡ low → eqb code 16 ≡ function → (low || (function || eqb code 17)) ≡ true → code ≡ 16
    go true f e g q = absurd (omega (arith, ltb-true code 4 e))
    go false true e g q = eqb-true code 16 g
    go false false e g q = absurd (d (eqb-true code 17 q))
