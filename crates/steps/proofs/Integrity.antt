-- What 7.3.15 keeps of the store, whatever its end, and that no definition of it lacks room. Assumes nothing.
use Prim.Native.Nat.{ℕ, ◌≤◌}
use native.Mathlib.Nat.{le_trans}
use mathlib.Core.Path.{◌≡◌, refl}
use mathlib.Core.Bool.{true, false}
use lib.ListN.{length}
use Rattle.store.specs.Store.{Store}
use Rattle.internal_methods.specs.Monad.{State, Out, M}
use Rattle.internal_methods.specs.Methods.{Context}
use Rattle.internal_methods.specs.Internal.{methods}
use Rattle.internal_methods.proofs.Ensures.{Ensures, ensures-all, ensures-weaken}
use Rattle.internal_methods.proofs.Base.{Shut}
use Rattle.internal_methods.proofs.Later.{Remains, remains-trans, held-remains, shut-lasts}
use Rattle.internal_methods.proofs.Reports.{prevent_extensions-report, define_own_property-report}
use Rattle.internal_methods.proofs.Room.{is_seven, Alike, methods-roomy}
use Rattle.internal_methods.proofs.NonExtensible.{Fitting, fits-itself, prevent_extensions-fits, define_own_property-fits}
use Rattle.internal_methods.proofs.Chain.{Ends, prevent_extensions-ends, define_own_property-ends}
use Rattle.steps.specs.Operation.{Level}
use Rattle.steps.specs.SetIntegrityLevel.{set_integrity_level}
use Rattle.steps.specs.Perform.{over}
use Rattle.steps.proofs.Sequences.{Met, Meets, meets-ensured, Leads, Integral, set-leads}

module _ (n : ℕ) (c : Context) (o : ℕ) where
  -- Objects last -------------------------------------------------------------------------------

  -- the store lasts through all of it, and from [[PreventExtensions]] on the object is non-extensible
  module _ (σ₀ : Store) where
    grown : Integral (λ σ. methods n (over c σ)) o (Remains σ₀) (λ σ. Remains σ₀ σ × Shut σ o) (λ f τ. Remains σ₀ τ)
    grown = record {
      prevents = λ σ g. meets-ensured (ensures-weaken (prevent_extensions-report n (over c σ) o) (λ w h. (λ t. (remains-trans g h.remains, h.says t), λ _. remains-trans g h.remains))) (λ _. g);
      lists = λ σ i. meets-ensured (ensures-all _ (λ _. tt)) (λ _. i.0);
      tells = λ σ i k. meets-ensured (ensures-all _ (λ _. tt)) (λ _. i.0);
      defines = λ σ i k d. meets-ensured (ensures-weaken (define_own_property-report n (over c σ) o k d) (λ w h. (remains-trans i.0 h.remains, shut-lasts (held-remains h.remains) i.1))) (λ _. i.0);
      rejects = λ σ i. i.0;
    }

    pub integrity-remains : (level : Level) → Leads (Remains σ₀) (set_integrity_level (λ σ. methods n (over c σ)) o level) (λ b τ. (b ≡ true → Remains σ₀ τ × Shut τ o) × (b ≡ false → Remains σ₀ τ)) (λ f τ. Remains σ₀ τ)
    integrity-remains level = set-leads grown level

  -- Chains of prototypes still end --------------------------------------------------------------

  ended : Integral (λ σ. methods n (over c σ)) o Ends Ends (λ f τ. Ends τ)
  ended = record {
    prevents = λ σ h. meets-ensured (ensures-weaken (prevent_extensions-ends (over c σ) h n o) (λ w e. (λ _. e, λ _. e))) (λ _. h);
    lists = λ σ h. meets-ensured (ensures-all _ (λ _. tt)) (λ _. h);
    tells = λ σ h k. meets-ensured (ensures-all _ (λ _. tt)) (λ _. h);
    defines = λ σ h k d. meets-ensured (define_own_property-ends (over c σ) h n o k d) (λ _. h);
    rejects = λ σ h. h;
  }

  pub integrity-ends : (level : Level) → Leads Ends (set_integrity_level (λ σ. methods n (over c σ)) o level) (λ b τ. (b ≡ true → Ends τ) × (b ≡ false → Ends τ)) (λ f τ. Ends τ)
  integrity-ends level = set-leads ended level

  -- Refusal 7 -------------------------------------------------------------------------------------

  -- at most as many properties
  abbrev pub AtMost : Store → Store → Type 0
  AtMost σ τ = length τ.properties ≤ length σ.properties

  fitting : {A : Type 0} {Q R S : A → Type 0} {m : M A} → Fitting Q m → Ensures m R → ((a : A) → Q a → R a → S a) → Meets m S (λ f. is_seven f ≡ false)
  fitting {A} {Q} {R} {S} {m} h g join = record { at = λ s. go s (m.run s) refl (h.runs s) }
    where
      go : (s : State) (x : Out A) → m.run s ≡ x → {y : Out A} → Alike Q x y → Met S (λ f. is_seven f ≡ false) x
      go s (Out.done a t) e (Alike.done q) = Met.done (join a q (g.at s a t e))
      go s (Out.failed f t) e (Alike.failed i) = Met.failed i

  module _ (σ₀ : Store) where
    fits : Integral (λ σ. methods n (over c σ)) o (AtMost σ₀) (λ σ. AtMost σ₀ σ × Shut σ o) (λ f τ. is_seven f ≡ false)
    fits = record {
      prevents = λ σ p. fitting (prevent_extensions-fits n (over c σ) o) (prevent_extensions-report n (over c σ) o) (λ w q h. (λ t. (le_trans q p, h.says t), λ _. le_trans q p));
      lists = λ σ i. fitting {R = λ _. Unit {0}} (fits-itself ((methods-roomy n (over c σ)).own_property_keys o tt)) (ensures-all _ (λ _. tt)) (λ _ _ _. tt);
      tells = λ σ i k. fitting {R = λ _. Unit {0}} (fits-itself ((methods-roomy n (over c σ)).get_own_property o k tt)) (ensures-all _ (λ _. tt)) (λ _ _ _. tt);
      defines = λ σ i k d. fitting (define_own_property-fits n (over c σ) o k d i.1) (define_own_property-report n (over c σ) o k d) (λ w q h. (le_trans q i.0, shut-lasts (held-remains h.remains) i.1));
      rejects = λ σ i. refl;
    }

    pub integrity-fits : (level : Level) → Leads (AtMost σ₀) (set_integrity_level (λ σ. methods n (over c σ)) o level)
        (λ b τ. (b ≡ true → AtMost σ₀ τ × Shut τ o) × (b ≡ false → AtMost σ₀ τ)) (λ f τ. is_seven f ≡ false)
    integrity-fits level = set-leads fits level
