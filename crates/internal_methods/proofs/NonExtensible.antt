-- An object that is not extensible gets no property: its definitions are never refused for want of room. Assumes nothing.
use Rattle.std.specs.Prelude.{Option, None, Some}
use Prim.Native.Nat.{ℕ, zero, suc, ◌≤◌}
use native.Mathlib.Nat.{le_refl}
use mathlib.Core.Path.{◌≡◌, refl, sym, ◌∙◌}
use mathlib.Core.Bool.{Bool, true, false}
use lib.ListN.{length}
use Rattle.value.specs.declared.PropertyKey.{PropertyKey}
use Rattle.property.specs.declared.PropertyDescriptor.{PropertyDescriptor}
use Rattle.property.specs.declared.Validation.{Validation}
use Rattle.property.specs.declared.Validation.TheVariants.{Rejected, Unchanged, Becomes}
use Rattle.property.specs.Validate.{validate}
use Rattle.property.proofs.ValidateLaws.{validate-adds}
use Rattle.store.specs.Store.{own}
use Rattle.internal_methods.specs.declared.Failure.TheVariants.{TypeError}
use Rattle.internal_methods.specs.Monad.{State, Out, M, ◌>>◌, throw_if, when◌then◌else◌}
use Rattle.internal_methods.specs.Methods.{Context, Written}
use Rattle.internal_methods.specs.Ordinary.{apply_validation, ordinary_define_own_property}
use Rattle.internal_methods.specs.Proxy.{proxy_prevent_extensions, proxy_define_own_property}
use Rattle.internal_methods.specs.Internal.{methods}
use Rattle.internal_methods.proofs.Walk.{Any, ask_boolean-by}
use Rattle.internal_methods.proofs.Ensures.{Ensures}
use Rattle.internal_methods.proofs.Base.{here, at_target, Shut}
use Rattle.internal_methods.proofs.Reading.{is_extensible-exact, get_own_property-exact}
use Rattle.internal_methods.proofs.Room.{Alike, Same, same-pure, same-fails, same-bind, same-dispatch, same-asking, keeps, puts-kept, methods-roomy}
use Rattle.property.specs.declared.Property.{Property}

-- as many properties as before, or fewer
abbrev pub Within : Context → Written → Type 0
Within c w = length w.1.properties ≤ length c.store.properties

-- a run by itself: it ends with a result that is Q, or in a failure that is not refusal 7
abbrev pub Fitting : {A : Type 0} → (A → Type 0) → M A → Type 0
Fitting Q m = Same Q m m

pub fits-itself : {A : Type 0} {Q : A → Type 0} {m m' : M A} → Same Q m m' → Fitting Q m
fits-itself {A} {Q} h = record { runs = λ s. go (h.runs s) }
  where
    go : {o p : Out A} → Alike Q o p → Alike Q o o
    go (Alike.done q) = Alike.done q
    go (Alike.failed e) = Alike.failed e

pub fits-ensured : {A : Type 0} {P Q : A → Type 0} {m m' : M A} → Same P m m' → Ensures m Q → Fitting Q m
fits-ensured {A} {P} {Q} {m} h g = record { runs = λ s. go s (m.run s) refl (h.runs s) }
  where
    go : (s : State) (o : Out A) → m.run s ≡ o → {p : Out A} → Alike P o p → Alike Q o o
    go s (Out.done a t) e (Alike.done q) = Alike.done (g.at s a t e)
    go s (Out.failed f t) e (Alike.failed i) = Alike.failed i

module _ {A : Type 0} {Q : A → Type 0} where
  fits-if : {m k : M A} (b : Bool) → Fitting Q m → Fitting Q k → Fitting Q (when◌then◌else◌ b m k)
  unfolding when◌then◌else◌
  fits-if true f g = f
  fits-if false f g = g

  fits-throw_if : {k : M A} (n : ℕ) (b : Bool) → Fitting Q k → Fitting Q (throw_if n b >> k)
  unfolding throw_if
  fits-throw_if n true h = same-bind {P = λ _. ⊥} (same-fails (TypeError n) refl) (λ _ f. absurd f)
  fits-throw_if n false h = same-bind {P = Any} (same-pure tt tt) (λ _ _. h)

pub prevent_extensions-fits : (n : ℕ) (c : Context) (o : ℕ) → Fitting (Within c) ((methods n c).prevent_extensions o)
unfolding methods proxy_prevent_extensions
prevent_extensions-fits zero c o = same-fails _ refl
prevent_extensions-fits (suc n) c o = same-dispatch c.store o
    (λ r e. same-pure _ (puts-kept c.store o _))
    (λ p e _. fits-if _
    (prevent_extensions-fits n c p.target)
    (same-bind (ask_boolean-by same-asking c.strings) λ answer _. fits-if _
    (same-pure _ (le_refl _))
    (same-bind (fits-itself ((methods-roomy n c).is_extensible p.target tt)) λ extensible _. fits-throw_if _ _ (same-pure _ (le_refl _)))))

module _ (c : Context) (o : ℕ) (k : PropertyKey) (d : PropertyDescriptor) where
  apply-fits : (x : Bool) → x ≡ false → (current : Option Property) → current ≡ own c.store o k → (v : Validation) → validate x d current ≡ v → Fitting (Within c) (apply_validation c o k current v)
  unfolding apply_validation
  apply-fits x e current f (Rejected t) h = same-pure _ (le_refl _)
  apply-fits x e current f Unchanged h = same-pure _ (le_refl _)
  apply-fits x e None f (Becomes p) h = absurd (validate-adds x d None p h e refl)
  apply-fits x e (Some q) f (Becomes p) h = same-pure _ (keeps c.store o k p q (sym f))

pub define_own_property-fits : (n : ℕ) (c : Context) (o : ℕ) (k : PropertyKey) (d : PropertyDescriptor) → Shut c.store o → Fitting (Within c) ((methods n c).define_own_property o k d)
unfolding methods ordinary_define_own_property proxy_define_own_property
define_own_property-fits zero c o k d shut = same-fails _ refl
define_own_property-fits (suc n) c o k d shut = same-dispatch c.store o
    (λ r e.
    same-bind (fits-ensured ((methods-roomy n c).get_own_property o k tt) (get_own_property-exact n c o k r e)) λ current f.
    same-bind (fits-ensured ((methods-roomy n c).is_extensible o tt) (is_extensible-exact n c o r e)) λ x g.
    apply-fits c o k d x (g ∙ shut.at (here e)) current f _ refl)
    (λ p e u. fits-if _
    (define_own_property-fits n c p.target k d (at_target (record { found = e; unrevoked = u }) shut))
    (same-bind (ask_boolean-by same-asking c.strings) λ answer _. fits-if _
    (same-pure _ (le_refl _))
    (same-bind (fits-itself ((methods-roomy n c).get_own_property p.target k tt)) (elim [
      | None ↦ λ _.
          same-bind (fits-itself ((methods-roomy n c).is_extensible p.target tt)) λ extensible _.
          fits-throw_if _ _ (fits-throw_if _ _ (same-pure _ (le_refl _)))
      | Some t ↦ λ _.
          same-bind (fits-itself ((methods-roomy n c).is_extensible p.target tt)) λ extensible _.
          fits-throw_if _ _ (fits-throw_if _ _ (fits-throw_if _ _ (same-pure _ (le_refl _))))
    ]))))
