-- What [[GetOwnProperty]] may report of a property, and what the checks of 10.5.5 and 10.5.6 make sure of. Assumes nothing.
use Rattle.std.specs.Prelude.{Option, None, Some}
use mathlib.Core.Path.{◌≡◌, refl, sym, ◌∙◌}
use mathlib.Core.Bool.{Bool, true, false, not, ◌&&◌, false≢true, true≢false}
use borrow.Author.Tests.{not-false}
use Rattle.value.specs.declared.Value.{Value}
use Rattle.value.specs.Value.{same_value}
use Rattle.value.proofs.Bools.{bool-ext}
use Rattle.value.proofs.SameValue.{same-like}
use Rattle.property.specs.declared.PropertyDescriptor.{PropertyDescriptor}
use Rattle.property.specs.declared.Property.{Property}
use Rattle.property.specs.declared.Property.TheVariants.{Data, Accessor}
use Rattle.property.specs.Fields.{configurable}
use Rattle.property.specs.Descriptor.{is_accessor_descriptor, is_data_descriptor, is_generic_descriptor, descriptor_of}
use Rattle.property.specs.Validate.{applied, is_compatible}
use Rattle.property.proofs.ValidateLaws.{configurable-not-frozen, AsksFrozen, validate-refuses, compatible-accessor, compatible-fixed, compatible-keeps}
use Rattle.internal_methods.specs.Proxy.{absent_or_configurable, is_writable, is_read_only}
use Rattle.internal_methods.proofs.Base.{frozen_as, is_absent}

-- r may be reported of the property p of an object that is extensible or not (e)
pub record Tied (e : Bool) (p r : Option Property) : Type 0 where
  pub froze : (v : Value) → frozen_as v r ≡ frozen_as v p
  pub shown : e ≡ false → is_absent r ≡ is_absent p

pub tied-refl : {e : Bool} {p : Option Property} → Tied e p p
tied-refl = record { froze = λ v. refl; shown = λ _. refl }

pub tied-trans : {e : Bool} {p q r : Option Property} → Tied e p q → Tied e q r → Tied e p r
tied-trans a b = record { froze = λ v. b.froze v ∙ a.froze v; shown = λ h. b.shown h ∙ a.shown h }

-- 10.5.5 step 10
pub tied-undefined : (e : Bool) (p : Property) → not (configurable p) ≡ false → not e ≡ false → Tied e (Some p) None
tied-undefined e p hc he = record {
  froze = λ v. sym (configurable-not-frozen p v (not-false _ hc));
  shown = λ h. absurd (true≢false (sym (not-false e he) ∙ h));
}

-- 10.5.5 steps 14 to 16 and 10.5.6 step 15: what is asked to be frozen is so already
pub asked-frozen : (x : Bool) (d : PropertyDescriptor) (t : Property) (w : Value) → AsksFrozen d w
    → is_compatible x d (Some t) ≡ true → configurable t ≡ false → is_writable (Some t) ≡ false → frozen_as w (Some t) ≡ true
asked-frozen x d (Data v wr e true) w a h c wrt = absurd (true≢false c)
asked-frozen x d (Data v true e false) w a h c wrt = absurd (true≢false wrt)
asked-frozen x d (Data v false e false) w a h c wrt = compatible-fixed x d v e w a h
asked-frozen x d (Accessor g s e true) w a h c wrt = absurd (true≢false c)
asked-frozen x d (Accessor g s e false) w a h c wrt = absurd (compatible-accessor x d g s e w a h)

frozen-like : (d : Option Property) (u v : Value) → same_value u v ≡ true → frozen_as u d ≡ true → frozen_as v d ≡ true
frozen-like None u v e h = absurd (false≢true h)
frozen-like (Some (Data w true x c)) u v e h = absurd (false≢true h)
frozen-like (Some (Data w false x true)) u v e h = absurd (false≢true h)
frozen-like (Some (Data w false x false)) u v e h = same-like w u v h ∙ e
frozen-like (Some (Accessor g s x c)) u v e h = absurd (false≢true h)

-- a frozen property that is reported is there
held : (e : Bool) (t : Option Property) (r : Property) (v : Value) → is_compatible e (descriptor_of r) t ≡ true
    → (not (configurable r) && absent_or_configurable t) ≡ false → (not (configurable r) && (is_read_only r && is_writable t)) ≡ false
    → frozen_as v (Some r) ≡ true → frozen_as v t ≡ true
held e t (Accessor g s x c) v h a b f = absurd (false≢true f)
held e t (Data u true x c) v h a b f = absurd (false≢true f)
held e t (Data u false x true) v h a b f = absurd (false≢true f)
held e None (Data u false x false) v h a b f = absurd (true≢false a)
held e (Some t) (Data u false x false) v h a b f =
    frozen-like (Some t) u v f (asked-frozen e (descriptor_of (Data u false x false)) t u (record { valued-w = refl; fixed = refl; lasting = refl }) h a b)

-- a frozen property that is there is reported
told : (e : Bool) (t : Option Property) (r : Property) (v : Value) → is_compatible e (descriptor_of r) t ≡ true → frozen_as v t ≡ true → frozen_as v (Some r) ≡ true
unfolding applied is_accessor_descriptor is_data_descriptor is_generic_descriptor
told e None r v h f = absurd (false≢true f)
told e (Some (Accessor g s x c)) r v h f = absurd (false≢true f)
told e (Some (Data w true x c)) r v h f = absurd (false≢true f)
told e (Some (Data w false x true)) r v h f = absurd (false≢true f)
told e (Some (Data w false x false)) (Data u wr y c) v h f = compatible-keeps e (descriptor_of (Data u wr y c)) w v x refl h f
told e (Some (Data w false x false)) (Accessor g s y c) v h f = compatible-keeps e (descriptor_of (Accessor g s y c)) w v x refl h f

-- 10.5.5 steps 14 to 16
pub tied-descriptor : (e : Bool) (t : Option Property) (r : Property) → not (is_compatible e (descriptor_of r) t) ≡ false
    → (not (configurable r) && absent_or_configurable t) ≡ false → (not (configurable r) && (is_read_only r && is_writable t)) ≡ false → Tied e t (Some r)
tied-descriptor e t r h a b =
    let compatible : is_compatible e (descriptor_of r) t ≡ true = not-false _ h in
    record {
      froze = λ v. bool-ext _ _ (held e t r v compatible a b) (told e t r v compatible);
      shown = there t compatible;
    }
  where
    there : (t : Option Property) → is_compatible e (descriptor_of r) t ≡ true → e ≡ false → false ≡ is_absent t
    there None h x = absurd (validate-refuses e (descriptor_of r) None h x refl)
    there (Some q) h x = refl
