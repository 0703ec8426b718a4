-- Further lasting reports, beyond demand 3: what a true from a writing method and from steps 18 and 19 says. Assumes nothing.
use Rattle.std.specs.Prelude.{ℕ, suc, ◌<◌, ◌≡◌, true, List, Some}
use Rattle.value.specs.declared.Value.{Value}
use Rattle.value.specs.declared.PropertyKey.{PropertyKey}
use Rattle.value.specs.Value.{same_value}
use Rattle.property.specs.declared.PropertyDescriptor.{PropertyDescriptor}
use Rattle.property.specs.Fields.{is_false, value_field, writable_field}
use Rattle.steps.specs.Operation.{Level, get_prototype_of, set_prototype_of, define_own_property, set, delete, set_integrity_level, test_integrity_level}
use Rattle.steps.specs.Perform.{value, boolean}
use Rattle.steps.specs.Run.{Event, At}
use Rattle.demands.specs.Lasting.{Tells, ReportsFixed, ReportsNonExtensible, ReportsAbsent, ShowsOwn, Unreleased, StaysFixed, StaysNonExtensible}

-- the descriptor has this value, and writable and configurable false
pub record AsksFixed (d : PropertyDescriptor) (v : Value) : Type 0 where
  pub value : value_field d.kind ≡ Some v
  pub writable : is_false (writable_field d.kind) ≡ true
  pub configurable : is_false d.configurable ≡ true

pub record Further (events : List Event) : Type 0 where
  -- a true from [[DefineOwnProperty]] of a fixed descriptor is a report too
  pub defined : (i : ℕ) (e : Event) (o : ℕ) (k : PropertyKey) (d : PropertyDescriptor) (v : Value) → At events i e → Tells e (define_own_property o k d) (boolean true) → AsksFixed d v → StaysFixed events i o k v
  -- once a property is reported fixed, a true from [[Set]] is for the same value
  pub assigned : (i j : ℕ) (e f : Event) (o : ℕ) (k : PropertyKey) (v w receiver : Value) → i < j → Unreleased events (suc i) j o → At events i e → At events j f
      → ReportsFixed o k v e → Tells f (set o k w receiver) (boolean true) → same_value w v ≡ true
  -- once an object is reported non-extensible, a true from [[SetPrototypeOf]] gives the prototype that [[GetPrototypeOf]] tells
  pub rooted : (i j l : ℕ) (e f g : Event) (o : ℕ) (p q : Value) → i < j → i < l → Unreleased events (suc i) j o → Unreleased events (suc i) l o → At events i e → At events j f → At events l g
      → ReportsNonExtensible o e → Tells f (set_prototype_of o p) (boolean true) → Tells g (get_prototype_of o) (value q) → same_value p q ≡ true
  -- after that, a true from [[Delete]] is an absent report too
  pub deleted : (i j l : ℕ) (e f g : Event) (o : ℕ) (k : PropertyKey) → i < j → j < l → Unreleased events (suc i) l o → At events i e → At events j f → At events l g
      → ReportsNonExtensible o e → Tells f (delete o k) (boolean true) → ShowsOwn o k g → ⊥
  -- and no later [[DefineOwnProperty]] of an absent key answers true
  pub unadded : (i j l : ℕ) (e f g : Event) (o : ℕ) (k : PropertyKey) (d : PropertyDescriptor) → i < j → j < l → Unreleased events (suc i) l o → At events i e → At events j f → At events l g
      → ReportsNonExtensible o e → ReportsAbsent o k f → Tells g (define_own_property o k d) (boolean true) → ⊥
  -- a true from step 18 is a non-extensible report too
  pub sealed : (i : ℕ) (e : Event) (o : ℕ) (level : Level) → At events i e → Tells e (set_integrity_level o level) (boolean true) → StaysNonExtensible events i o
  -- and so is a true from step 19
  pub tested : (i : ℕ) (e : Event) (o : ℕ) (level : Level) → At events i e → Tells e (test_integrity_level o level) (boolean true) → StaysNonExtensible events i o
