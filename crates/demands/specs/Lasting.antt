-- Demand 3 of docs/REFERENCE.md: what was once reported fixed stays fixed, until the object is released. Assumes nothing.
use Rattle.std.specs.Prelude.{ℕ, suc, ◌≤◌, ◌<◌, ◌≡◌, Bool, true, false, List}
use Rattle.value.specs.declared.Value.{Value}
use Rattle.value.specs.declared.PropertyKey.{PropertyKey}
use Rattle.value.specs.Value.{same_value}
use Rattle.property.specs.declared.Property.{Property}
use Rattle.property.specs.declared.Property.TheVariants.{Data}
use Rattle.internal_methods.specs.KeyList.{has_key}
use Rattle.steps.specs.Operation.{Operation, get_prototype_of, is_extensible, prevent_extensions, get_own_property, has_property, get, delete, own_property_keys, release, asked}
use Rattle.steps.specs.Perform.{Result, value, descriptor, absent, keys, boolean}
use Rattle.steps.specs.Response.{result}
use Rattle.steps.specs.Run.{step, Event, At}

-- the event is a step that asks for this operation and ends in this result
pub record Tells (e : Event) (asks : Operation) (r : Result) : Type 0 where
  pub bytes : List ℕ
  pub sheet : List ℕ
  pub output : List ℕ
  pub call : e.call ≡ step bytes sheet output
  pub operation : asked bytes ≡ asks
  pub ending : e.response.ending ≡ result r

-- a fixed report: [[GetOwnProperty]] gives a data descriptor that is neither writable nor configurable
pub record ReportsFixed (o : ℕ) (k : PropertyKey) (v : Value) (e : Event) : Type 0 where
  pub enumerable : Bool
  pub told : Tells e (get_own_property o k) (descriptor (Data v false enumerable false))

-- a non-extensible report: a false from [[IsExtensible]], or a true from [[PreventExtensions]]
pub data ReportsNonExtensible (o : ℕ) (e : Event) : Type 0 where
  by-is_extensible : Tells e (is_extensible o) (boolean false) → ReportsNonExtensible o e
  by-prevent_extensions : Tells e (prevent_extensions o) (boolean true) → ReportsNonExtensible o e

-- an absent report: no property from [[GetOwnProperty]], a false from [[HasProperty]], or a list that lacks the key
pub data ReportsAbsent (o : ℕ) (k : PropertyKey) (e : Event) : Type 0 where
  by-get_own_property : Tells e (get_own_property o k) absent → ReportsAbsent o k e
  by-has_property : Tells e (has_property o k) (boolean false) → ReportsAbsent o k e
  by-own_property_keys : (ks : List PropertyKey) → Tells e (own_property_keys o) (keys ks) → has_key k ks ≡ false → ReportsAbsent o k e

-- what shows a key as own: a property from [[GetOwnProperty]], or a list with the key
pub data ShowsOwn (o : ℕ) (k : PropertyKey) (e : Event) : Type 0 where
  by-get_own_property : (p : Property) → Tells e (get_own_property o k) (descriptor p) → ShowsOwn o k e
  by-own_property_keys : (ks : List PropertyKey) → Tells e (own_property_keys o) (keys ks) → has_key k ks ≡ true → ShowsOwn o k e

-- a data descriptor with that value, under SameValue
pub record IsDataWith (v : Value) (r : Result) : Type 0 where
  pub current : Value
  pub writable : Bool
  pub enumerable : Bool
  pub configurable : Bool
  pub is : r ≡ descriptor (Data current writable enumerable configurable)
  pub same : same_value current v ≡ true

-- from one place on, and before another, no event releases o
pub record Unreleased (events : List Event) (from to : ℕ) (o : ℕ) : Type 0 where
  pub none : (l : ℕ) (e : Event) → from ≤ l → l < to → At events l e → Tells e (release o) (boolean true) → ⊥

-- what holds once e at place i has reported o's property k fixed with the value v, while o is not released
pub record StaysFixed (events : List Event) (i : ℕ) (o : ℕ) (k : PropertyKey) (v : Value) : Type 0 where
  -- [[GetOwnProperty]] of the key gives data with the same value ever after
  pub described : (j : ℕ) (f : Event) (r : Result) → i < j → Unreleased events (suc i) j o → At events j f → Tells f (get_own_property o k) r → IsDataWith v r
  -- [[Get]] of the key gives the same value ever after, whatever the receiver
  pub read : (j : ℕ) (f : Event) (receiver w : Value) → i < j → Unreleased events (suc i) j o → At events j f → Tells f (get o k receiver) (value w) → same_value w v ≡ true
  -- each list of [[OwnPropertyKeys]] after it has the key
  pub listed : (j : ℕ) (f : Event) (ks : List PropertyKey) → i < j → Unreleased events (suc i) j o → At events j f → Tells f (own_property_keys o) (keys ks) → has_key k ks ≡ true
  -- [[Delete]] of the key is never true after it
  pub undeleted : (j : ℕ) (f : Event) → i < j → Unreleased events (suc i) j o → At events j f → Tells f (delete o k) (boolean true) → ⊥

-- what holds once the event at place i has reported o non-extensible, while o is not released
pub record StaysNonExtensible (events : List Event) (i : ℕ) (o : ℕ) : Type 0 where
  -- [[IsExtensible]] is never true after it
  pub closed : (j : ℕ) (f : Event) → i < j → Unreleased events (suc i) j o → At events j f → Tells f (is_extensible o) (boolean true) → ⊥
  -- any two results of [[GetPrototypeOf]] after it are the same
  pub prototype : (j l : ℕ) (f g : Event) (p q : Value) → i < j → i < l → Unreleased events (suc i) j o → Unreleased events (suc i) l o → At events j f → At events l g
      → Tells f (get_prototype_of o) (value p) → Tells g (get_prototype_of o) (value q) → same_value p q ≡ true
  -- a key that is reported absent after it is not shown as own after that
  pub hidden : (j l : ℕ) (f g : Event) (k : PropertyKey) → i < j → j < l → Unreleased events (suc i) l o → At events j f → At events l g → ReportsAbsent o k f → ShowsOwn o k g → ⊥

-- the single claim about a list of events
pub record Lasting (events : List Event) : Type 0 where
  pub fixed : (i : ℕ) (e : Event) (o : ℕ) (k : PropertyKey) (v : Value) → At events i e → ReportsFixed o k v e → StaysFixed events i o k v
  pub non_extensible : (i : ℕ) (e : Event) (o : ℕ) → At events i e → ReportsNonExtensible o e → StaysNonExtensible events i o
