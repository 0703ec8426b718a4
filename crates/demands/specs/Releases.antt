-- Releases: which objects can be released, what is gone then, and which number comes next. Assumes nothing.
use Rattle.std.specs.Prelude.{ℕ, suc, ◌<◌, ◌≡◌, ◌↔◌, Bool, true, false, List, [], eqb, None, Some, slice_get}
use Rattle.value.specs.declared.Value.{Value}
use Rattle.value.specs.declared.PropertyKey.{PropertyKey}
use Rattle.value.specs.Value.{object_of}
use Rattle.property.specs.declared.Property.TheVariants.{Data, Accessor}
use Rattle.store.specs.declared.OrdinaryObject.{OrdinaryObject}
use Rattle.store.specs.declared.ProxyObject.{ProxyObject}
use Rattle.store.specs.declared.Object.{Object}
use Rattle.store.specs.declared.Object.TheVariants.{Ordinary, Proxy}
use Rattle.store.specs.declared.Entry.{Entry}
use Rattle.store.specs.Store.{Store, World, lookup, own}
use Rattle.store.specs.Release.{is_named}
use Rattle.record.specs.Sheet.{sheet_of}
use Rattle.record.specs.Tests.{first_failing}
use Rattle.steps.specs.Operation.{Operation, makes_object, release}
use Rattle.steps.specs.Perform.{Result, value, boolean}
use Rattle.steps.specs.Response.{result}
use Rattle.steps.specs.Step.{record_tests, step}
use Rattle.steps.specs.Run.{Call, Event, At, run, world_at}
use Rattle.demands.specs.Lasting.{Tells}

-- a property of the table has the value, getter or setter
pub data Holds (e : Entry) (v : Value) : Type 0 where
  by_value : {w n c : Bool} → e.property ≡ Data v w n c → Holds e v
  by-getter : {s : Value} {n c : Bool} → e.property ≡ Accessor v s n c → Holds e v
  by-setter : {g : Value} {n c : Bool} → e.property ≡ Accessor g v n c → Holds e v

-- how an object is named: by a prototype, by the target of a proxy that is not revoked, or by a property
pub data Named (σ : Store) (o : ℕ) : Type 0 where
  by-prototype : (q : ℕ) (r : OrdinaryObject) → lookup σ q ≡ Some (Ordinary r) → object_of r.prototype ≡ Some o → Named σ o
  by-target : (q : ℕ) (p : ProxyObject) → lookup σ q ≡ Some (Proxy p) → p.revoked ≡ false → p.target ≡ o → Named σ o
  by-property : (i : ℕ) (e : Entry) (v : Value) → slice_get σ.properties i ≡ Some e → Holds e v → object_of v ≡ Some o → Named σ o

-- refusal 14 asks for just that
pub record NamingDecided (σ : Store) (o : ℕ) : Type 0 where
  pub named : (is_named σ o ≡ true) ↔ Named σ o

-- a step that releases o, from any world
pub record Released (ω : World) (bytes sheet output : List ℕ) (o : ℕ) : Type 0 where
  -- it answers true if its records pass and its sheet is empty
  pub succeeds : first_failing (record_tests ω bytes sheet) ≡ None → sheet_of sheet ≡ [] → (step ω bytes sheet output).response.ending ≡ result (boolean true)
  -- its result is true, and o was not named
  pub answers : (r : Result) → (step ω bytes sheet output).response.ending ≡ result r → (r ≡ boolean true) × (Named ω.store o → ⊥)
  -- then o is gone, with all its properties
  pub gone : (r : Result) → (step ω bytes sheet output).response.ending ≡ result r
      → (lookup (step ω bytes sheet output).world.store o ≡ None) × ((k : PropertyKey) → own (step ω bytes sheet output).world.store o k ≡ None)
  -- and every other object is as it was
  pub others : (r : Result) → (step ω bytes sheet output).response.ending ≡ result r → (q : ℕ) → eqb o q ≡ false
      → (lookup (step ω bytes sheet output).world.store q ≡ lookup ω.store q) × ((k : PropertyKey) → own (step ω bytes sheet output).world.store q k ≡ own ω.store q k)

-- the event makes the object o
pub record Makes (e : Event) (o : ℕ) : Type 0 where
  pub asks : Operation
  pub name : Value
  pub makes : makes_object asks ≡ true
  pub told : Tells e asks (value name)
  pub names : object_of name ≡ Some o

-- over a list of calls
pub record ReleasesHold (calls : List Call) : Type 0 where
  -- what an object names is live: in every world, by prototype, by the target of a proxy that is not revoked, and by properties
  pub closed : (i o : ℕ) → Named (world_at calls i).store o → (x : Object) × (lookup (world_at calls i).store o ≡ Some x)
  -- and only live objects have properties
  pub owned : (i o : ℕ) (k : PropertyKey) → lookup (world_at calls i).store o ≡ None → own (world_at calls i).store o k ≡ None
  -- a new object has a number that no live object had, and no property
  pub made : (i : ℕ) (e : Event) (o : ℕ) → At (run calls) i e → Makes e o
      → (lookup (world_at calls i).store o ≡ None) × ((k : PropertyKey) → own (world_at calls (suc i)).store o k ≡ None)
  -- numbers come back in the order in which they were released: o was released before q, so o is made again before q is
  pub order : (i j l : ℕ) (e f g : Event) (o q : ℕ) → i < j → j < l → At (run calls) i e → At (run calls) j f → At (run calls) l g
      → Tells e (release o) (boolean true) → Tells f (release q) (boolean true) → Makes g q
      → (m : ℕ) × (d : Event) × (i < m) × (m < l) × At (run calls) m d × Makes d o
