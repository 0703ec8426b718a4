-- Kinds 7 and 8: every live object has one name, a value that only refusals 2 and 3 tell from others, and keeps it. Assumes nothing.
use Rattle.std.specs.Prelude.{ℕ, ◌≤◌, ◌<◌, ◌≡◌, ◌↔◌, true, ◌&&◌, List, [], None, Some}
use Rattle.value.specs.declared.Value.{Value}
use Rattle.value.specs.declared.Value.TheVariants.{Function}
use Rattle.value.specs.Value.{object_of}
use Rattle.store.specs.declared.OrdinaryObject.{OrdinaryObject}
use Rattle.store.specs.declared.Object.{Object}
use Rattle.store.specs.declared.Object.TheVariants.{Ordinary}
use Rattle.store.specs.Store.{Store, World, lookup, next_number, is_function, name_of, maximum_objects}
use Rattle.record.specs.Sheet.{sheet_of}
use Rattle.record.specs.Tests.{is_made, is_known, first_failing}
use Rattle.steps.specs.Operation.{make_function, makes_object, asked}
use Rattle.steps.specs.Perform.{Result, value}
use Rattle.steps.specs.Response.{result}
use Rattle.steps.specs.Step.{counts_of, record_tests, step}
use Rattle.steps.specs.Run.{Call, run, world_at}
use Rattle.demands.specs.Refusals.{occupied}
use Rattle.demands.specs.Lasting.{Unreleased}

-- of the values that name the object o, refusals 2 and 3 let pass exactly its name, while it is live
pub record NamesDecided (ω : World) (o : ℕ) : Type 0 where
  pub admits : (v : Value) → object_of v ≡ Some o → ((is_made (counts_of ω) v && is_known (counts_of ω) v) ≡ true) ↔ (((x : Object) × (lookup ω.store o ≡ Some x)) × (v ≡ name_of ω.store o))

-- n is a function with this prototype, extensible
pub record IsFunction (σ : Store) (n : ℕ) (prototype : Value) : Type 0 where
  pub found : lookup σ n ≡ Some (Ordinary (record { prototype = prototype; extensible = true }))
  pub callable : is_function σ n ≡ true

-- a step that makes an object, from any world
pub record ObjectMade (ω : World) (bytes sheet output : List ℕ) : Type 0 where
  -- it ends in a result, if its records pass, its sheet is empty and fewer than 32 objects are live
  pub succeeds : makes_object (asked bytes) ≡ true → first_failing (record_tests ω bytes sheet) ≡ None → sheet_of sheet ≡ [] → occupied ω.store.objects < maximum_objects
      → (r : Result) × ((step ω bytes sheet output).response.ending ≡ result r)
  -- its result is the name of the next number
  pub named : (r : Result) → makes_object (asked bytes) ≡ true → (step ω bytes sheet output).response.ending ≡ result r
      → r ≡ value (name_of (step ω bytes sheet output).world.store (next_number ω.store))
  -- step 16 makes a function, whose name is of kind 8
  pub function : (v : Value) (r : Result) → asked bytes ≡ make_function v → (step ω bytes sheet output).response.ending ≡ result r
      → (r ≡ value (Function (next_number ω.store))) × IsFunction (step ω bytes sheet output).world.store (next_number ω.store) v

-- over a list of calls
pub record NamesLast (calls : List Call) : Type 0 where
  -- only an ordinary object is callable
  pub ordinary : (i o : ℕ) (x : Object) → lookup (world_at calls i).store o ≡ Some x → is_function (world_at calls i).store o ≡ true → (r : OrdinaryObject) × (x ≡ Ordinary r)
  -- an object keeps its name, until it is released
  pub keeps : (i j o : ℕ) (x : Object) → i ≤ j → Unreleased (run calls) i j o → lookup (world_at calls i).store o ≡ Some x → name_of (world_at calls j).store o ≡ name_of (world_at calls i).store o
