-- Steps that demand 1 accepts: those of the proved rows, and every method over an ordinary object with room. Assumes nothing.
use Rattle.std.specs.Prelude.{ℕ, ◌*◌, ◌≤◌, ◌<◌, ◌≡◌, Bool, true, false, not, ◌&&◌, List, [], ◌∷◌, length, None, Some}
use Rattle.value.specs.declared.Value.{Value}
use Rattle.value.specs.declared.Value.TheVariants.{Null}
use Rattle.value.specs.declared.PropertyKey.{PropertyKey}
use Rattle.value.specs.Value.{object_of}
use Rattle.property.specs.declared.PropertyDescriptor.{PropertyDescriptor}
use Rattle.property.specs.declared.Property.{Property}
use Rattle.property.specs.Fields.{is_accessor}
use Rattle.store.specs.declared.OrdinaryObject.{OrdinaryObject}
use Rattle.store.specs.declared.Object.TheVariants.{Ordinary}
use Rattle.store.specs.Store.{World, lookup, own, maximum_properties}
use Rattle.store.specs.OwnKeys.{ordinary_own_property_keys}
use Rattle.record.specs.Bytes.{value_size}
use Rattle.record.specs.Sheet.{sheet_of}
use Rattle.record.specs.Tests.{first_failing}
use Rattle.steps.specs.Operation.{Operation, get_prototype_of, set_prototype_of, is_extensible, prevent_extensions, get_own_property, define_own_property, has_property, get, set, delete, own_property_keys, asked}
use Rattle.steps.specs.Perform.{Result}
use Rattle.steps.specs.Response.{Ending, refused, result, type_error, thrown}
use Rattle.steps.specs.Step.{record_tests, step}
use Rattle.steps.specs.Run.{Call, Event, run}
use Rattle.demands.specs.Rows.{cut_get, absent_own, twice_listed, fixed_unlisted, kept_unlisted, new_listed}

-- The proved rows ---------------------------------------------------------------------------

abbrev pub is_refused : Ending → Bool
is_refused (refused n) = true
is_refused (result r) = false
is_refused (type_error n) = false
is_refused (thrown v) = false

unfoldable pub none_refused : List Event → Bool
none_refused [] = true
none_refused (e ∷ es) = not (is_refused e.response.ending) && none_refused es

-- the lists of calls of the rows
abbrev pub row_runs : List (List Call)
row_runs = cut_get ∷ absent_own ∷ twice_listed ∷ fixed_unlisted ∷ kept_unlisted ∷ new_listed ∷ []

-- of no list is a call refused
unfoldable pub accepted_all : List (List Call) → Bool
accepted_all [] = true
accepted_all (calls ∷ others) = none_refused (run calls) && accepted_all others

-- Ordinary objects --------------------------------------------------------------------------

-- o is an ordinary object without a prototype, its own property k is no accessor, and the store has room for one property more
pub record Plain (ω : World) (o : ℕ) (k : PropertyKey) : Type 0 where
  pub object : OrdinaryObject
  pub found : lookup ω.store o ≡ Some (Ordinary object)
  pub alone : object.prototype ≡ Null
  pub is_data : (p : Property) → own ω.store o k ≡ Some p → is_accessor p ≡ false
  pub room : length ω.store.properties < maximum_properties

-- the eleven methods on o, with the key k where there is one; [[Set]] is for o itself
pub data OnPlain (o : ℕ) (k : PropertyKey) : Operation → Type 0 where
  by-get_prototype_of : OnPlain o k (get_prototype_of o)
  by-set_prototype_of : (v : Value) → OnPlain o k (set_prototype_of o v)
  by-is_extensible : OnPlain o k (is_extensible o)
  by-prevent_extensions : OnPlain o k (prevent_extensions o)
  by-get_own_property : OnPlain o k (get_own_property o k)
  by-define_own_property : (d : PropertyDescriptor) → OnPlain o k (define_own_property o k d)
  by-has_property : OnPlain o k (has_property o k)
  by-get : (receiver : Value) → OnPlain o k (get o k receiver)
  by-set : (v receiver : Value) → object_of receiver ≡ Some o → OnPlain o k (set o k v receiver)
  by-delete : OnPlain o k (delete o k)
  by-own_property_keys : OnPlain o k (own_property_keys o)

-- a step by one of them, whose records pass their tests, whose sheet is empty and whose output holds the object's keys, ends in a result
pub record PlainAccepted (ω : World) (bytes sheet output : List ℕ) : Type 0 where
  pub accepts : (o : ℕ) (k : PropertyKey) → first_failing (record_tests ω bytes sheet) ≡ None → sheet_of sheet ≡ [] → Plain ω o k → OnPlain o k (asked bytes)
      → value_size * length (ordinary_own_property_keys ω.strings ω.store o) ≤ length output → (r : Result) × ((step ω bytes sheet output).response.ending ≡ result r)
