-- Releasing an object: whether a live object names it, and the store without it. Assumes nothing.
use Rattle.std.specs.Prelude.{ℕ, Bool, false, not, ◌&&◌, ◌||◌, cond, List, [], ◌∷◌, ◌++◌, eqb, ltb, length, set, Option, None, Some}
use Rattle.value.specs.declared.Value.{Value}
use Rattle.value.specs.Value.{object_of}
use Rattle.property.specs.declared.Property.{Property}
use Rattle.property.specs.declared.Property.TheVariants.{Data, Accessor}
use Rattle.store.specs.declared.Object.{Object}
use Rattle.store.specs.declared.Object.TheVariants.{Ordinary, Proxy}
use Rattle.store.specs.declared.Entry.{Entry}
use Rattle.store.specs.Store.{Store, excluding, maximum_objects}

-- Names ---------------------------------------------------------------------------------

abbrev pub is_number : ℕ → Option ℕ → Bool
is_number o None = false
is_number o (Some p) = eqb p o

-- does the value name the object o?
abbrev pub value_names : Value → ℕ → Bool
value_names v o = is_number o (object_of v)

-- by its prototype or, as a proxy that is not revoked, by its target
abbrev pub object_names : Option Object → ℕ → Bool
object_names None o = false
object_names (Some (Ordinary r)) o = value_names r.prototype o
object_names (Some (Proxy p)) o = not p.revoked && eqb p.target o

abbrev pub property_names : Property → ℕ → Bool
property_names (Data v w e c) o = value_names v o
property_names (Accessor g s e c) o = value_names g o || value_names s o

unfoldable pub objects_name : List (Option Object) → ℕ → Bool
objects_name [] o = false
objects_name (x ∷ xs) o = object_names x o || objects_name xs o

unfoldable pub properties_name : List Entry → ℕ → Bool
properties_name [] o = false
properties_name (e ∷ es) o = property_names e.property o || properties_name es o

-- does an object name o, by itself or by a property? A property of o counts as any other.
unfoldable pub is_named : Store → ℕ → Bool
is_named σ o = objects_name σ.objects o || properties_name σ.properties o

-- Release -------------------------------------------------------------------------------

abbrev pub is_owned_by : ℕ → Entry → Bool
is_owned_by o e = eqb e.owner o

-- the number is the last of those released; there are no more of them than numbers
abbrev pub queued : List ℕ → ℕ → List ℕ
queued os o = cond (ltb (length os) maximum_objects) (os ++ (o ∷ [])) os

-- the object o is gone with its properties, and its number is free again
unfoldable pub release : Store → ℕ → Store
release σ o = record {
  objects = set σ.objects o None;
  made = σ.made;
  released = queued σ.released o;
  callable = σ.callable;
  properties = excluding (is_owned_by o) σ.properties;
}
