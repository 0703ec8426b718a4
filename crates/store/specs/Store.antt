-- The store: objects by their numbers, the numbers that were released, which objects are callable, and properties in the order of creation. Assumes nothing.
use Rattle.std.specs.Prelude.{ℕ, zero, suc, ◌+◌, ◌-◌, ◌*◌, Bool, true, false, ◌&&◌, cond, List, [], ◌∷◌, eqb, length, get_or, set, replicate, Option, None, Some}
use Rattle.value.specs.Bits.{bit, weight, with_bit}
use Rattle.value.specs.declared.Value.{Value}
use Rattle.value.specs.declared.Value.TheVariants as value
use Rattle.value.specs.declared.PropertyKey.{PropertyKey}
use Rattle.value.specs.PropertyKey.{same_key}
use Rattle.property.specs.declared.Property.{Property}
use Rattle.text.specs.Strings.{Strings}
use Rattle.store.specs.declared.Object.{Object}
use Rattle.store.specs.declared.Entry.{Entry}

pub record Store : Type 0 where
  pub objects : List (Option Object)  -- none where a number has no live object
  pub made : ℕ  -- how many numbers objects have had; the next unused one
  pub released : List ℕ  -- the numbers that are free again, the one released longest ago first
  pub callable : ℕ  -- bit o is the mark of the object o
  pub properties : List Entry

-- all that a list of calls changes
pub record World : Type 0 where
  pub store : Store
  pub strings : Strings

abbrev pub maximum_objects : ℕ
maximum_objects = 32

abbrev pub empty : World
empty = record {
  store = record { objects = replicate maximum_objects None; made = 0; released = []; callable = 0; properties = [] };
  strings = [];
}

abbrev pub maximum_properties : ℕ
maximum_properties = 256

-- the live object of a number
unfoldable pub lookup : Store → ℕ → Option Object
lookup σ o = get_or σ.objects o None

-- the object o is now x
unfoldable pub put : Store → ℕ → Object → Store
put σ o x = record {
  objects = set σ.objects o (Some x);
  made = σ.made;
  released = σ.released;
  callable = σ.callable;
  properties = σ.properties;
}

abbrev pub first_or : ℕ → List ℕ → ℕ
first_or n [] = n
first_or n (o ∷ os) = o

abbrev pub rest : List ℕ → List ℕ
rest [] = []
rest (o ∷ os) = os

-- one number more is in use, unless it was free again
abbrev pub made_with : ℕ → List ℕ → ℕ
made_with n [] = suc n
made_with n (o ∷ os) = n

-- the number that the next object takes: the one released longest ago or, with none released, the next unused one
abbrev pub next_number : Store → ℕ
next_number σ = first_or σ.made σ.released

-- how many objects are live
abbrev pub live_count : Store → ℕ
live_count σ = σ.made - length σ.released

-- x is the next object, callable or not
unfoldable pub add : Store → Object → Bool → Store
add σ x b = record {
  objects = set σ.objects (next_number σ) (Some x);
  made = made_with σ.made σ.released;
  released = rest σ.released;
  callable = with_bit σ.callable (next_number σ) b;
  properties = σ.properties;
}

abbrev pub is_live : Option Object → Bool
is_live None = false
is_live (Some x) = true

-- bit o says whether the object o is live
unfoldable pub live_marks : List (Option Object) → ℕ
live_marks [] = 0
live_marks (x ∷ xs) = weight (is_live x) 1 + 2 * live_marks xs

-- is the object o a function?
abbrev pub is_function : Store → ℕ → Bool
is_function σ o = bit σ.callable o

-- the value that names an object: of kind 8 where it is a function, else of kind 7
abbrev pub named : Bool → ℕ → Value
named true o = value.Function o
named false o = value.Object o

abbrev pub name_of : Store → ℕ → Value
name_of σ o = named (is_function σ o) o

abbrev pub entry : ℕ → PropertyKey → Property → Entry
entry o k p = record { owner = o; key = k; property = p }

-- is this the property k of the object o?
unfoldable pub is_at : Entry → ℕ → PropertyKey → Bool
is_at e o k = eqb e.owner o && same_key e.key k

unfoldable pub find : List Entry → ℕ → PropertyKey → Option Property
find [] o k = None
find (e ∷ es) o k = cond (is_at e o k) (Some e.property) (find es o k)

-- the property in its place, or at the end where it is new
unfoldable pub insert : List Entry → ℕ → PropertyKey → Property → List Entry
insert [] o k p = entry o k p ∷ []
insert (e ∷ es) o k p = cond (is_at e o k) (entry o k p ∷ es) (e ∷ insert es o k p)

-- those that do not pass the test, in their order
unfoldable pub excluding : (Entry → Bool) → List Entry → List Entry
excluding test [] = []
excluding test (e ∷ es) = cond (test e) (excluding test es) (e ∷ excluding test es)

unfoldable pub remove : List Entry → ℕ → PropertyKey → List Entry
remove es o k = excluding (λ (e : Entry). is_at e o k) es

unfoldable pub own : Store → ℕ → PropertyKey → Option Property
own σ o k = find σ.properties o k

-- the same objects, with these properties
abbrev pub with_properties : Store → List Entry → Store
with_properties σ es = record { objects = σ.objects; made = σ.made; released = σ.released; callable = σ.callable; properties = es }

unfoldable pub with_property : Store → ℕ → PropertyKey → Property → Store
with_property σ o k p = with_properties σ (insert σ.properties o k p)

unfoldable pub without_property : Store → ℕ → PropertyKey → Store
without_property σ o k = with_properties σ (remove σ.properties o k)

-- the property of entry i is p
unfoldable pub replace_at : List Entry → ℕ → Property → List Entry
replace_at [] i p = []
replace_at (e ∷ es) zero p = entry e.owner e.key p ∷ es
replace_at (e ∷ es) (suc i) p = e ∷ replace_at es i p

unfoldable pub with_change : Store → ℕ → Property → Store
with_change σ i p = with_properties σ (replace_at σ.properties i p)
