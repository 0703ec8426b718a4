-- The store in lent words: two counts, two words of marks, the released numbers, 32 objects of 3 words, 256 key words, then 256 properties of 5 words. Assumes nothing.
use Rattle.std.specs.Prelude.{ℕ, zero, suc, ◌+◌, ◌-◌, ◌*◌, ◌/◌, ◌%◌, ◌^◌, Bool, true, false, not, ◌&&◌, cond, List, eqb, leb, ltb, length, get_or, set, Option, None, Some}
use Rattle.value.specs.Bits.{bit, weight, with_bit}
use Rattle.value.specs.declared.Value.{Value}
use Rattle.value.specs.declared.Value.TheVariants.{Undefined}
use Rattle.value.specs.declared.PropertyKey.{PropertyKey}
use Rattle.value.specs.declared.PropertyKey.TheVariants.{String, Symbol}
use Rattle.value.specs.Words.{pick, kind_of, payload_of, value_of}
use Rattle.property.specs.declared.Property.{Property}
use Rattle.property.specs.declared.Property.TheVariants.{Data, Accessor}
use Rattle.text.specs.Table.{tabulate, strings_of}
use Rattle.store.specs.declared.Object.{Object}
use Rattle.store.specs.declared.Object.TheVariants.{Ordinary, Proxy}
use Rattle.store.specs.declared.Entry.{Entry}
use Rattle.store.specs.Store.{Store, World, is_at, maximum_objects, maximum_properties}
use Rattle.store.specs.Release.{is_owned_by}

abbrev pub store_size : ℕ
store_size = 1670

-- the words that stand first: how many numbers objects have had, how many properties there are, the marks of callable and of live
-- objects, how many numbers are released, and which of the 32 words after them has the one released longest ago
abbrev pub made_at : ℕ
made_at = 0

abbrev pub properties_at : ℕ
properties_at = 1

abbrev pub callable_at : ℕ
callable_at = 2

abbrev pub live_at : ℕ
live_at = 3

abbrev pub released_at : ℕ
released_at = 4

abbrev pub first_at : ℕ
first_at = 5

-- where the released numbers, object o, key word i and property i stand
abbrev pub queue_at : ℕ → ℕ
queue_at i = 6 + i

abbrev pub object_at : ℕ → ℕ
object_at o = 38 + 3 * o

abbrev pub key_at : ℕ → ℕ
key_at i = 134 + i

abbrev pub row_at : ℕ → ℕ
row_at i = 390 + 5 * i

abbrev pub word_at : List ℕ → ℕ → ℕ
word_at words i = get_or words i 0

-- Objects ------------------------------------------------------------------------------

-- head 0: ordinary, not extensible; 1: ordinary, extensible; 2: proxy; any other: revoked proxy
unfoldable pub object_of : ℕ → ℕ → ℕ → Object
object_of head a b =
    pick (eqb head 0) (Ordinary (record { prototype = value_of a b; extensible = false }))
    (pick (eqb head 1) (Ordinary (record { prototype = value_of a b; extensible = true }))
    (Proxy (record { target = a; traps = b; revoked = not (eqb head 2) })))

unfoldable pub object_in : List ℕ → ℕ → Object
object_in words o = object_of (word_at words (object_at o)) (word_at words (object_at o + 1)) (word_at words (object_at o + 2))

-- none where the object is not live
unfoldable pub slot_in : List ℕ → ℕ → Option Object
slot_in words o = pick (bit (word_at words live_at) o) (Some (object_in words o)) None

-- the three words of an object
abbrev pub head_of : Object → ℕ
head_of (Ordinary r) = cond r.extensible 1 0
head_of (Proxy p) = cond p.revoked 3 2

abbrev pub first_of : Object → ℕ
first_of (Ordinary r) = kind_of r.prototype
first_of (Proxy p) = p.target

abbrev pub second_of : Object → ℕ
second_of (Ordinary r) = payload_of r.prototype
second_of (Proxy p) = p.traps

-- Properties ---------------------------------------------------------------------------

-- a key word joins owner, class and number
abbrev pub key_word : ℕ → PropertyKey → ℕ
key_word o (String s) = o + 64 * s
key_word o (Symbol s) = o + 32 + 64 * s

abbrev pub owner_of : ℕ → ℕ
owner_of word = word % 32

unfoldable pub key_of : ℕ → PropertyKey
key_of word = pick (eqb (word / 32 % 2) 0) (String (word / 64)) (Symbol (word / 64))

-- flags: accessor 1, writable 2, enumerable 4, configurable 8
unfoldable pub property_of : ℕ → Value → Value → Property
property_of flags a b = pick (bit flags 0) (Accessor a b (bit flags 2) (bit flags 3)) (Data a (bit flags 1) (bit flags 2) (bit flags 3))

abbrev pub flags_of : Property → ℕ
flags_of (Data v w e c) = weight w 2 + weight e 4 + weight c 8
flags_of (Accessor g s e c) = 1 + weight e 4 + weight c 8

-- the value or getter, and the setter
abbrev pub primary : Property → Value
primary (Data v w e c) = v
primary (Accessor g s e c) = g

abbrev pub secondary : Property → Value
secondary (Data v w e c) = Undefined
secondary (Accessor g s e c) = s

unfoldable pub property_in : List ℕ → ℕ → Property
property_in words i =
    property_of (word_at words (row_at i))
    (value_of (word_at words (row_at i + 1)) (word_at words (row_at i + 2)))
    (value_of (word_at words (row_at i + 3)) (word_at words (row_at i + 4)))

unfoldable pub entry_in : List ℕ → ℕ → Entry
entry_in words i = record {
  owner = owner_of (word_at words (key_at i));
  key = key_of (word_at words (key_at i));
  property = property_in words i;
}

-- Released numbers ---------------------------------------------------------------------

-- the place of the i-th of them; the 32 places are a ring
abbrev pub place_of : List ℕ → ℕ → ℕ
place_of words i = (word_at words first_at + i) % maximum_objects

unfoldable pub released_in : List ℕ → ℕ → ℕ
released_in words i = word_at words (queue_at (place_of words i)) % maximum_objects

-- The store ----------------------------------------------------------------------------

unfoldable pub store_of : List ℕ → Store
store_of words = record {
  objects = tabulate (slot_in words) 0 maximum_objects;
  made = word_at words made_at;
  released = tabulate (released_in words) 0 (word_at words released_at);
  callable = word_at words callable_at;
  properties = tabulate (entry_in words) 0 (word_at words properties_at);
}

-- what the store's words and the string table's cells hold
abbrev pub world_of : List ℕ → List ℕ → World
world_of words cells = record { store = store_of words; strings = strings_of cells }

-- the right length, and counts and marks that a store can have
unfoldable pub is_store : List ℕ → Bool
is_store words =
    eqb (length words) store_size
    && (leb (word_at words made_at) maximum_objects
    && (leb (word_at words properties_at) maximum_properties
    && (ltb (word_at words live_at) (2 ^ maximum_objects)
    && leb (word_at words released_at) maximum_objects)))

-- What each write makes of the words -----------------------------------------------------

-- object o is now x
unfoldable pub with_object : List ℕ → ℕ → Object → List ℕ
with_object words o x = set (set (set words (object_at o) (head_of x)) (object_at o + 1) (first_of x)) (object_at o + 2) (second_of x)

-- the number that the next object takes
unfoldable pub next_in : List ℕ → ℕ
next_in words = pick (eqb (word_at words released_at) 0) (word_at words made_at) (released_in words 0)

-- it is taken: from the released ones, or one number more is in use
unfoldable pub with_number_taken : List ℕ → List ℕ
with_number_taken words =
    pick (eqb (word_at words released_at) 0)
    (set words made_at (suc (word_at words made_at)))
    (set (set words first_at ((word_at words first_at + 1) % maximum_objects)) released_at (word_at words released_at - 1))

-- object o is now x, live, and callable or not
unfoldable pub with_live_object : List ℕ → ℕ → Object → Bool → List ℕ
with_live_object words o x b = set (set (with_object words o x) callable_at (with_bit (word_at words callable_at) o b)) live_at (with_bit (word_at words live_at) o true)

-- x is the next object, callable or not
unfoldable pub with_new_object : List ℕ → Object → Bool → List ℕ
with_new_object words x b = with_number_taken (with_live_object words (next_in words) x b)

-- property i is now p
unfoldable pub with_row : List ℕ → ℕ → Property → List ℕ
with_row words i p =
    set (set (set (set (set words (row_at i) (flags_of p))
    (row_at i + 1) (kind_of (primary p))) (row_at i + 2) (payload_of (primary p)))
    (row_at i + 3) (kind_of (secondary p))) (row_at i + 4) (payload_of (secondary p))

-- the property k of the object o is p, and is the last
unfoldable pub with_new_row : List ℕ → ℕ → PropertyKey → Property → List ℕ
with_new_row words o k p =
    set (with_row (set words (key_at (word_at words properties_at)) (key_word o k)) (word_at words properties_at) p)
    properties_at (suc (word_at words properties_at))

-- key word and property i moved to j
unfoldable pub moved : List ℕ → ℕ → ℕ → List ℕ
moved words i j =
    set (set (set (set (set (set words (key_at j) (word_at words (key_at i)))
    (row_at j) (word_at words (row_at i))) (row_at j + 1) (word_at words (row_at i + 1)))
    (row_at j + 2) (word_at words (row_at i + 2))) (row_at j + 3) (word_at words (row_at i + 3)))
    (row_at j + 4) (word_at words (row_at i + 4))

-- of the n properties from i on, those that do not pass the test stand from j on; then the count
unfoldable pub swept : (Entry → Bool) → ℕ → List ℕ → ℕ → ℕ → List ℕ
swept test zero words i j = set words properties_at j
swept test (suc n) words i j =
    pick (test (entry_in words i))
    (swept test n words (suc i) j)
    (swept test n (moved words i j) (suc i) (suc j))

-- without the properties that pass the test, the later ones moved down
abbrev pub without_rows : (Entry → Bool) → List ℕ → List ℕ
without_rows test words = swept test (word_at words properties_at) words 0 0

-- without the property k of the object o
unfoldable pub without_row : List ℕ → ℕ → PropertyKey → List ℕ
without_row words o k = without_rows (λ (e : Entry). is_at e o k) words

-- the number o is the last of those released, if there is room
unfoldable pub with_number_released : List ℕ → ℕ → List ℕ
with_number_released words o =
    pick (ltb (word_at words released_at) maximum_objects)
    (set (set words (queue_at (place_of words (word_at words released_at))) o) released_at (suc (word_at words released_at)))
    words

-- the object o is gone with its properties, and its number is free again
unfoldable pub without_object : List ℕ → ℕ → List ℕ
without_object words o =
    with_number_released (without_rows (is_owned_by o) (set words live_at (with_bit (word_at words live_at) o false))) o
