-- A write to the store: what it asks of the words, and what it makes of them and of the store. Assumes nothing.
use Rattle.std.specs.Prelude.{ℕ, ◌<◌, ◌^◌, ◌≡◌, Bool, true, not, cond, List, [], ◌∷◌, eqb, length, None}
use Rattle.std.proofs.lemmas.List.Edits.{sets}
use Rattle.value.specs.Bits.{bit}
use Rattle.value.specs.declared.Value.{Value}
use Rattle.value.specs.declared.PropertyKey.{PropertyKey}
use Rattle.value.specs.Words.{kind_of, payload_of, value_of}
use Rattle.value.specs.PropertyKey.{key_number}
use Rattle.property.specs.declared.Property.{Property}
use Rattle.store.specs.declared.Object.{Object}
use Rattle.store.specs.declared.Object.TheVariants as object
use Rattle.store_write.specs.declared.write.Write.{Write}
use Rattle.store_write.specs.declared.write.Write.TheVariants as write
use Rattle.store_write.specs.declared.write.ObjectWords.{ObjectWords}
use Rattle.store_write.specs.declared.write.PropertyWords.{PropertyWords}
use Rattle.store.specs.Store.{Store, put, live_count, add, with_change, own, with_property, without_property, maximum_objects, maximum_properties}
use Rattle.store.specs.Release.{release}
use Rattle.store.specs.declared.Entry.{Entry}
use Rattle.store.specs.Words.{store_size, live_at, key_at, entry_in, word_at, head_of, first_of, second_of, flags_of, primary, secondary, store_of, is_store, with_object, with_new_object, with_row, with_new_row, without_row, without_object}

-- the value is read back from its words, as every value of a run is
pub record Fits (v : Value) : Type 0 where
  pub again : value_of (kind_of v) (payload_of v) ≡ v

abbrev pub PrototypeFits : Object → Type 0
PrototypeFits (object.Ordinary r) = Fits r.prototype
PrototypeFits (object.Proxy p) = Unit

pub record FitsObject (x : Object) : Type 0 where
  pub prototype : PrototypeFits x

pub record FitsProperty (p : Property) : Type 0 where
  pub first : Fits (primary p)
  pub second : Fits (secondary p)

-- the words that the code makes of an object, and of a property
pub record ObjectCells (x : Object) (r : ObjectWords) : Type 0 where
  pub head : r.head ≡ head_of x
  pub first : r.first ≡ first_of x
  pub second : r.second ≡ second_of x
  pub fits : FitsObject x

pub record PropertyCells (p : Property) (r : PropertyWords) : Type 0 where
  pub flags : r.flags ≡ flags_of p
  pub kind : r.kind ≡ kind_of (primary p)
  pub payload : r.payload ≡ payload_of (primary p)
  pub second-kind : r.second_kind ≡ kind_of (secondary p)
  pub second-payload : r.second_payload ≡ payload_of (secondary p)
  pub fits : FitsProperty p

abbrev pub cells_of : PropertyWords → List ℕ
cells_of r = r.flags ∷ r.kind ∷ r.payload ∷ r.second_kind ∷ r.second_payload ∷ []

-- the store after a write
abbrev pub applied : Write → Store → Store
applied write.Nothing σ = σ
applied (write.Object o x) σ = put σ o x
applied (write.NewObject x b) σ = add σ x b
applied (write.Change i p) σ = with_change σ i p
applied (write.Add o k p) σ = with_property σ o k p
applied (write.Remove o k) σ = without_property σ o k
applied (write.Release o) σ = release σ o

-- the words after a write
abbrev pub written_to : Write → List ℕ → List ℕ
written_to write.Nothing words = words
written_to (write.Object o x) words = with_object words o x
written_to (write.NewObject x b) words = with_new_object words x b
written_to (write.Change i p) words = with_row words i p
written_to (write.Add o k p) words = with_new_row words o k p
written_to (write.Remove o k) words = without_row words o k
written_to (write.Release o) words = without_object words o

-- an owner and a key that one word can join
pub record Joins (o : ℕ) (k : PropertyKey) : Type 0 where
  pub owner : o < maximum_objects
  pub number : key_number k < 2 ^ 58

-- by its key word, an entry stays or else passes the test
abbrev pub StaysUnless : (Entry → Bool) → (ℕ → Bool → Type 0) → Type 0
StaysUnless test answers = (words : List ℕ) (i : ℕ) (stays : Bool) → answers (word_at words (key_at i)) stays → test (entry_in words i) ≡ not stays

-- a property that is new and has room
pub record New (words : List ℕ) (o : ℕ) (k : PropertyKey) : Type 0 where
  pub room : word_at words 1 < maximum_properties
  pub joins : Joins o k
  pub absent : own (store_of words) o k ≡ None

abbrev pub IsWithin : Write → List ℕ → Type 0
IsWithin write.Nothing words = Unit
IsWithin (write.Object o x) words = bit (word_at words live_at) o ≡ true
IsWithin (write.NewObject x b) words = live_count (store_of words) < maximum_objects
IsWithin (write.Change i p) words = i < word_at words 1
IsWithin (write.Add o k p) words = New words o k
IsWithin (write.Remove o k) words = Joins o k
IsWithin (write.Release o) words = bit (word_at words live_at) o ≡ true

-- the words are a store, and the write is one that it can take
pub record FitsIn (w : Write) (words : List ℕ) : Type 0 where
  pub store : is_store words ≡ true
  pub bounds : IsWithin w words

-- the words are exactly these now, and the store that they hold is this one
pub record Becomes (after expected : List ℕ) (σ : Store) : Type 0 where
  pub words : after ≡ expected
  pub store : store_of after ≡ σ
  pub kept : is_store after ≡ true

-- the words after writes, one after another
unfoldable pub written_all : List Write → List ℕ → List ℕ
written_all [] words = words
written_all (w ∷ ws) words = written_all ws (written_to w words)

-- writes were made, one after another: the words that they name have changed, and no others; they are a store still
pub record Committed (before after : List ℕ) : Type 0 where
  pub writes : List Write
  pub words : after ≡ written_all writes before
  pub kept : is_store after ≡ true

-- the words of an empty store: only those that stand first change
abbrev pub emptied : List ℕ → List ℕ
emptied words = cond (eqb (length words) store_size) (sets words 0 (0 ∷ 0 ∷ 0 ∷ 0 ∷ 0 ∷ 0 ∷ [])) words
