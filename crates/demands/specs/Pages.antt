-- Pages: which calls for one are refused, what its lines say, for how long, and that they can be read back. Assumes nothing.
use Rattle.std.specs.Prelude.{ℕ, zero, suc, ◌+◌, ◌-◌, ◌*◌, ◌/◌, ◌≤◌, ◌<◌, ◌≡◌, ◌↔◌, Bool, true, false, List, [], ◌∷◌, map, eqb, length, take, drop, Option, None, Some, slice_get}
use Rattle.value.specs.declared.Value.{Value}
use Rattle.value.specs.declared.PropertyKey.{PropertyKey}
use Rattle.value.specs.declared.PropertyKey.TheVariants.{String, Symbol}
use Rattle.value.specs.PropertyKey.{key_number}
use Rattle.value.specs.Value.{same_value}
use Rattle.value.specs.Words.{pick}
use Rattle.property.specs.declared.Property.{Property}
use Rattle.property.specs.declared.Property.TheVariants.{Data, Accessor}
use Rattle.store.specs.declared.OrdinaryObject.{OrdinaryObject}
use Rattle.store.specs.declared.ProxyObject.{ProxyObject}
use Rattle.store.specs.declared.Object.TheVariants.{Ordinary, Proxy}
use Rattle.store.specs.Store.{World, lookup}
use Rattle.store.specs.OwnKeys.{ordinary_own_property_keys}
use Rattle.record.specs.Bytes.{byte_at, value_at, value_bytes}
use Rattle.record.specs.Characters.{bytes_in}
use Rattle.steps.specs.Operation.{get_own_property, own_property_keys, asked}
use Rattle.steps.specs.Perform.{Result, descriptor, absent, keys}
use Rattle.steps.specs.Perform as result
use Rattle.steps.specs.Response.{refused, result}
use Rattle.steps.specs.Step.{refusing, step}
use Rattle.steps.specs.Page.{names, key_column, line, LineFormed, shown_on, page, property_page}
use Rattle.steps.specs.Run.{Call, Event, At, run, world_at}
use Rattle.steps.specs.Run as call
use Rattle.demands.specs.Lasting.{ReportsFixed, ReportsNonExtensible, ReportsAbsent, Unreleased}

-- 46 characters and a line feed
abbrev pub line_size : ℕ
line_size = 47

-- Demand 1 ----------------------------------------------------------------------------------

-- the conditions under which there is no page
pub data PageRefusal (ω : World) (o : ℕ) (output : List ℕ) : ℕ → Type 0 where
  -- 2: no live object has the number
  missing : lookup ω.store o ≡ None → PageRefusal ω o output 2
  -- 3: it is a proxy
  proxied : {p : ProxyObject} → lookup ω.store o ≡ Some (Proxy p) → PageRefusal ω o output 3
  -- 11: the names and each own key take a line, and the output has fewer bytes
  short : {r : OrdinaryObject} → lookup ω.store o ≡ Some (Ordinary r) → length output < line_size * suc (length (ordinary_own_property_keys ω.strings ω.store o)) → PageRefusal ω o output 11

-- what demand 1 says of a call for a page
pub record PageDecided (ω : World) (o : ℕ) (output : List ℕ) : Type 0 where
  pub refuses : (n : ℕ) → ((property_page ω o output).response.ending ≡ refused n) ↔ PageRefusal ω o output n
  pub accepts : ((n : ℕ) → PageRefusal ω o output n → ⊥) → (property_page ω o output).response.ending ≡ result (result.page (page ω o))
  pub untouched : (n : ℕ) → (property_page ω o output).response.ending ≡ refused n → property_page ω o output ≡ refusing n ω output
  -- no page changes the store or the strings
  pub unchanged : (property_page ω o output).world ≡ ω

-- What lines say ------------------------------------------------------------------------------

-- line n of a text; line 0 has the names
abbrev pub line_at : List ℕ → ℕ → List ℕ
line_at text n = take line_size (drop (line_size * n) text)

-- the key's column in the line of property n
abbrev pub key_at : List ℕ → ℕ → List ℕ
key_at text n = take 4 (line_at text (suc n))

-- a line for the names and for each of the keys, in their order
pub record Lists (text : List ℕ) (ks : List PropertyKey) : Type 0 where
  pub sized : length text ≡ line_size * suc (length ks)
  pub formed : (n : ℕ) → n ≤ length ks → LineFormed (line_at text n)
  pub headed : line_at text 0 ≡ names
  pub keyed : (n : ℕ) (k : PropertyKey) → slice_get ks n ≡ Some k → key_at text n ≡ key_column k

-- what a text says of a key: no line has it; or a line has it with the property, and so has every line that has the key
pub data Says (text : List ℕ) (k : PropertyKey) : Result → Type 0 where
  lacks : ((n : ℕ) → key_at text n ≡ key_column k → ⊥) → Says text k absent
  has : (p : Property) (n : ℕ) → line_at text (suc n) ≡ line k p → ((m : ℕ) → key_at text m ≡ key_column k → line_at text (suc m) ≡ line k p) → Says text k (descriptor p)

-- the pages of ordinary objects, in each world of a list of calls
pub record PagesSay (calls : List Call) : Type 0 where
  -- a page lists the keys that [[OwnPropertyKeys]] answers in that world
  pub listed : (i o : ℕ) (r : OrdinaryObject) (bytes sheet output : List ℕ) (ks : List PropertyKey) → lookup (world_at calls i).store o ≡ Some (Ordinary r)
      → asked bytes ≡ own_property_keys o → (step (world_at calls i) bytes sheet output).response.ending ≡ result (keys ks) → Lists (page (world_at calls i) o) ks
  -- and says of a key what [[GetOwnProperty]] answers in that world; every key that refusal 3 lets pass has a number below 1,000
  pub told : (i o : ℕ) (r : OrdinaryObject) (bytes sheet output : List ℕ) (k : PropertyKey) (x : Result) → lookup (world_at calls i).store o ≡ Some (Ordinary r)
      → asked bytes ≡ get_own_property o k → key_number k < 1000 → (step (world_at calls i) bytes sheet output).response.ending ≡ result x → Says (page (world_at calls i) o) k x

-- Lasting reports -----------------------------------------------------------------------------

-- the event is a call for the page of o, and this is the page
pub record ShowsPage (e : Event) (o : ℕ) (text : List ℕ) : Type 0 where
  pub output : List ℕ
  pub call : e.call ≡ call.page o output
  pub ending : e.response.ending ≡ result (result.page text)

-- the page has the key with this value under SameValue, neither writable nor configurable
pub record SaysFixed (text : List ℕ) (k : PropertyKey) (v : Value) : Type 0 where
  pub current : Value
  pub enumerable : Bool
  pub same : same_value current v ≡ true
  pub says : Says text k (descriptor (Data current false enumerable false))

pub record PagesLast (events : List Event) : Type 0 where
  -- what was once reported fixed is so on every later page
  pub fixed : (i j : ℕ) (e f : Event) (o : ℕ) (k : PropertyKey) (v : Value) (text : List ℕ) → i < j → Unreleased events (suc i) j o → At events i e → At events j f
      → ReportsFixed o k v e → ShowsPage f o text → SaysFixed text k v
  -- a key that was reported absent after a non-extensible report is on no later page
  pub hidden : (i j l : ℕ) (e f g : Event) (o : ℕ) (k : PropertyKey) (text : List ℕ) → i < j → j < l → Unreleased events (suc i) l o → At events i e → At events j f → At events l g → key_number k < 1000
      → ReportsNonExtensible o e → ReportsAbsent o k f → ShowsPage g o text → Says text k absent

-- Reading back --------------------------------------------------------------------------------

-- the number that three decimal digits from i on are
abbrev pub decimal_at : List ℕ → ℕ → ℕ
decimal_at l i = 100 * (byte_at l i - 48) + (10 * (byte_at l (suc i) - 48) + (byte_at l (suc (suc i)) - 48))

unfoldable pub key_read : List ℕ → PropertyKey
key_read l = pick (eqb (byte_at l 0) 115) (String (decimal_at l 1)) (Symbol (decimal_at l 1))

abbrev pub bytes_or : Option (List ℕ) → List ℕ
bytes_or None = []
bytes_or (Some bytes) = bytes

-- the value of the 18 digits from i on
unfoldable pub value_read : List ℕ → ℕ → Value
value_read l i = value_at (bytes_or (bytes_in (take 18 (drop i l)))) 0

unfoldable pub property_read : List ℕ → Property
property_read l =
    pick (eqb (byte_at l 7) 45)
    (Accessor (value_read l 9) (value_read l 28) (eqb (byte_at l 5) 101) (eqb (byte_at l 6) 99))
    (Data (value_read l 9) (eqb (byte_at l 7) 119) (eqb (byte_at l 5) 101) (eqb (byte_at l 6) 99))

unfoldable pub lines_read : ℕ → List ℕ → List (PropertyKey × Property)
lines_read zero text = []
lines_read (suc n) text = (key_read (take line_size text), property_read (take line_size text)) ∷ lines_read n (drop line_size text)

-- the keys and properties of a page
abbrev pub page_read : List ℕ → List (PropertyKey × Property)
page_read text = lines_read (length text / line_size - 1) (drop line_size text)

-- what its nine bytes tell of a value: itself, if its payload is below 2^64
abbrev pub shown_value : Value → Value
shown_value v = value_at (value_bytes v) 0

abbrev pub shown_property : Property → Property
shown_property (Data v w e c) = Data (shown_value v) w e c
shown_property (Accessor g s e c) = Accessor (shown_value g) (shown_value s) e c

abbrev pub as_shown : PropertyKey × Property → PropertyKey × Property
as_shown x = (x.0, shown_property x.1)

-- no two keys and properties give one line
pub record LinesTell (k l : PropertyKey) (p q : Property) : Type 0 where
  pub apart : key_number k < 1000 → key_number l < 1000 → line k p ≡ line l q → (k ≡ l) × (shown_property p ≡ shown_property q)

-- every page of a run is read back, in the order of its lines
pub record PagesRead (calls : List Call) : Type 0 where
  pub reads : (i o : ℕ) → page_read (page (world_at calls i) o) ≡ map as_shown (shown_on (world_at calls i) o)
