-- What each operation does to the store, and its result. Assumes nothing.
use Rattle.std.specs.Prelude.{ℕ, Bool, true, false, List, ltb, Option, None, Some}
use Rattle.value.specs.declared.Value.{Value}
use Rattle.value.specs.declared.Value.TheVariants as language
use Rattle.value.specs.declared.PropertyKey.{PropertyKey}
use Rattle.property.specs.declared.Property.{Property}
use Rattle.store.specs.declared.Object.{Object}
use Rattle.store.specs.declared.Object.TheVariants.{Ordinary, Proxy}
use Rattle.store.specs.Store.{Store, lookup, put, add, next_number, live_count, named, maximum_objects}
use Rattle.store.specs.Release
use Rattle.internal_methods.specs.declared.Failure.TheVariants.{Refused}
use Rattle.internal_methods.specs.Monad.{State, M, pure, fails, ◌>>=◌, when◌then◌else◌}
use Rattle.internal_methods.specs.Methods.{Context, Written}
use Rattle.internal_methods.specs.Internal.{methods}
use Rattle.steps.specs.Operation.{Operation, make_object, make_proxy, revoke, get_prototype_of, set_prototype_of, is_extensible, prevent_extensions, get_own_property, define_own_property, has_property, get, set, delete, own_property_keys, make_function, release, set_integrity_level, test_integrity_level}
use Rattle.steps.specs.Sequence.{Ran, Sequence, written, giving}
use Rattle.steps.specs.SetIntegrityLevel
use Rattle.steps.specs.TestIntegrityLevel

pub data Result : Type 0 where
  value : Value → Result
  descriptor : Property → Result
  absent : Result
  keys : List PropertyKey → Result
  page : List ℕ → Result  -- its text; no step has one

-- how many calls a step may make
abbrev pub maximum_calls : ℕ
maximum_calls = 2048

abbrev pub own_result : Option Property → Result
own_result None = absent
own_result (Some p) = descriptor p

abbrev pub boolean : Bool → Result
boolean b = value (language.Boolean b)

-- how an operation runs: its end, and the store after it
pub record Run : Type 0 where
  pub run : State → Ran Result

-- one that writes at most once, when it is done
unfoldable pub once : Store → M (Result × Store) → Run
once σ m = record { run = λ s. written σ (m.run s) }

-- one that writes as it goes
unfoldable pub in_turn : Store → Sequence Result → Run
in_turn σ m = record { run = λ s. m.run σ s }

-- a result that leaves the store as it is
abbrev pub reading : {A : Type 0} → Store → (A → Result) → M A → M (Result × Store)
reading σ result m = m >>= λ a. pure (result a, σ)

abbrev pub writing : M Written → M (Result × Store)
writing m = m >>= λ a. pure (boolean a.0, a.1)

-- a new object has the next number, and is callable or not
unfoldable pub make : Store → Object → Bool → M (Result × Store)
make σ x b =
    when ltb (live_count σ) maximum_objects then pure (value (named b (next_number σ)), add σ x b)
    else fails (Refused 7)

abbrev pub revoked : Store → ℕ → Option Object → Store
revoked σ o None = σ
revoked σ o (Some (Ordinary r)) = σ
revoked σ o (Some (Proxy p)) = put σ o (Proxy (record { target = p.target; traps = p.traps; revoked = true }))

-- the same strings and allowance, over another store
abbrev pub over : Context → Store → Context
over c σ = record { store = σ; strings = c.strings; allowance = c.allowance }

-- `depth` bounds how deep methods call one another
unfoldable pub perform : ℕ → Context → Operation → Run
perform depth c (make_object v) = once c.store (make c.store (Ordinary (record { prototype = v; extensible = true })) false)
perform depth c (make_proxy o traps) = once c.store (make c.store (Proxy (record { target = o; traps = traps; revoked = false })) false)
perform depth c (revoke o) = once c.store (pure (boolean true, revoked c.store o (lookup c.store o)))
perform depth c (get_prototype_of o) = once c.store (reading c.store value ((methods depth c).get_prototype_of o))
perform depth c (set_prototype_of o v) = once c.store (writing ((methods depth c).set_prototype_of o v))
perform depth c (is_extensible o) = once c.store (reading c.store boolean ((methods depth c).is_extensible o))
perform depth c (prevent_extensions o) = once c.store (writing ((methods depth c).prevent_extensions o))
perform depth c (get_own_property o k) = once c.store (reading c.store own_result ((methods depth c).get_own_property o k))
perform depth c (define_own_property o k d) = once c.store (writing ((methods depth c).define_own_property o k d))
perform depth c (has_property o k) = once c.store (reading c.store boolean ((methods depth c).has_property o k))
perform depth c (get o k receiver) = once c.store (reading c.store value ((methods depth c).get o k receiver))
perform depth c (set o k v receiver) = once c.store (writing ((methods depth c).set o k v receiver))
perform depth c (delete o k) = once c.store (writing ((methods depth c).delete o k))
perform depth c (own_property_keys o) = once c.store (reading c.store keys ((methods depth c).own_property_keys o))
perform depth c (make_function v) = once c.store (make c.store (Ordinary (record { prototype = v; extensible = true })) true)
perform depth c (release o) = once c.store (pure (boolean true, Release.release c.store o))
perform depth c (set_integrity_level o level) =
    in_turn c.store (giving boolean (SetIntegrityLevel.set_integrity_level (λ σ. methods depth (over c σ)) o level))
perform depth c (test_integrity_level o level) = once c.store (reading c.store boolean (TestIntegrityLevel.test_integrity_level (methods depth c) o level))
