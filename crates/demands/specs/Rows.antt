-- The proved rows of docs/REFERENCE.md: one table, each row with what the definitions compute and what it must be. Assumes nothing.
use Rattle.std.specs.Prelude.{ℕ, Bool, true, false, List, [], ◌∷◌, ◌++◌, pos, replicate, None, Some}
use Rattle.std.specs.Float.{binary64}
use Rattle.std.specs.Float.Ieee.{of_bits}
use Rattle.value.specs.declared.Value.{Value}
use Rattle.value.specs.declared.Value.TheVariants.{Undefined, Integer32, Float64}
use Rattle.value.specs.Value.{same_value}
use Rattle.property.specs.declared.DescriptorKind.TheVariants as kind
use Rattle.property.specs.declared.PropertyDescriptor.{PropertyDescriptor}
use Rattle.property.specs.declared.Property.{Property}
use Rattle.property.specs.declared.Property.TheVariants.{Data}
use Rattle.property.specs.Descriptor.{complete}
use Rattle.property.specs.Validate.{validate, is_accepted}
use Rattle.property.specs.ArrayIndex.{array_index}
use Rattle.internal_methods.specs.Messages.{codes}
use Rattle.record.specs.Step.{is_some}
use Rattle.steps.specs.Perform.{absent}
use Rattle.steps.specs.Response.{Ending, result, type_error, Response, refusal}
use Rattle.steps.specs.Run.{Call, step, enter, Event, run}

pub data Cell : Type 0 where
  test : Bool → Cell  -- same or index or true; differ or string or false
  property : Property → Cell
  ends : Ending → (calls : ℕ) → Cell
  ending : Ending → Cell

-- Bytes -----------------------------------------------------------------------------

abbrev pub zeros : ℕ → List ℕ
zeros n = replicate n 0

-- a value record: its kind and the three low bytes of its payload
abbrev pub value : ℕ → ℕ → ℕ → ℕ → List ℕ
value kind low middle high = kind ∷ low ∷ middle ∷ high ∷ zeros 5

abbrev pub null : List ℕ
null = value 1 0 0 0

abbrev pub unused : List ℕ
unused = zeros 9

-- code, object, key, value and receiver, with no descriptor
abbrev pub plain : ℕ → ℕ → List ℕ → List ℕ → List ℕ → List ℕ
plain code object key v receiver = code ∷ object ∷ (key ++ (v ++ (receiver ++ zeros 29)))

-- [[DefineOwnProperty]] of a data descriptor with all four fields present; `flags` has enumerable 1, configurable 2, writable 4
abbrev pub define : ℕ → List ℕ → ℕ → List ℕ → List ℕ
define object key flags v = 9 ∷ object ∷ (key ++ (zeros 18 ++ (15 ∷ flags ∷ (v ++ zeros 18))))

abbrev pub no_answers : List ℕ
no_answers = 0 ∷ []

-- a step with no answers and no output
abbrev pub quiet : List ℕ → Call
quiet bytes = step bytes no_answers []

-- the strings "a" and "b", which are 0 and 1, as keys
abbrev pub a : List ℕ
a = value 5 0 0 0

abbrev pub b : List ℕ
b = value 5 1 0 0

-- "a" and "b" are entered, and object 0 is made
abbrev pub begun : List Call
begun = enter (97 ∷ []) ∷ enter (98 ∷ []) ∷ quiet (plain 1 0 unused null unused) ∷ []

-- object 1, a proxy over object 0 with a trap mask, given by two bytes
abbrev pub proxy : ℕ → ℕ → Call
proxy low high = quiet (plain 2 0 unused (value 3 low high 0) unused)

abbrev pub prevent_extensions : Call
prevent_extensions = quiet (plain 7 0 unused unused unused)

-- [[OwnPropertyKeys]] of object 1, with an output for two keys
abbrev pub own_keys : List ℕ → Call
own_keys sheet = step (plain 14 1 unused unused unused) sheet (zeros 18)

-- one answer: a key list of up to 255 keys
abbrev pub key_list : ℕ → List ℕ → List ℕ
key_list count keys = 1 ∷ 3 ∷ count ∷ 0 ∷ keys

-- 70000 is 0x11170, and 4464 is 0x1170
abbrev pub seventy_thousand : List ℕ
seventy_thousand = value 3 0x70 0x11 0x01

abbrev pub sixteen_bits : List ℕ
sixteen_bits = value 3 0x70 0x11 0x00

-- The lists of calls of the rows ----------------------------------------------------

-- a get trap answers 4464 where the target's a is 70000, fixed
abbrev pub cut_get : List Call
cut_get = begun ++ (quiet (define 0 a 1 seventy_thousand) ∷ proxy 128 0 ∷ step (plain 11 1 a unused (value 7 1 0 0)) (1 ∷ 1 ∷ sixteen_bits) [] ∷ [])

-- a getOwnPropertyDescriptor trap answers undefined where the target is empty and non-extensible
abbrev pub absent_own : List Call
absent_own = begun ++ (prevent_extensions ∷ proxy 16 0 ∷ step (plain 8 1 a unused unused) (1 ∷ 1 ∷ unused) [] ∷ [])

-- an ownKeys trap answers [a,a]
abbrev pub twice_listed : List Call
twice_listed = begun ++ (proxy 0 4 ∷ own_keys (key_list 2 (a ++ a)) ∷ [])

-- it answers [a] where the target has a non-configurable b
abbrev pub fixed_unlisted : List Call
fixed_unlisted = begun ++ (quiet (define 0 b 5 null) ∷ proxy 0 4 ∷ own_keys (key_list 1 a) ∷ [])

-- it answers [] where the target has a configurable a and is non-extensible
abbrev pub kept_unlisted : List Call
kept_unlisted = begun ++ (quiet (define 0 a 7 null) ∷ prevent_extensions ∷ proxy 0 4 ∷ own_keys (key_list 0 []) ∷ [])

-- it answers [a] where the target is empty and non-extensible
abbrev pub new_listed : List Call
new_listed = begun ++ (prevent_extensions ∷ proxy 0 4 ∷ own_keys (key_list 1 a) ∷ [])

-- The last event -------------------------------------------------------------------

unfoldable pub last_of : Response → List Event → Response
last_of r [] = r
last_of r (e ∷ es) = last_of e.response es

abbrev pub last : List Call → Response
last calls = last_of (refusal 0) (run calls)

abbrev pub last_ends : List Call → Cell
last_ends calls = ends (last calls).ending (last calls).calls

abbrev pub last_ending : List Call → Cell
last_ending calls = ending (last calls).ending

-- Descriptors ------------------------------------------------------------------------

abbrev pub integer : ℕ → Value
integer n = Integer32 (pos n)

abbrev pub float : ℕ → Value
float bits = Float64 (of_bits binary64 bits)

abbrev pub empty_descriptor : PropertyDescriptor
empty_descriptor = record { enumerable = None; configurable = None; kind = kind.Generic }

abbrev pub value_descriptor : ℕ → PropertyDescriptor
value_descriptor n = record {
  enumerable = None;
  configurable = None;
  kind = kind.Data (Some (integer n)) None;
}

abbrev pub is_index : List ℕ → Cell
is_index text = test (is_some (array_index text))

-- validated over 70000, neither writable nor configurable
abbrev pub over_sealed : ℕ → Cell
over_sealed n = test (is_accepted (validate true (value_descriptor n) (Some (Data (integer 70000) false true false))))

-- The table -------------------------------------------------------------------------

pub record Row : Type 0 where
  pub given : List Cell
  pub outcome : List Cell

abbrev pub one : Cell → Cell → Row
one given outcome = record { given = given ∷ []; outcome = outcome ∷ [] }

abbrev pub two : Cell → Cell → Cell → Cell → Row
two given₁ given₂ outcome₁ outcome₂ = record { given = given₁ ∷ given₂ ∷ []; outcome = outcome₁ ∷ outcome₂ ∷ [] }

abbrev pub rows : List Row
rows =
    -- Integer32 0, Float64 -0: differ
    one (test (same_value (integer 0) (float 0x8000000000000000))) (test false)
    -- Integer32 1, Float64 1.0: same
    ∷ one (test (same_value (integer 1) (float 0x3ff0000000000000))) (test true)
    -- NaNs of different bits: same
    ∷ one (test (same_value (float 0x7ff8000000000000) (float 0xfff0000000000001))) (test true)
    -- "4294967294" / "4294967295": index / string
    ∷ two (is_index (codes "4294967294")) (is_index (codes "4294967295")) (test true) (test false)
    -- "0" / "01": index / string
    ∷ two (is_index (codes "0")) (is_index (codes "01")) (test true) (test false)
    -- empty descriptor completed: data, undefined, all false
    ∷ one (property (complete empty_descriptor)) (property (Data Undefined false false false))
    -- current absent, not extensible: false
    ∷ one (test (is_accepted (validate false (value_descriptor 1) None))) (test false)
    -- sealed 70000, value 4464 / 70000: false / true
    ∷ two (over_sealed 4464) (over_sealed 70000) (test false) (test true)
    -- get answers 4464, sealed 70000: message 17, 2 calls
    ∷ one (last_ends cut_get) (ends (type_error 17) 2)
    -- own property undefined, target absent and non-extensible: absent, 2 calls
    ∷ one (last_ends absent_own) (ends (result absent) 2)
    -- keys [a,a]: 22
    ∷ one (last_ending twice_listed) (ending (type_error 22))
    -- [a], target has non-configurable b: 24
    ∷ one (last_ending fixed_unlisted) (ending (type_error 24))
    -- [], non-extensible target has configurable a: 25
    ∷ one (last_ending kept_unlisted) (ending (type_error 25))
    -- [a], non-extensible target empty: 26
    ∷ one (last_ending new_listed) (ending (type_error 26))
    ∷ []

abbrev pub givens : List Row → List (List Cell)
givens [] = []
givens (r ∷ rs) = r.given ∷ givens rs

abbrev pub outcomes : List Row → List (List Cell)
outcomes [] = []
outcomes (r ∷ rs) = r.outcome ∷ outcomes rs
