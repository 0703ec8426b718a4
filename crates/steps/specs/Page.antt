-- The property page of an ordinary object: a line of names, then a line for each own property, in the order of the own keys. Assumes nothing.
use Rattle.std.specs.Prelude.{ℕ, ◌+◌, ◌-◌, ◌/◌, ◌%◌, ◌≡◌, Bool, true, false, cond, List, [], ◌∷◌, ◌++◌, length, take, drop, replicate, Option, None, Some}
use Rattle.value.specs.declared.Value.{Value}
use Rattle.value.specs.declared.PropertyKey.{PropertyKey}
use Rattle.value.specs.declared.PropertyKey.TheVariants.{String, Symbol}
use Rattle.value.specs.PropertyKey.{key_number}
use Rattle.property.specs.declared.Property.{Property}
use Rattle.property.specs.declared.Property.TheVariants.{Data, Accessor}
use Rattle.store.specs.declared.Object.{Object}
use Rattle.store.specs.declared.Object.TheVariants.{Ordinary, Proxy}
use Rattle.store.specs.Store.{Store, World, lookup, own}
use Rattle.store.specs.OwnKeys.{ordinary_own_property_keys}
use Rattle.record.specs.Bytes.{value_bytes}
use Rattle.record.specs.Characters.{space, line_feed, are_printable, hexadecimal}
use Rattle.steps.specs.Perform as result
use Rattle.steps.specs.Response.{Effect}
use Rattle.steps.specs.Response as ending
use Rattle.steps.specs.Step.{refusing, output_holds, output_after}

-- Lines ---------------------------------------------------------------------------------

-- four columns, with a space between two
unfoldable pub columns : List ℕ → List ℕ → List ℕ → List ℕ → List ℕ
columns key attributes first second = key ++ (space ∷ (attributes ++ (space ∷ (first ++ (space ∷ (second ++ (line_feed ∷ [])))))))

-- a name fills its column with spaces on its right
unfoldable pub padded : ℕ → List ℕ → List ℕ
padded width name = name ++ replicate (width - length name) space

-- key, ecw, value or get, set
abbrev pub names : List ℕ
names =
    columns (padded 4 (107 ∷ 101 ∷ 121 ∷ []))
    (padded 3 (101 ∷ 99 ∷ 119 ∷ []))
    (padded 18 (118 ∷ 97 ∷ 108 ∷ 117 ∷ 101 ∷ 32 ∷ 111 ∷ 114 ∷ 32 ∷ 103 ∷ 101 ∷ 116 ∷ []))
    (padded 18 (115 ∷ 101 ∷ 116 ∷ []))

-- s for a string, y for a symbol
abbrev pub class_letter : PropertyKey → ℕ
class_letter (String s) = 115
class_letter (Symbol s) = 121

-- the letter and three decimal digits; no number of a run is greater than 255
unfoldable pub key_column : PropertyKey → List ℕ
key_column k = class_letter k ∷ (48 + key_number k / 100 % 10) ∷ (48 + key_number k / 10 % 10) ∷ (48 + key_number k % 10) ∷ []

-- an attribute's letter, or a dot
abbrev pub mark : Bool → ℕ → ℕ
mark b letter = cond b letter 46

-- e, c and w; an accessor has a dash in place of writable
abbrev pub attributes_column : Property → List ℕ
attributes_column (Data v w e c) = mark e 101 ∷ mark c 99 ∷ mark w 119 ∷ []
attributes_column (Accessor g s e c) = mark e 101 ∷ mark c 99 ∷ 45 ∷ []

-- the nine bytes of a value
abbrev pub value_column : Value → List ℕ
value_column v = hexadecimal (value_bytes v)

-- the value or the getter
abbrev pub first_column : Property → List ℕ
first_column (Data v w e c) = value_column v
first_column (Accessor g s e c) = value_column g

-- the setter, or spaces
abbrev pub second_column : Property → List ℕ
second_column (Data v w e c) = padded 18 []
second_column (Accessor g s e c) = value_column s

abbrev pub line : PropertyKey → Property → List ℕ
line k p = columns (key_column k) (attributes_column p) (first_column p) (second_column p)

-- 46 printable characters, then a line feed
pub record LineFormed (l : List ℕ) : Type 0 where
  pub printable : are_printable (take 46 l) ≡ true
  pub fed : drop 46 l ≡ line_feed ∷ []

-- Pages ---------------------------------------------------------------------------------

abbrev pub with_own : PropertyKey → Option Property → List (PropertyKey × Property) → List (PropertyKey × Property)
with_own k None shown = shown
with_own k (Some p) shown = (k, p) ∷ shown

-- the keys, each with its property
unfoldable pub own_of : Store → ℕ → List PropertyKey → List (PropertyKey × Property)
own_of σ o [] = []
own_of σ o (k ∷ ks) = with_own k (own σ o k) (own_of σ o ks)

-- what a page shows: the own properties in the order of their keys
abbrev pub shown_on : World → ℕ → List (PropertyKey × Property)
shown_on ω o = own_of ω.store o (ordinary_own_property_keys ω.strings ω.store o)

unfoldable pub lines : List (PropertyKey × Property) → List ℕ
lines [] = []
lines (x ∷ shown) = line x.0 x.1 ++ lines shown

unfoldable pub page : World → ℕ → List ℕ
page ω o = names ++ lines (shown_on ω o)

-- The call ------------------------------------------------------------------------------

-- the text at the output's start, and its length as the answer; refusal 11 where the output cannot hold all of it
abbrev pub writing : World → List ℕ → List ℕ → Bool → Effect
writing ω text output false = refusing 11 ω output
writing ω text output true = record {
  response = record { ending = ending.result (result.page text); answers = 0; calls = 0 };
  world = ω;
  output = output_after (result.page text) output;
}

-- refusal 2 of a number never made, and 3 of a proxy
abbrev pub paging : World → ℕ → List ℕ → Option Object → Effect
paging ω o output None = refusing 2 ω output
paging ω o output (Some (Ordinary r)) = writing ω (page ω o) output (output_holds (result.page (page ω o)) output)
paging ω o output (Some (Proxy p)) = refusing 3 ω output

unfoldable pub property_page : World → ℕ → List ℕ → Effect
property_page ω o output = paging ω o output (lookup ω.store o)
