-- The table of strings: each once, numbered from 0 in the order of entry. Assumes nothing.
use Rattle.std.specs.Prelude.{ℕ, zero, suc, Bool, true, false, ◌&&◌, cond, List, [], ◌∷◌, ◌++◌, eqb, leb, ltb, length, get_or, Option, None, Some}
use Rattle.value.specs.declared.PropertyKey.{PropertyKey}
use Rattle.value.specs.declared.PropertyKey.TheVariants.{String, Symbol}
use Rattle.property.specs.ArrayIndex.{array_index}

-- a string is the list of its code units
abbrev pub Strings : Type 0
Strings = List (List ℕ)

abbrev pub text_of : Strings → ℕ → List ℕ
text_of strings n = get_or strings n []

abbrev pub length_of : Strings → ℕ → ℕ
length_of strings n = length (text_of strings n)

unfoldable pub same_text : List ℕ → List ℕ → Bool
same_text [] [] = true
same_text [] (d ∷ ds) = false
same_text (c ∷ cs) [] = false
same_text (c ∷ cs) (d ∷ ds) = eqb c d && same_text cs ds

abbrev pub next : Option ℕ → Option ℕ
next None = None
next (Some n) = Some (suc n)

-- the number of a string that was entered
unfoldable pub number_of : Strings → List ℕ → Option ℕ
number_of [] units = None
number_of (text ∷ strings) units = cond (same_text text units) (Some zero) (next (number_of strings units))

-- 6.1.7: the array index that a key is, if it is one
unfoldable pub index_of : Strings → PropertyKey → Option ℕ
index_of strings (String s) = array_index (text_of strings s)
index_of strings (Symbol s) = None

abbrev pub maximum_length : ℕ
maximum_length = 32

abbrev pub maximum_strings : ℕ
maximum_strings = 256

-- what entering a string gives: its number and the table, or the number of the refusal
pub data Entry : Type 0 where
  refused : ℕ → Entry
  entered : ℕ → Strings → Entry

abbrev pub entering : Strings → List ℕ → Option ℕ → Entry
entering strings units (Some n) = entered n strings
entering strings units None = cond (ltb (length strings) maximum_strings) (entered (length strings) (strings ++ (units ∷ []))) (refused 7)

unfoldable pub enter : Strings → List ℕ → Entry
enter strings units = cond (leb (length units) maximum_length) (entering strings units (number_of strings units)) (refused 3)
