-- ECMA-262 6.1.7 property keys: a string or a symbol. Equal strings have one number. Assumes nothing.
use Rattle.std.specs.Prelude.{ℕ, Bool, true, false, eqb, Option, None, Some}
use Rattle.value.specs.declared.Value.{Value}
use Rattle.value.specs.declared.Value.TheVariants as value
use Rattle.value.specs.declared.PropertyKey.{PropertyKey}
use Rattle.value.specs.declared.PropertyKey.TheVariants.{String, Symbol}

unfoldable pub same_key : PropertyKey → PropertyKey → Bool
same_key (String a) (String b) = eqb a b
same_key (String a) (Symbol b) = false
same_key (Symbol a) (String b) = false
same_key (Symbol a) (Symbol b) = eqb a b

-- the number of the string or of the symbol
abbrev pub key_number : PropertyKey → ℕ
key_number (String s) = s
key_number (Symbol s) = s

-- a key as a language value
abbrev pub key_value : PropertyKey → Value
key_value (String s) = value.String s
key_value (Symbol s) = value.Symbol s

-- the key that a value is, if it is a string or a symbol
abbrev pub key_of : Value → Option PropertyKey
key_of value.Undefined = None
key_of value.Null = None
key_of (value.Boolean b) = None
key_of (value.Integer32 n) = None
key_of (value.Float64 x) = None
key_of (value.String s) = Some (String s)
key_of (value.Symbol s) = Some (Symbol s)
key_of (value.Object o) = None
key_of (value.Function f) = None
