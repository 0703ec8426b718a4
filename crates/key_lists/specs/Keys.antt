-- The keys that were read, and which values a list of keys can be loaded from. Assumes nothing.
use Rattle.std.specs.Prelude.{Bool, true, List, [], ltb, Option, None, Some}
use Rattle.value.specs.declared.Value.{Value}
use Rattle.value.specs.declared.Value.TheVariants.{Undefined, Null, Boolean, Integer32, Float64, String, Symbol, Object, Function}
use Rattle.value.specs.declared.PropertyKey.{PropertyKey}

abbrev pub keys_held : Option (List PropertyKey) → List PropertyKey
keys_held None = []
keys_held (Some ks) = ks

-- the number of a string or a symbol is below 256, as all that there are have it
unfoldable pub is_bounded_key : Value → Bool
is_bounded_key Undefined = true
is_bounded_key Null = true
is_bounded_key (Boolean b) = true
is_bounded_key (Integer32 n) = true
is_bounded_key (Float64 x) = true
is_bounded_key (String s) = ltb s 256
is_bounded_key (Symbol s) = ltb s 256
is_bounded_key (Object o) = true
is_bounded_key (Function f) = true
