-- How each trap, getter and setter reads its answer; what cannot be read is refusal 9. Assumes nothing.
use Rattle.std.specs.Prelude.{Bool, List, [], ◌∷◌, Option, None, Some}
use Rattle.value.specs.declared.Value.{Value}
use Rattle.value.specs.declared.Value.TheVariants as value
use Rattle.value.specs.declared.PropertyKey.{PropertyKey}
use Rattle.value.specs.PropertyKey.{key_of}
use Rattle.value.specs.Value.{to_boolean}
use Rattle.property.specs.declared.DescriptorObject.{DescriptorObject}
use Rattle.text.specs.Strings.{Strings, length_of}
use Rattle.internal_methods.specs.declared.Failure.TheVariants.{Refused, TypeError}
use Rattle.internal_methods.specs.Monad.{Answer, M, pure, fails, ◌>>=◌, ◌>>◌, ask, throw_any}
use Rattle.internal_methods.specs.Monad as answer

-- a value of any kind
unfoldable pub as_value : Answer → M Value
as_value (answer.value v) = pure v
as_value (answer.descriptor d) = fails (Refused 9)
as_value (answer.keys ks) = fails (Refused 9)
as_value (answer.throw v) = fails (Refused 9)

unfoldable pub ask_value : M Value
ask_value = ask >>= as_value

-- ToBoolean(? Call(trap, ..))
unfoldable pub ask_boolean : Strings → M Bool
ask_boolean strings = ask_value >>= λ v. pure (to_boolean (length_of strings) v)

-- 10.5.1 step 8: an object or null
unfoldable pub as_prototype : Value → M Value
as_prototype value.Null = pure value.Null
as_prototype (value.Object o) = pure (value.Object o)
as_prototype (value.Function f) = pure (value.Function f)
as_prototype value.Undefined = fails (TypeError 2)
as_prototype (value.Boolean b) = fails (TypeError 2)
as_prototype (value.Integer32 n) = fails (TypeError 2)
as_prototype (value.Float64 x) = fails (TypeError 2)
as_prototype (value.String s) = fails (TypeError 2)
as_prototype (value.Symbol s) = fails (TypeError 2)

unfoldable pub ask_prototype : M Value
ask_prototype = ask_value >>= as_prototype

-- 10.5.5 step 8: an object, here a descriptor, or undefined
abbrev pub undefined_descriptor : Value → M (Option DescriptorObject)
undefined_descriptor value.Undefined = pure None
undefined_descriptor (value.Object o) = fails (Refused 9)
undefined_descriptor (value.Function f) = fails (Refused 9)
undefined_descriptor value.Null = fails (TypeError 7)
undefined_descriptor (value.Boolean b) = fails (TypeError 7)
undefined_descriptor (value.Integer32 n) = fails (TypeError 7)
undefined_descriptor (value.Float64 x) = fails (TypeError 7)
undefined_descriptor (value.String s) = fails (TypeError 7)
undefined_descriptor (value.Symbol s) = fails (TypeError 7)

unfoldable pub as_descriptor : Answer → M (Option DescriptorObject)
as_descriptor (answer.value v) = undefined_descriptor v
as_descriptor (answer.descriptor d) = pure (Some d)
as_descriptor (answer.keys ks) = fails (Refused 9)
as_descriptor (answer.throw v) = fails (Refused 9)

unfoldable pub ask_descriptor : M (Option DescriptorObject)
ask_descriptor = ask >>= as_descriptor

-- 10.5.11 step 8, CreateListFromArrayLike ( obj, property-key ): the list of keys
abbrev pub cons_key : Option PropertyKey → Option (List PropertyKey) → Option (List PropertyKey)
cons_key None ks = None
cons_key (Some k) None = None
cons_key (Some k) (Some ks) = Some (k ∷ ks)

unfoldable pub keys_of : List Value → Option (List PropertyKey)
keys_of [] = Some []
keys_of (v ∷ vs) = cons_key (key_of v) (keys_of vs)

abbrev pub listed : Option (List PropertyKey) → M (List PropertyKey)
listed None = fails (TypeError 30)
listed (Some ks) = pure ks

abbrev pub unlisted : Value → M (List PropertyKey)
unlisted (value.Object o) = fails (Refused 9)
unlisted (value.Function f) = fails (Refused 9)
unlisted value.Undefined = fails (TypeError 31)
unlisted value.Null = fails (TypeError 31)
unlisted (value.Boolean b) = fails (TypeError 31)
unlisted (value.Integer32 n) = fails (TypeError 31)
unlisted (value.Float64 x) = fails (TypeError 31)
unlisted (value.String s) = fails (TypeError 31)
unlisted (value.Symbol s) = fails (TypeError 31)

unfoldable pub as_keys : Answer → M (List PropertyKey)
as_keys (answer.value v) = unlisted v
as_keys (answer.descriptor d) = fails (Refused 9)
as_keys (answer.keys vs) = listed (keys_of vs)
as_keys (answer.throw v) = fails (Refused 9)

unfoldable pub ask_keys : M (List PropertyKey)
ask_keys = ask >>= as_keys
