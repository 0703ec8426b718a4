-- A value of another kind is no key and no object of the store. Assumes nothing.
use Rattle.std.specs.Prelude.{None}
use mathlib.Core.Path.{◌≡◌, refl}
use mathlib.Core.List.{[], ◌∷◌}
use types.Run.{OneOf, miss}
use denote.Enum.Declared.{tag_of}
use Rattle.value.specs.declared.Value.{Value}
use Rattle.value.specs.contracts.Value.{the_type}
use Rattle.value.specs.declared.Value.TheVariants.{Undefined, Null, Boolean, Integer32, Float64, String, Symbol, Object, Function}
use Rattle.value.specs.Value.{object_of}
use Rattle.value.specs.PropertyKey.{key_of}

pub no_key : (v : Value) → OneOf (0 ∷ 1 ∷ 2 ∷ 3 ∷ 4 ∷ 7 ∷ 8 ∷ []) (tag_of the_type v) → None ≡ key_of v
no_key Undefined h = refl
no_key Null h = refl
no_key (Boolean b) h = refl
no_key (Integer32 n) h = refl
no_key (Float64 x) h = refl
no_key (String s) h = absurd (miss (0 ∷ 1 ∷ 2 ∷ 3 ∷ 4 ∷ 7 ∷ 8 ∷ []) 5 tt h)
no_key (Symbol s) h = absurd (miss (0 ∷ 1 ∷ 2 ∷ 3 ∷ 4 ∷ 7 ∷ 8 ∷ []) 6 tt h)
no_key (Object o) h = refl
no_key (Function f) h = refl

pub no-object : (v : Value) → OneOf (0 ∷ 1 ∷ 2 ∷ 3 ∷ 4 ∷ 5 ∷ 6 ∷ []) (tag_of the_type v) → None ≡ object_of v
no-object Undefined h = refl
no-object Null h = refl
no-object (Boolean b) h = refl
no-object (Integer32 n) h = refl
no-object (Float64 x) h = refl
no-object (String s) h = refl
no-object (Symbol s) h = refl
no-object (Object o) h = absurd (miss (0 ∷ 1 ∷ 2 ∷ 3 ∷ 4 ∷ 5 ∷ 6 ∷ []) 7 tt h)
no-object (Function f) h = absurd (miss (0 ∷ 1 ∷ 2 ∷ 3 ∷ 4 ∷ 5 ∷ 6 ∷ []) 8 tt h)
