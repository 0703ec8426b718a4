-- What a step asks for, by its code. Assumes nothing.
use Rattle.std.specs.Prelude.{ℕ, Bool, true, false, List, eqb, ℤ, pos, negsuc, Option, None, Some}
use Rattle.value.specs.declared.Value.{Value}
use Rattle.value.specs.declared.Value.TheVariants as value
use Rattle.value.specs.declared.PropertyKey.{PropertyKey}
use Rattle.value.specs.declared.PropertyKey.TheVariants.{String}
use Rattle.value.specs.PropertyKey.{key_of}
use Rattle.value.specs.Words.{pick}
use Rattle.property.specs.declared.PropertyDescriptor.{PropertyDescriptor}
use Rattle.property.specs.Descriptor.{to_property_descriptor}
use Rattle.record.specs.declared.Step.{Step}
use Rattle.record.specs.Step.{step_of}

-- 7.3.15 and 7.3.16: sealed or frozen
pub data Level : Type 0 where
  sealed : Level
  frozen : Level

-- the object comes first, and the receiver last
pub data Operation : Type 0 where
  make_object : Value → Operation
  make_proxy : ℕ → ℕ → Operation
  revoke : ℕ → Operation
  get_prototype_of : ℕ → Operation
  set_prototype_of : ℕ → Value → Operation
  is_extensible : ℕ → Operation
  prevent_extensions : ℕ → Operation
  get_own_property : ℕ → PropertyKey → Operation
  define_own_property : ℕ → PropertyKey → PropertyDescriptor → Operation
  has_property : ℕ → PropertyKey → Operation
  get : ℕ → PropertyKey → Value → Operation
  set : ℕ → PropertyKey → Value → Value → Operation
  delete : ℕ → PropertyKey → Operation
  own_property_keys : ℕ → Operation
  make_function : Value → Operation
  release : ℕ → Operation
  set_integrity_level : ℕ → Level → Operation
  test_integrity_level : ℕ → Level → Operation

-- codes 1, 2 and 16
abbrev pub makes_object : Operation → Bool
makes_object (make_object v) = true
makes_object (make_proxy o traps) = true
makes_object (revoke o) = false
makes_object (get_prototype_of o) = false
makes_object (set_prototype_of o v) = false
makes_object (is_extensible o) = false
makes_object (prevent_extensions o) = false
makes_object (get_own_property o k) = false
makes_object (define_own_property o k d) = false
makes_object (has_property o k) = false
makes_object (get o k receiver) = false
makes_object (set o k v receiver) = false
makes_object (delete o k) = false
makes_object (own_property_keys o) = false
makes_object (make_function v) = true
makes_object (release o) = false
makes_object (set_integrity_level o level) = false
makes_object (test_integrity_level o level) = false

-- code 18, whose writes are made one after another
abbrev pub writes_in_turn : Operation → Bool
writes_in_turn (make_object v) = false
writes_in_turn (make_proxy o traps) = false
writes_in_turn (revoke o) = false
writes_in_turn (get_prototype_of o) = false
writes_in_turn (set_prototype_of o v) = false
writes_in_turn (is_extensible o) = false
writes_in_turn (prevent_extensions o) = false
writes_in_turn (get_own_property o k) = false
writes_in_turn (define_own_property o k d) = false
writes_in_turn (has_property o k) = false
writes_in_turn (get o k receiver) = false
writes_in_turn (set o k v receiver) = false
writes_in_turn (delete o k) = false
writes_in_turn (own_property_keys o) = false
writes_in_turn (make_function v) = false
writes_in_turn (release o) = false
writes_in_turn (set_integrity_level o level) = true
writes_in_turn (test_integrity_level o level) = false

-- the key that a value is; one that is none is refused before it is asked for
abbrev pub key_or_first : Option PropertyKey → PropertyKey
key_or_first None = String 0
key_or_first (Some k) = k

-- the natural number that a value is; one that is none is refused before it is asked for
abbrev pub natural_number : ℤ → ℕ
natural_number (pos n) = n
natural_number (negsuc n) = 0

abbrev pub natural_of : Value → ℕ
natural_of value.Undefined = 0
natural_of value.Null = 0
natural_of (value.Boolean b) = 0
natural_of (value.Integer32 n) = natural_number n
natural_of (value.Float64 x) = 0
natural_of (value.String s) = 0
natural_of (value.Symbol s) = 0
natural_of (value.Object o) = 0
natural_of (value.Function f) = 0

-- 0 is sealed, and 1 frozen
abbrev pub level_of : Value → Level
level_of v = pick (eqb (natural_of v) 1) frozen sealed

abbrev pub by_code : ℕ → ℕ → PropertyKey → Value → Value → PropertyDescriptor → Operation
by_code code o k v receiver d =
    pick (eqb code 1) (make_object v)
    (pick (eqb code 2) (make_proxy o (natural_of v))
    (pick (eqb code 3) (revoke o)
    (pick (eqb code 4) (get_prototype_of o)
    (pick (eqb code 5) (set_prototype_of o v)
    (pick (eqb code 6) (is_extensible o)
    (pick (eqb code 7) (prevent_extensions o)
    (pick (eqb code 8) (get_own_property o k)
    (pick (eqb code 9) (define_own_property o k d)
    (pick (eqb code 10) (has_property o k)
    (pick (eqb code 11) (get o k receiver)
    (pick (eqb code 12) (set o k v receiver)
    (pick (eqb code 13) (delete o k)
    (pick (eqb code 14) (own_property_keys o)
    (pick (eqb code 16) (make_function v)
    (pick (eqb code 17) (release o)
    (pick (eqb code 18) (set_integrity_level o (level_of v))
    (test_integrity_level o (level_of v))))))))))))))))))

unfoldable pub operation_of : Step → Operation
operation_of s = by_code s.code s.object (key_or_first (key_of s.key)) s.value s.receiver (to_property_descriptor s.descriptor)

-- what the bytes of a step ask for
unfoldable pub asked : List ℕ → Operation
asked bytes = operation_of (step_of bytes)
