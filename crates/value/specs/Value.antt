-- ECMA-262 6.1 language values: 7.2.11 SameValue and 7.1.2 ToBoolean. Assumes nothing.
use Rattle.std.specs.Prelude.{ℕ, Bool, true, false, not, ◌&&◌, cond, eqb, ℤ, pos, negsuc, Float, Option, None, Some}
use Rattle.std.specs.Bool.{beq}
use Rattle.std.specs.Float.{nan, inf, fin, binary64}
use Rattle.std.specs.Float.Ieee.{of_int, of_bits}
use Rattle.value.specs.declared.Value.{Value}
use Rattle.value.specs.declared.Value.TheVariants.{Undefined, Null, Boolean, Integer32, Float64, String, Symbol, Object, Function}

abbrev pub same_int : ℤ → ℤ → Bool
same_int (pos a) (pos b) = eqb a b
same_int (pos a) (negsuc b) = false
same_int (negsuc a) (pos b) = false
same_int (negsuc a) (negsuc b) = eqb a b

-- 6.1.6.1.14 Number::sameValue: there is one NaN, and +0 differs from -0
unfoldable pub same_number : Float → Float → Bool
same_number nan nan = true
same_number nan (inf t) = false
same_number nan (fin t n d) = false
same_number (inf s) nan = false
same_number (inf s) (inf t) = beq s t
same_number (inf s) (fin t n d) = false
same_number (fin s m e) nan = false
same_number (fin s m e) (inf t) = false
same_number (fin s m e) (fin t n d) = beq s t && (eqb m n && same_int e d)

-- 6.1: which language type a value has; Integer32 and Float64 are both Numbers, and functions are told from other objects
abbrev pub type_of : Value → ℕ
type_of Undefined = 0
type_of Null = 1
type_of (Boolean b) = 2
type_of (Integer32 n) = 3
type_of (Float64 x) = 3
type_of (String s) = 4
type_of (Symbol s) = 5
type_of (Object o) = 6
type_of (Function f) = 7

-- the Number that a value is, and +0 where it is none
abbrev pub number_of : Value → Float
number_of Undefined = of_bits binary64 0
number_of Null = of_bits binary64 0
number_of (Boolean b) = of_bits binary64 0
number_of (Integer32 n) = of_int binary64 n
number_of (Float64 x) = x
number_of (String s) = of_bits binary64 0
number_of (Symbol s) = of_bits binary64 0
number_of (Object o) = of_bits binary64 0
number_of (Function f) = of_bits binary64 0

-- what tells two values of one type other than Number apart
abbrev pub id_of : Value → ℕ
id_of Undefined = 0
id_of Null = 0
id_of (Boolean b) = cond b 1 0
id_of (Integer32 n) = 0
id_of (Float64 x) = 0
id_of (String s) = s
id_of (Symbol s) = s
id_of (Object o) = o
id_of (Function f) = f

-- 7.2.11 SameValue ( x, y )
unfoldable pub same_value : Value → Value → Bool
same_value a b =
    cond (eqb (type_of a) (type_of b))  -- 1
    (cond (eqb (type_of a) 3) (same_number (number_of a) (number_of b))  -- 2
    (eqb (id_of a) (id_of b)))  -- 3
    false

abbrev pub is_zero : Float → Bool
is_zero nan = false
is_zero (inf s) = false
is_zero (fin s m e) = eqb m 0

abbrev pub is_not_a_number : Float → Bool
is_not_a_number nan = true
is_not_a_number (inf s) = false
is_not_a_number (fin s m e) = false

-- 7.1.2 ToBoolean ( argument ), where `length_of` gives a string's length
unfoldable pub to_boolean : (ℕ → ℕ) → Value → Bool
to_boolean length_of Undefined = false
to_boolean length_of Null = false
to_boolean length_of (Boolean b) = b
to_boolean length_of (Integer32 n) = not (is_zero (of_int binary64 n))
to_boolean length_of (Float64 x) = not (is_zero x) && not (is_not_a_number x)
to_boolean length_of (String s) = not (eqb (length_of s) 0)
to_boolean length_of (Symbol s) = true
to_boolean length_of (Object o) = true
to_boolean length_of (Function f) = true

abbrev pub is_undefined : Value → Bool
is_undefined v = eqb (type_of v) 0

-- 7.2.3 IsCallable ( argument )
abbrev pub is_callable : Value → Bool
is_callable v = eqb (type_of v) 7

-- the object of the store that a value names, as 6.1.7 counts functions among the objects
abbrev pub object_of : Value → Option ℕ
object_of Undefined = None
object_of Null = None
object_of (Boolean b) = None
object_of (Integer32 n) = None
object_of (Float64 x) = None
object_of (String s) = None
object_of (Symbol s) = None
object_of (Object o) = Some o
object_of (Function f) = Some f
