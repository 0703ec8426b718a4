-- 10.1.6.3 without numbers: yes or no, and what becomes of the property. Assumes nothing.
use Rattle.std.specs.Prelude.{Bool, true, false, not, ◌&&◌, cond, Option, None, Some}
use Rattle.std.specs.Bool.{beq}
use Rattle.property.specs.declared.PropertyDescriptor.{PropertyDescriptor}
use Rattle.property.specs.declared.Property.{Property}
use Rattle.property.specs.declared.Property.TheVariants.{Data, Accessor}
use Rattle.property.specs.declared.Validation.{Validation}
use Rattle.property.specs.declared.Validation.TheVariants as validation
use Rattle.property.specs.Fields.{has, is_true, unlike, unlike_flag, value_field, writable_field, get_field, set_field, enumerable, configurable, is_accessor}
use Rattle.property.specs.Descriptor.{is_accessor_descriptor, is_generic_descriptor, complete}
use Rattle.property.specs.Validate.{has_no_fields, applied}

pub data Answer : Type 0 where
  Rejected : Answer
  Unchanged : Answer
  Becomes : Property → Answer

abbrev pub answer : Validation → Answer
answer (validation.Rejected t) = Answer.Rejected
answer validation.Unchanged = Answer.Unchanged
answer (validation.Becomes p) = Answer.Becomes p

-- steps 5.d and 5.e, where `next` is what step 6 makes of the property
abbrev pub answer_kind : PropertyDescriptor → Property → Answer → Answer
answer_kind d (Accessor g s e c) next =
    cond (unlike (get_field d.kind) g) Answer.Rejected  -- 5.d.i
    (cond (unlike (set_field d.kind) s) Answer.Rejected  -- 5.d.ii
    next)
answer_kind d (Data v true e c) next = next  -- 5.e
answer_kind d (Data v false e c) next =
    cond (is_true (writable_field d.kind)) Answer.Rejected  -- 5.e.i
    (cond (has (value_field d.kind))
    (cond (unlike (value_field d.kind) v) Answer.Rejected Answer.Unchanged)  -- 5.e.iii
    next)

-- step 5
abbrev pub answer_fixed : PropertyDescriptor → Property → Answer → Answer
answer_fixed d current next =
    cond (is_true d.configurable) Answer.Rejected  -- 5.a
    (cond (unlike_flag d.enumerable (enumerable current)) Answer.Rejected  -- 5.b
    (cond (not (is_generic_descriptor d) && not (beq (is_accessor_descriptor d) (is_accessor current))) Answer.Rejected  -- 5.c
    (answer_kind d current next)))  -- 5.d, 5.e

unfoldable pub unnumbered : Bool → PropertyDescriptor → Option Property → Answer
unnumbered extensible d None =
    cond extensible
    (Answer.Becomes (complete d))  -- 2.c, 2.d, 2.e
    Answer.Rejected  -- 2.a
unnumbered extensible d (Some current) =
    cond (has_no_fields d) Answer.Unchanged  -- 4
    (cond (configurable current) (Answer.Becomes (applied d current))  -- 6, 7
    (answer_fixed d current (Answer.Becomes (applied d current))))  -- 5

abbrev pub is_yes : Answer → Bool
is_yes Answer.Rejected = false
is_yes Answer.Unchanged = true
is_yes (Answer.Becomes p) = true

-- the property after it
abbrev pub stored : Option Property → Answer → Option Property
stored current Answer.Rejected = current
stored current Answer.Unchanged = current
stored current (Answer.Becomes p) = Some p
