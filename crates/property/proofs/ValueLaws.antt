-- What is known of the values of a descriptor and of a property is known of what validation makes of them. Assumes nothing.
use Rattle.std.specs.Prelude.{Option, None, Some}
use mathlib.Core.Path.{◌≡◌, refl, subst}
use mathlib.Core.Bool.{Bool, true, false, cond, false≢true}
use Rattle.value.specs.declared.Value.{Value}
use Rattle.value.specs.declared.Value.TheVariants.{Undefined}
use Rattle.property.specs.declared.PropertyDescriptor.{PropertyDescriptor}
use Rattle.property.specs.declared.Property.{Property}
use Rattle.property.specs.declared.Property.TheVariants.{Data, Accessor}
use Rattle.property.specs.declared.Validation.TheVariants.{Becomes}
use Rattle.property.specs.Fields.{or_else, value_field, get_field, set_field}
use Rattle.property.specs.Descriptor.{is_accessor_descriptor, is_data_descriptor, complete}
use Rattle.property.specs.Validate.{applied, reject_if, validate}
use Rattle.property.proofs.ValidateLaws.{validate-changes}

-- of the value of a field, if it has one
abbrev pub FieldBy : (Value → Type 0) → Option Value → Type 0
FieldBy Val f = (v : Value) → f ≡ Some v → Val v

pub record DescriptorBy (Val : Value → Type 0) (d : PropertyDescriptor) : Type 0 where
  pub value : FieldBy Val (value_field d.kind)
  pub get : FieldBy Val (get_field d.kind)
  pub set : FieldBy Val (set_field d.kind)

abbrev pub PropertyBy : (Value → Type 0) → Property → Type 0
PropertyBy Val (Data v w e c) = Val v
PropertyBy Val (Accessor g s e c) = Val g × Val s

either : {A : Type 0} (P : A → Type 0) (b : Bool) {x y : A} → P x → P y → P (cond b x y)
either P true h k = h
either P false h k = k

module _ {Val : Value → Type 0} where
  or-else : (f : Option Value) (v : Value) → FieldBy Val f → Val v → Val (or_else f v)
  or-else None v h m = m
  or-else (Some u) v h m = h u refl

  -- as it is of undefined, which stands where nothing else does
  module _ (m : Val Undefined) (d : PropertyDescriptor) (h : DescriptorBy Val d) where
    complete-by : PropertyBy Val (complete d)
    unfolding complete
    complete-by = either (PropertyBy Val) (is_accessor_descriptor d) (or-else _ _ h.get m, or-else _ _ h.set m) (or-else _ _ h.value m)

    applied_by : (p : Property) → PropertyBy Val p → PropertyBy Val (applied d p)
    unfolding applied
    applied_by (Data v w e c) n = either (PropertyBy Val) (is_accessor_descriptor d) (or-else _ _ h.get m, or-else _ _ h.set m) (or-else _ _ h.value n)
    applied_by (Accessor g s e c) n = either (PropertyBy Val) (is_data_descriptor d) (or-else _ _ h.value m) (or-else _ _ h.get n.0, or-else _ _ h.set n.1)

    pub validate-by : (x : Bool) (t : Option Property) → ((q : Property) → t ≡ Some q → PropertyBy Val q) → (p : Property) → validate x d t ≡ Becomes p → PropertyBy Val p
    unfolding validate reject_if
    validate-by true None n p e = subst (PropertyBy Val) (let q : complete d ≡ p = cc in q) complete-by
    validate-by false None n p e = absurd (false≢true cc)
    validate-by x (Some t) n p e = subst (PropertyBy Val) (validate-changes x d t p e) (applied_by t (n t refl))
