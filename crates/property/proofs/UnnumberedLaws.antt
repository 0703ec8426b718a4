-- Without its number, validation is as it is stated without numbers: every yes, no and stored property. Assumes nothing.
use Rattle.std.specs.Prelude.{Option, None, Some}
use mathlib.Core.Path.{◌≡◌, refl, ap, ◌∙◌}
use mathlib.Core.Bool.{Bool, true, false, not, cond}
use Rattle.value.specs.declared.Value.{Value}
use Rattle.value.specs.Value.{same_value}
use Rattle.property.specs.declared.PropertyDescriptor.{PropertyDescriptor}
use Rattle.property.specs.declared.Property.{Property}
use Rattle.property.specs.declared.Property.TheVariants.{Data, Accessor}
use Rattle.property.specs.declared.ValidationTest.{ValidationTest}
use Rattle.property.specs.declared.Validation.{Validation}
use Rattle.property.specs.declared.Validation.TheVariants.{Rejected, Unchanged, Becomes}
use Rattle.property.specs.Fields.{has, is_true, unlike, unlike_flag, value_field, writable_field, get_field, set_field, enumerable, configurable}
use Rattle.property.specs.Validate.{has_no_fields, is_other_kind, applied, reject_if, validate_kind, validate_fixed, validate, is_accepted, settled}
use Rattle.property.specs.Unnumbered.{Answer, answer, answer_kind, answer_fixed, unnumbered, is_yes, stored}

-- a test that fails, and one that does not
answer-test : (t : ValidationTest) (b : Bool) (next : Validation) (z : Answer) → answer next ≡ z → answer (reject_if t b next) ≡ cond b Answer.Rejected z
unfolding reject_if
answer-test t true next z e = refl
answer-test t false next z e = e

answer-value : (t : ValidationTest) (f : Option Value) (v : Value) (next : Validation)
    → answer (reject_if t (unlike f v) (cond (has f) Unchanged next)) ≡ cond (has f) (cond (unlike f v) Answer.Rejected Answer.Unchanged) (answer next)
unfolding reject_if
answer-value t None v next = refl
answer-value t (Some u) v next = answer-test t (not (same_value u v)) Unchanged Answer.Unchanged refl

answer-kind : (d : PropertyDescriptor) (p : Property) (next : Validation) → answer (validate_kind d p next) ≡ answer_kind d p (answer next)
answer-kind d (Accessor g s e c) next =
    answer-test _ (unlike (get_field d.kind) g) _ _ (answer-test _ (unlike (set_field d.kind) s) next _ refl)
answer-kind d (Data v true e c) next = refl
answer-kind d (Data v false e c) next = answer-test _ (is_true (writable_field d.kind)) _ _ (answer-value _ (value_field d.kind) v next)

answer-fixed : (d : PropertyDescriptor) (p : Property) (next : Validation) → answer (validate_fixed d p next) ≡ answer_fixed d p (answer next)
answer-fixed d p next =
    answer-test _ (is_true d.configurable) _ _
    (answer-test _ (unlike_flag d.enumerable (enumerable p)) _ _
    (answer-test _ (is_other_kind d p) _ _
    (answer-kind d p next)))

pub answer-validate : (x : Bool) (d : PropertyDescriptor) (t : Option Property) → answer (validate x d t) ≡ unnumbered x d t
unfolding validate reject_if unnumbered
answer-validate true d None = refl
answer-validate false d None = refl
answer-validate x d (Some p) = go (has_no_fields d) (configurable p)
  where
    go : (a b : Bool) → answer (cond a Unchanged (cond b (Becomes (applied d p)) (validate_fixed d p (Becomes (applied d p)))))
        ≡ cond a Answer.Unchanged (cond b (Answer.Becomes (applied d p)) (answer_fixed d p (Answer.Becomes (applied d p))))
    go true b = refl
    go false true = refl
    go false false = answer-fixed d p (Becomes (applied d p))

yes : (v : Validation) → is_accepted v ≡ is_yes (answer v)
yes (Rejected t) = refl
yes Unchanged = refl
yes (Becomes p) = refl

pub validate-yes : (x : Bool) (d : PropertyDescriptor) (t : Option Property) → is_accepted (validate x d t) ≡ is_yes (unnumbered x d t)
validate-yes x d t = yes (validate x d t) ∙ ap is_yes (answer-validate x d t)

stores : (t : Option Property) (v : Validation) → settled t v ≡ stored t (answer v)
stores t (Rejected n) = refl
stores t Unchanged = refl
stores t (Becomes p) = refl

pub validate-stores : (x : Bool) (d : PropertyDescriptor) (t : Option Property) → settled t (validate x d t) ≡ stored t (unnumbered x d t)
validate-stores x d t = stores t (validate x d t) ∙ ap (stored t) (answer-validate x d t)
