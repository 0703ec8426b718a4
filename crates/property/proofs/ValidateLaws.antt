-- What ValidateAndApplyPropertyDescriptor keeps, adds and gives. Assumes nothing.
use Rattle.std.specs.Prelude.{Option, None, Some}
use mathlib.Core.Path.{◌≡◌, refl, ap, ◌∙◌, subst}
use mathlib.Core.Bool.{Bool, true, false, not, ◌&&◌, ◌||◌, beq, cond, false≢true, true≢false}
use borrow.Author.Tests.{not-false}
use Rattle.value.specs.declared.Value.{Value}
use Rattle.value.specs.Value.{same_value}
use Rattle.value.proofs.SameValue.{same-like, same_refl, same-sym}
use Rattle.property.specs.declared.DescriptorKind.{DescriptorKind}
use Rattle.property.specs.declared.DescriptorKind.TheVariants as kind
use Rattle.property.specs.declared.PropertyDescriptor.{PropertyDescriptor}
use Rattle.property.specs.declared.Property.{Property}
use Rattle.property.specs.declared.Property.TheVariants.{Data, Accessor}
use Rattle.property.specs.declared.ValidationTest.{ValidationTest}
use Rattle.property.specs.declared.ValidationTest.TheVariants as test
use Rattle.property.specs.declared.Validation.{Validation}
use Rattle.property.specs.declared.Validation.TheVariants.{Unchanged, Becomes}
use Rattle.property.specs.Fields.{has, is_true, is_false, unlike, unlike_flag, or_else, value_field, writable_field, get_field, set_field, enumerable, configurable}
use Rattle.property.specs.Descriptor.{is_accessor_descriptor, is_data_descriptor, is_generic_descriptor, complete}
use Rattle.property.specs.Validate.{has_no_fields, is_other_kind, applied, reject_if, validate_kind, validate_fixed, validate, is_accepted, is_compatible}

-- a data property that is neither writable nor configurable, with this value
abbrev pub frozen_as : Value → Option Property → Bool
frozen_as v None = false
frozen_as v (Some (Data w wr e c)) = not wr && (not c && same_value w v)
frozen_as v (Some (Accessor g s e c)) = false

abbrev pub is_absent : Option Property → Bool
is_absent None = true
is_absent (Some p) = false

pub configurable-not-frozen : (p : Property) (v : Value) → configurable p ≡ true → frozen_as v (Some p) ≡ false
configurable-not-frozen (Data w true e c) v h = refl
configurable-not-frozen (Data w false e true) v h = refl
configurable-not-frozen (Data w false e false) v h = absurd (false≢true h)
configurable-not-frozen (Accessor g s e c) v h = refl

-- the descriptor asks for a frozen property with this value
pub record AsksFrozen (d : PropertyDescriptor) (w : Value) : Type 0 where
  pub valued-w : value_field d.kind ≡ Some w
  pub fixed : is_false (writable_field d.kind) ≡ true
  pub lasting : is_false d.configurable ≡ true

is_false_lem : (f : Option Bool) → is_false f ≡ true → f ≡ Some false
is_false_lem None h = absurd (false≢true h)
is_false_lem (Some true) h = absurd (false≢true h)
is_false_lem (Some false) h = refl

no-accessor : (d : PropertyDescriptor) (w : Value) → AsksFrozen d w → is_accessor_descriptor d ≡ false
unfolding is_accessor_descriptor
no-accessor d w a = go d.kind a.valued-w
  where
    go : (k : DescriptorKind) → value_field k ≡ Some w → (has (get_field k) || has (set_field k)) ≡ false
    go (kind.Data v f) h = refl
    go (kind.Accessor g s) h = absurd (false≢true cc)
    go kind.Generic h = absurd (false≢true cc)

is-data : (d : PropertyDescriptor) (w : Value) → AsksFrozen d w → is_data_descriptor d ≡ true
unfolding is_data_descriptor
is-data d w a = rw a.valued-w

some-fields : (d : PropertyDescriptor) (w : Value) → AsksFrozen d w → has_no_fields d ≡ false
unfolding is_generic_descriptor
some-fields d w a = rw (no-accessor d w a, is-data d w a)

-- step 5 was passed with the answer r
record Passed (d : PropertyDescriptor) (current : Property) (next r : Validation) : Type 0 where
  five-a : is_true d.configurable ≡ false
  five-c : is_other_kind d current ≡ false
  five-de : validate_kind d current next ≡ r

-- an answer other than false comes from where the test fails
past : (t : ValidationTest) (b : Bool) (z r : Validation) → is_accepted r ≡ true → reject_if t b z ≡ r → (b ≡ false) × (z ≡ r)
unfolding reject_if
past t true z r a h = absurd (false≢true (ap is_accepted h ∙ a))
past t false z r a h = (refl, h)

otherwise : (b : Bool) (y z r : Validation) → b ≡ false → cond b y z ≡ r → z ≡ r
otherwise true y z r a h = absurd (true≢false a)
otherwise false y z r a h = h

passed : (d : PropertyDescriptor) (current : Property) (next r : Validation) → is_accepted r ≡ true → validate_fixed d current next ≡ r → Passed d current next r
passed d current next r a h =
    let (p, h1) = past test.Configurable (is_true d.configurable) _ r a h in
    let (q, h2) = past test.Enumerable (unlike_flag d.enumerable (enumerable current)) _ r a h1 in
    let (s, h3) = past test.Kind (is_other_kind d current) _ r a h2 in
    record { five-a = p; five-c = s; five-de = h3 }

one-kind : (a b : Bool) → (not (not a && not b) && not (beq a false)) ≡ false → a ≡ false
one-kind true b h = absurd (true≢false h)
one-kind false b h = refl

two-kinds : (a b : Bool) → a ≡ false → b ≡ true → (not (not a && not b) && not (beq a true)) ≡ false → ⊥
two-kinds true b ha hb h = true≢false ha
two-kinds false true ha hb h = true≢false h
two-kinds false false ha hb h = false≢true hb

-- steps 5.e.i and 5.e.iii, with an answer other than false
record Fixed (d : PropertyDescriptor) (v : Value) : Type 0 where
  not-writable : is_true (writable_field d.kind) ≡ false
  alike : unlike (value_field d.kind) v ≡ false

fixed-kind : (d : PropertyDescriptor) (v : Value) (e c : Bool) (next r : Validation) → is_accepted r ≡ true → validate_kind d (Data v false e c) next ≡ r → Fixed d v
fixed-kind d v e c next r a h =
    let (p, h1) = past test.Writable (is_true (writable_field d.kind)) _ r a h in
    record { not-writable = p; alike = (past test.Value (unlike (value_field d.kind) v) _ r a h1).0 }

-- Of a frozen property nothing changes

or-else-false : (f : Option Bool) → is_true f ≡ false → or_else f false ≡ false
or-else-false None h = refl
or-else-false (Some b) h = h

or-else-same : (f : Option Value) (w v : Value) → unlike f w ≡ false → same_value w v ≡ true → same_value (or_else f w) v ≡ true
or-else-same None w v h e = e
or-else-same (Some u) w v h e = same-like u w v (not-false _ h) ∙ e

became : (b : Bool) (z : Validation) (p : Property) → cond b Unchanged z ≡ Becomes p → z ≡ Becomes p
became true z p h = absurd (false≢true cc)
became false z p h = h

applied-frozen : (d : PropertyDescriptor) (w v : Value) (e : Bool) (next r : Validation) → is_accepted r ≡ true → Passed d (Data w false e false) next r
    → same_value w v ≡ true → frozen_as v (Some (applied d (Data w false e false))) ≡ true
unfolding applied is_generic_descriptor
applied-frozen d w v e next r ok a h =
    let f = fixed-kind d w e false next r ok a.five-de in
    rw (one-kind (is_accessor_descriptor d) (is_data_descriptor d) a.five-c)
    (rw (or-else-false (writable_field d.kind) f.not-writable, or-else-false d.configurable a.five-a)
    (or-else-same (value_field d.kind) w v f.alike h))

-- where step 5 ends in a change, it is that of step 6
made : (d : PropertyDescriptor) (t : Property) (q p : Property) → validate_kind d t (Becomes q) ≡ Becomes p → q ≡ p
made d (Accessor g s e c) q p h =
    let h1 = (past test.Get (unlike (get_field d.kind) g) _ (Becomes p) refl h).1 in
    let h2 = (past test.Set (unlike (set_field d.kind) s) _ (Becomes p) refl h1).1 in
    cc
made d (Data w true e c) q p h = cc
made d (Data w false e c) q p h =
    let h1 = (past test.Writable (is_true (writable_field d.kind)) _ (Becomes p) refl h).1 in
    let h2 = (past test.Value (unlike (value_field d.kind) w) _ (Becomes p) refl h1).1 in
    let h3 = became (has (value_field d.kind)) (Becomes q) p h2 in
    cc

pub validate-keeps : (x : Bool) (d : PropertyDescriptor) (t : Option Property) (p : Property) → validate x d t ≡ Becomes p
    → (v : Value) → frozen_as v t ≡ true → frozen_as v (Some p) ≡ true
unfolding validate
validate-keeps x d None p h v f = absurd (false≢true f)
validate-keeps x d (Some (Accessor g s e c)) p h v f = absurd (false≢true f)
validate-keeps x d (Some (Data w true e c)) p h v f = absurd (false≢true f)
validate-keeps x d (Some (Data w false e true)) p h v f = absurd (false≢true f)
validate-keeps x d (Some (Data w false e false)) p h v f =
    let a = passed d (Data w false e false) (Becomes (applied d (Data w false e false))) (Becomes p) refl (became (has_no_fields d) _ p h) in
    let q = made d (Data w false e false) (applied d (Data w false e false)) p a.five-de in
    subst (λ (z : Property). frozen_as v (Some z) ≡ true) q (applied-frozen d w v e _ _ refl a f)

-- Nothing is added to what is not extensible

pub validate-adds : (x : Bool) (d : PropertyDescriptor) (t : Option Property) (p : Property) → validate x d t ≡ Becomes p → x ≡ false → is_absent t ≡ true → ⊥
unfolding validate reject_if
validate-adds true d None p h e a = true≢false e
validate-adds false d None p h e a = false≢true cc
validate-adds x d (Some q) p h e a = false≢true a

pub validate-refuses : (x : Bool) (d : PropertyDescriptor) (t : Option Property) → is_compatible x d t ≡ true → x ≡ false → is_absent t ≡ true → ⊥
unfolding is_compatible validate reject_if
validate-refuses true d None h e a = true≢false e
validate-refuses false d None h e a = false≢true h
validate-refuses x d (Some q) h e a = false≢true a

-- What is asked is given

complete-frozen : (d : PropertyDescriptor) (w : Value) → AsksFrozen d w → frozen_as w (Some (complete d)) ≡ true
unfolding complete
complete-frozen d w a = rw (no-accessor d w a)
    (rw (a.valued-w, is_false_lem (writable_field d.kind) a.fixed, is_false_lem d.configurable a.lasting) (same_refl w))

applied-asked : (d : PropertyDescriptor) (w : Value) (t : Property) → AsksFrozen d w → frozen_as w (Some (applied d t)) ≡ true
unfolding applied
applied-asked d w (Data v wr e c) a = rw (no-accessor d w a)
    (rw (a.valued-w, is_false_lem (writable_field d.kind) a.fixed, is_false_lem d.configurable a.lasting) (same_refl w))
applied-asked d w (Accessor g s e c) a = rw (is-data d w a)
    (rw (a.valued-w, is_false_lem (writable_field d.kind) a.fixed, is_false_lem d.configurable a.lasting) (same_refl w))

gives : (d : PropertyDescriptor) (t : Property) (p : Property) (c : Bool) → cond c (Becomes (applied d t)) (validate_fixed d t (Becomes (applied d t))) ≡ Becomes p → applied d t ≡ p
gives d t p true h = cc
gives d t p false h = made d t (applied d t) p (passed d t (Becomes (applied d t)) (Becomes p) refl h).five-de

-- a property that is there changes as step 6 says
pub validate-changes : (x : Bool) (d : PropertyDescriptor) (t p : Property) → validate x d (Some t) ≡ Becomes p → applied d t ≡ p
unfolding validate
validate-changes x d t p h = gives d t p (configurable t) (became (has_no_fields d) _ p h)

pub validate-gives : (x : Bool) (d : PropertyDescriptor) (t : Option Property) (p : Property) (w : Value) → validate x d t ≡ Becomes p → AsksFrozen d w → frozen_as w (Some p) ≡ true
unfolding validate reject_if
validate-gives false d None p w h a = absurd (false≢true cc)
validate-gives true d None p w h a = let q : complete d ≡ p = cc in subst (λ (z : Property). frozen_as w (Some z) ≡ true) q (complete-frozen d w a)
validate-gives x d (Some t) p w h a = subst (λ (z : Property). frozen_as w (Some z) ≡ true) (validate-changes x d t p h) (applied-asked d w t a)

-- A property that is not configurable, and a descriptor that asks for a frozen one: 5.c and 5.e

asked-accessor : (d : PropertyDescriptor) (g s : Value) (e : Bool) (next r : Validation) (w : Value) → AsksFrozen d w → Passed d (Accessor g s e false) next r → ⊥
unfolding is_generic_descriptor
asked-accessor d g s e next r w a f = two-kinds (is_accessor_descriptor d) (is_data_descriptor d) (no-accessor d w a) (is-data d w a) f.five-c

asked-fixed : (d : PropertyDescriptor) (v : Value) (e : Bool) (next r : Validation) (w : Value) → is_accepted r ≡ true → AsksFrozen d w → Passed d (Data v false e false) next r
    → same_value v w ≡ true
asked-fixed d v e next r w ok a f =
    let like : unlike (value_field d.kind) v ≡ false = (fixed-kind d v e false next r ok f.five-de).alike in
    same-sym v w ∙ not-false (same_value w v) (subst (λ (z : Option Value). unlike z v ≡ false) a.valued-w like)

-- where nothing changes, it was as asked
unchanged : (d : PropertyDescriptor) (t : Property) (w : Value) → AsksFrozen d w
    → cond (configurable t) (Becomes (applied d t)) (validate_fixed d t (Becomes (applied d t))) ≡ Unchanged → frozen_as w (Some t) ≡ true
unchanged d (Data v wr e true) w a h = absurd (false≢true cc)
unchanged d (Accessor g s e true) w a h = absurd (false≢true cc)
unchanged d (Accessor g s e false) w a h = absurd (asked-accessor d g s e _ Unchanged w a (passed d (Accessor g s e false) _ Unchanged refl h))
unchanged d (Data v true e false) w a h =
    let u : Becomes (applied d (Data v true e false)) ≡ Unchanged = (passed d (Data v true e false) _ Unchanged refl h).five-de in
    absurd (false≢true cc)
unchanged d (Data v false e false) w a h = asked-fixed d v e _ Unchanged w refl a (passed d (Data v false e false) _ Unchanged refl h)

pub validate-unchanged : (x : Bool) (d : PropertyDescriptor) (t : Option Property) (w : Value) → validate x d t ≡ Unchanged → AsksFrozen d w → frozen_as w t ≡ true
unfolding validate reject_if
validate-unchanged false d None w h a = absurd (false≢true cc)
validate-unchanged true d None w h a = absurd (false≢true cc)
validate-unchanged x d (Some t) w h a = unchanged d t w a (otherwise (has_no_fields d) Unchanged _ Unchanged (some-fields d w a) h)

-- IsCompatiblePropertyDescriptor on a property that is not configurable

passed-compatible : (x : Bool) (d : PropertyDescriptor) (t : Property) → has_no_fields d ≡ false → configurable t ≡ false → is_compatible x d (Some t) ≡ true
    → Passed d t (Becomes (applied d t)) (validate x d (Some t))
unfolding is_compatible validate
passed-compatible x d t n c h =
    let v = validate x d (Some t) in
    passed d t (Becomes (applied d t)) v h (otherwise (configurable t) _ _ v c (otherwise (has_no_fields d) Unchanged _ v n refl))

pub compatible-accessor : (x : Bool) (d : PropertyDescriptor) (g s : Value) (e : Bool) (w : Value) → AsksFrozen d w → is_compatible x d (Some (Accessor g s e false)) ≡ true → ⊥
compatible-accessor x d g s e w a h = asked-accessor d g s e _ _ w a (passed-compatible x d (Accessor g s e false) (some-fields d w a) refl h)

pub compatible-fixed : (x : Bool) (d : PropertyDescriptor) (v : Value) (e : Bool) (w : Value) → AsksFrozen d w → is_compatible x d (Some (Data v false e false)) ≡ true
    → same_value v w ≡ true
unfolding is_compatible
compatible-fixed x d v e w a h = asked-fixed d v e _ _ w h a (passed-compatible x d (Data v false e false) (some-fields d w a) refl h)

-- what a descriptor that is compatible with a frozen property makes of it
pub compatible-keeps : (x : Bool) (d : PropertyDescriptor) (w v : Value) (e : Bool) → has_no_fields d ≡ false → is_compatible x d (Some (Data w false e false)) ≡ true
    → same_value w v ≡ true → frozen_as v (Some (applied d (Data w false e false))) ≡ true
unfolding is_compatible
compatible-keeps x d w v e n h f = applied-frozen d w v e _ _ h (passed-compatible x d (Data w false e false) n refl h) f
