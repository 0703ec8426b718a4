-- A step whose records passed their tests names only objects that are live, and releases none that is named. Assumes nothing.
use Rattle.std.specs.Prelude.{Option, None, Some}
use Prim.Native.Nat.{ℕ}
use mathlib.Core.Path.{◌≡◌, refl, sym, ap, ◌∙◌, subst}
use mathlib.Core.Bool.{Bool, true, false, not, ◌||◌, cond, false≢true}
use mathlib.Core.List.{List, [], ◌∷◌}
use lib.Dec.{eqb}
use lib.ListN.{length}
use borrow.Author.Tests.{eqb-true, not-true}
use Rattle.value.specs.declared.Value.{Value}
use Rattle.value.specs.declared.Value.TheVariants as value
use Rattle.value.specs.PropertyKey.{key_of}
use Rattle.value.specs.Words.{pick}
use Rattle.value.specs.Bits.{bit}
use Rattle.value.proofs.Bools.{and-true}
use Rattle.property.specs.declared.DescriptorObject.{DescriptorObject}
use Rattle.property.specs.declared.DescriptorKind.TheVariants as kind
use Rattle.property.specs.Fields.{has}
use Rattle.property.specs.Descriptor.{to_property_descriptor}
use Rattle.property.proofs.ValueLaws.{FieldBy}
use Rattle.store.specs.declared.Object.{Object}
use Rattle.store.specs.Store.{Store, World, lookup, is_live}
use Rattle.store.specs.Release.{is_named}
use Rattle.store.proofs.StoreLaws.{live-mark}
use Rattle.internal_methods.specs.Monad.{Answer}
use Rattle.internal_methods.proofs.StoreClosed.{Made, MadeValue, MadeDescriptor, value-kept}
use Rattle.internal_methods.proofs.Budget.{MadeAnswer, MadeAnswers, nil, cons}
use Rattle.record.specs.declared.Step.{Step}
use Rattle.record.specs.Bytes.{byte_at}
use Rattle.record.specs.Tests.{is_made, field_passes, descriptor_passes, failing, first_failing}
use Rattle.record.specs.Step.{step_of, makes_ordinary, releases, uses_object, step_passes, are_objects_made, is_releasable, unless}
use Rattle.record.specs.Sheet.{sheet_of, answer_passes, sheet_passes}
use Rattle.record.proofs.SheetLength.{sheet-length}
use Rattle.steps.specs.Operation.{Operation, make_object, make_proxy, revoke, get_prototype_of, set_prototype_of, is_extensible, prevent_extensions, get_own_property, define_own_property, has_property, get, set, delete, own_property_keys, make_function, release, set_integrity_level, test_integrity_level, key_or_first, by_code, operation_of, asked}
use Rattle.steps.specs.Step.{counts_of, record_tests}

-- the objects that an operation names are live
abbrev pub MadeOperation : Store → Operation → Type 0
MadeOperation σ (make_object v) = MadeValue σ v
MadeOperation σ (make_proxy o traps) = Made σ o
MadeOperation σ (revoke o) = Made σ o
MadeOperation σ (get_prototype_of o) = Made σ o
MadeOperation σ (set_prototype_of o v) = Made σ o × MadeValue σ v
MadeOperation σ (is_extensible o) = Made σ o
MadeOperation σ (prevent_extensions o) = Made σ o
MadeOperation σ (get_own_property o k) = Made σ o
MadeOperation σ (define_own_property o k d) = Made σ o × MadeDescriptor σ d
MadeOperation σ (has_property o k) = Made σ o
MadeOperation σ (get o k receiver) = Made σ o
MadeOperation σ (set o k v receiver) = Made σ o × MadeValue σ v × MadeValue σ receiver
MadeOperation σ (delete o k) = Made σ o
MadeOperation σ (own_property_keys o) = Made σ o
MadeOperation σ (make_function v) = MadeValue σ v
MadeOperation σ (release o) = Made σ o × (is_named σ o ≡ false)
MadeOperation σ (set_integrity_level o level) = Made σ o
MadeOperation σ (test_integrity_level o level) = Made σ o

object-made : (ω : World) (o : ℕ) → bit (counts_of ω).live o ≡ true → Made ω.store o
unfolding lookup
object-made ω o h = go (lookup ω.store o) refl
  where
    go : (x : Option Object) → lookup ω.store o ≡ x → Made ω.store o
    go None e = absurd (false≢true (sym (live-mark ω.store.objects o ∙ ap is_live e) ∙ h))
    go (Some x) e = (x, e)

value_made : (ω : World) (v : Value) → is_made (counts_of ω) v ≡ true → MadeValue ω.store v
unfolding is_made
value_made ω value.Undefined h = record { made = λ o e. absurd (false≢true cc) }
value_made ω value.Null h = record { made = λ o e. absurd (false≢true cc) }
value_made ω (value.Boolean b) h = record { made = λ o e. absurd (false≢true cc) }
value_made ω (value.Integer32 n) h = record { made = λ o e. absurd (false≢true cc) }
value_made ω (value.Float64 x) h = record { made = λ o e. absurd (false≢true cc) }
value_made ω (value.String s) h = record { made = λ o e. absurd (false≢true cc) }
value_made ω (value.Symbol s) h = record { made = λ o e. absurd (false≢true cc) }
value_made ω (value.Object p) h = record { made = λ o e. subst (Made ω.store) (let q : p ≡ o = cc in q) (object-made ω p h) }
value_made ω (value.Function f) h = record { made = λ o e. subst (Made ω.store) (let q : f ≡ o = cc in q) (object-made ω f h) }

answer-made : (ω : World) (a : Answer) → answer_passes (is_made (counts_of ω)) a ≡ true → MadeAnswer ω.store a
answer-made ω (Answer.value v) h = value_made ω v h
answer-made ω (Answer.descriptor d) h = tt
answer-made ω (Answer.keys ks) h = tt
answer-made ω (Answer.throw v) h = tt

answers-made : (ω : World) (l : List Answer) → sheet_passes (is_made (counts_of ω)) l ≡ true → MadeAnswers ω.store l
unfolding sheet_passes
answers-made ω [] h = nil
answers-made ω (a ∷ l) h = let (p, q) = and-true (answer_passes (is_made (counts_of ω)) a) _ h in cons (answer-made ω a p) (answers-made ω l q)

-- the values of a descriptor
descriptor-made : (ω : World) (d : DescriptorObject) → descriptor_passes (is_made (counts_of ω)) d ≡ true → MadeDescriptor ω.store (to_property_descriptor d)
unfolding to_property_descriptor
descriptor-made ω d h =
    let (v, rest) = and-true (field_passes (is_made (counts_of ω)) d.value) _ h in
    let (g, s) = and-true (field_passes (is_made (counts_of ω)) d.get) _ rest in
    go (has d.get || has d.set) (has d.value || has d.writable) (field d.value v) (field d.get g) (field d.set s)
  where
    field : (f : Option Value) → field_passes (is_made (counts_of ω)) f ≡ true → FieldBy (MadeValue ω.store) f
    field None h v e = absurd (false≢true cc)
    field (Some u) h v e = let q : u ≡ v = cc in subst (MadeValue ω.store) q (value_made ω u h)

    none-there : FieldBy (MadeValue ω.store) None
    none-there v e = absurd (false≢true cc)

    go : (a b : Bool) → FieldBy (MadeValue ω.store) d.value → FieldBy (MadeValue ω.store) d.get → FieldBy (MadeValue ω.store) d.set
        → MadeDescriptor ω.store (record { enumerable = d.enumerable; configurable = d.configurable; kind = cond a (kind.Accessor d.get d.set) (cond b (kind.Data d.value d.writable) kind.Generic) })
    go true b v g s = record { value = none-there; get = g; set = s }
    go false true v g s = record { value = v; get = none-there; set = none-there }
    go false false v g s = record { value = none-there; get = none-there; set = none-there }

by-pick : {A : Type 0} (P : A → Type 0) (b : Bool) {x y : A} → (b ≡ true → P x) → (b ≡ false → P y) → P (pick b x y)
by-pick P true f g = f refl
by-pick P false f g = g refl

either : {A : Type 0} (P : A → Type 0) (b : Bool) {x y : A} → P x → P y → P (pick b x y)
either P b f g = by-pick P b (λ _. f) (λ _. g)

by_cases : (b : Bool) {C : Type 0} → (b ≡ true → C) → (b ≡ false → C) → C
by_cases true f g = f refl
by_cases false f g = g refl

operation-made : (ω : World) (s : Step) → are_objects_made (counts_of ω) s ≡ true → is_releasable (is_named ω.store s.object) s ≡ true → MadeOperation ω.store (operation_of s)
unfolding are_objects_made operation_of
operation-made ω s h u =
    let (named, passes) = and-true (unless (uses_object s.code) (bit (counts_of ω).live s.object)) (step_passes (is_made (counts_of ω)) s) h in
    let (k, rest) = and-true (is_made (counts_of ω) s.key) _ passes in
    let (v, more) = and-true (is_made (counts_of ω) s.value) _ rest in
    let (r, d) = and-true (is_made (counts_of ω) s.receiver) _ more in
    let P : Operation → Type 0 = MadeOperation ω.store in
    by_cases (eqb s.code 16)
    (λ e. subst (λ (c : ℕ). P (by_code c s.object (key_or_first (key_of s.key)) s.value s.receiver (to_property_descriptor s.descriptor))) (sym (eqb-true s.code 16 e)) (value_made ω s.value v))
    (λ f.
    by-pick P (eqb s.code 1) (λ _. value_made ω s.value v) (λ e.
    let o = object-made ω s.object (used (makes_ordinary s.code) (rw (e, f)) named) in
    either P (eqb s.code 2) o
    (either P (eqb s.code 3) o
    (either P (eqb s.code 4) o
    (either P (eqb s.code 5) (o, value_made ω s.value v)
    (either P (eqb s.code 6) o
    (either P (eqb s.code 7) o
    (either P (eqb s.code 8) o
    (either P (eqb s.code 9) (o, descriptor-made ω s.descriptor d)
    (either P (eqb s.code 10) o
    (either P (eqb s.code 11) o
    (either P (eqb s.code 12) (o, value_made ω s.value v, value_made ω s.receiver r)
    (either P (eqb s.code 13) o
    (either P (eqb s.code 14) o
    (either P (eqb s.code 16) (value_made ω s.value v)
    (by-pick P (eqb s.code 17) (λ c. (o, unnamed (releases s.code) c u))
    (λ _. either P (eqb s.code 18) o o)))))))))))))))))
  where
    unnamed : (b : Bool) → b ≡ true → unless b (not (is_named ω.store s.object)) ≡ true → is_named ω.store s.object ≡ false
    unnamed true e f = not-true (is_named ω.store s.object) f
    unnamed false e f = absurd (false≢true e)

    used : (b : Bool) → b ≡ false → unless (not b) (bit (counts_of ω).live s.object) ≡ true → bit (counts_of ω).live s.object ≡ true
    used true e f = absurd (false≢true (sym e))
    used false e f = f

-- all tests passed: each did
module _ (n : ℕ) (b : Bool) (ts : List (ℕ × Bool)) where
  pub passed : first_failing ((n, b) ∷ ts) ≡ None → (b ≡ true) × (first_failing ts ≡ None)
  unfolding first_failing
  passed = go b refl
    where
      go : (x : Bool) → b ≡ x → failing x n (first_failing ts) ≡ None → (b ≡ true) × (first_failing ts ≡ None)
      go true e h = (e, h)
      go false e h = absurd (false≢true cc)

pub record NamesMade (ω : World) (bytes sheet : List ℕ) : Type 0 where
  pub operation : MadeOperation ω.store (asked bytes)
  pub answers : MadeAnswers ω.store (sheet_of sheet)

pub names-made : (ω : World) (bytes sheet : List ℕ) → first_failing (record_tests ω bytes sheet) ≡ None → NamesMade ω bytes sheet
unfolding asked
names-made ω bytes sheet h =
    let (_, h₁) = passed _ _ _ h in
    let (objects, h₂) = passed _ _ _ h₁ in
    let (_, h₃) = passed _ _ _ h₂ in
    let (releasable, h₄) = passed _ _ _ h₃ in
    let (_, h₅) = passed _ _ _ h₄ in
    let (_, h₆) = passed _ _ _ h₅ in
    let (answers, h₇) = passed _ _ _ h₆ in
    record { operation = operation-made ω (step_of bytes) objects releasable; answers = answers-made ω (sheet_of sheet) answers }

-- and the sheet has as many answers as its first byte says
pub sheet-counted : (ω : World) (bytes sheet : List ℕ) → first_failing (record_tests ω bytes sheet) ≡ None → length (sheet_of sheet) ≡ byte_at sheet 0
sheet-counted ω bytes sheet h =
    let (_, h₁) = passed _ _ _ h in
    let (_, h₂) = passed _ _ _ h₁ in
    let (_, h₃) = passed _ _ _ h₂ in
    let (_, h₄) = passed _ _ _ h₃ in
    let (_, h₅) = passed _ _ _ h₄ in
    let (formed, h₆) = passed _ _ _ h₅ in
    sheet-length sheet formed

-- Later stores ----------------------------------------------------------------------

-- answers name live objects still
pub answers-kept : (σ τ : Store) → ((o : ℕ) → Made σ o → Made τ o) → {l : List Answer} → MadeAnswers σ l → MadeAnswers τ l
answers-kept σ τ keeps nil = nil
answers-kept σ τ keeps (cons {a} m ms) = cons (answer-kept a m) (answers-kept σ τ keeps ms)
  where
    answer-kept : (a : Answer) → MadeAnswer σ a → MadeAnswer τ a
    answer-kept (Answer.value v) m = value-kept keeps m
    answer-kept (Answer.descriptor d) m = tt
    answer-kept (Answer.keys ks) m = tt
    answer-kept (Answer.throw v) m = tt
