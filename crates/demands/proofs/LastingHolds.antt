-- Demand 3 holds of every list of calls. Assumes nothing.
use Rattle.std.specs.Prelude.{Option, None, Some}
use Prim.Native.Nat.{ℕ, suc, ◌≤◌, ◌<◌}
use native.Mathlib.Nat.{le_refl, le_trans, le-suc, le_of_lt}
use mathlib.Core.Path.{◌≡◌, refl, sym, ap, ◌∙◌, subst}
use mathlib.Core.Bool.{Bool, true, false, not, false≢true, true≢false}
use mathlib.Core.List.{List}
use lib.Dec.{leb}
use borrow.Author.Tests.{leb-true, leb-false}
use Rattle.value.specs.declared.Value.{Value}
use Rattle.value.specs.declared.PropertyKey.{PropertyKey}
use Rattle.value.specs.Value.{same_value}
use Rattle.value.proofs.SameValue.{same_refl, same-sym}
use Rattle.property.specs.declared.Property.{Property}
use Rattle.property.specs.declared.Property.TheVariants.{Data, Accessor}
use Rattle.store.specs.Store.{Store, World, own}
use Rattle.internal_methods.specs.KeyList.{has_key}
use Rattle.internal_methods.proofs.StoreClosed.{Made}
use Rattle.internal_methods.proofs.Base.{frozen_as, is_absent, on-base, Frozen, Shut, Lacking}
use Rattle.internal_methods.proofs.Later.{frozen-lasts, shut-lasts, rooted-lasts, lacking-lasts}
use Rattle.internal_methods.proofs.Reports.{Faithful, SamePrototype, frozen-learnt, frozen-told, lacking-learnt, lacking-told, rooted-learnt, rooted-told}
use Rattle.steps.specs.Operation.{Operation, get_prototype_of, asked}
use Rattle.steps.specs.Sequence.{Ran}
use Rattle.steps.specs.Perform.{Result, value, descriptor, absent, keys, own_result}
use Rattle.steps.specs.Response.{Effect}
use Rattle.steps.specs.Run.{Call, Event, At, run, world_at}
use Rattle.demands.specs.Lasting.{Tells, ReportsFixed, ReportsNonExtensible, by-is_extensible, by-prevent_extensions, ReportsAbsent, ShowsOwn, IsDataWith, Unreleased, StaysFixed, StaysNonExtensible, Lasting}
use Rattle.steps.proofs.Steps.{Resulted}
use Rattle.steps.proofs.Performed.{Says, boolean-is}
use Rattle.steps.proofs.Places.{ran-said}
use Rattle.demands.proofs.Carrying.{within, told_is, told_at, made_at, carried-at, followed}

-- what a run that came to a result says
told : {ω : World} {bytes sheet : List ℕ} {x : Effect} {r : Result} (d : Resulted ω bytes sheet x r) → Says ω.store (asked bytes) r d.store
told {ω} {bytes} {sheet} {r = r} d = subst (λ (σ : Store). Says ω.store (asked bytes) r σ) (ap (λ (x : Ran Result). x.1) d.runs)
    ((ran-said ω bytes sheet).says r d.rest (ap (λ (x : Ran Result). x.0) d.runs))

-- what an event that tells a result says of the worlds before and after it
pub says_at : (calls : List Call) (i : ℕ) (e : Event) (asks : Operation) (r : Result) → At (run calls) i e → Tells e asks r
    → Says (world_at calls i).store asks r (world_at calls (suc i)).store
says_at calls i e asks r h t =
    let d = told_at calls i e h t in
    let w : (world_at calls (suc i)).store ≡ d.store = ap (λ (x : World). x.store) ((told_is calls i e h t).1 ∙ d.world) in
    rw w (subst (λ (o : Operation). Says (world_at calls i).store o r d.store) t.operation (told d))

-- Results as what methods give --------------------------------------------------------

pub value-is : (v w : Value) → value v ≡ value w → v ≡ w
value-is v w h = cc

keys-is : (ks ls : List PropertyKey) → keys ks ≡ keys ls → ks ≡ ls
keys-is ks ls h = cc

own_is : (p : Property) (d : Option Property) → descriptor p ≡ own_result d → Some p ≡ d
own_is p None h = absurd (false≢true cc)
own_is p (Some q) h = cc

absent-is : (d : Option Property) → absent ≡ own_result d → None ≡ d
absent-is None h = refl
absent-is (Some q) h = absurd (false≢true cc)

frozen-data : (d : Option Property) (v : Value) → frozen_as v d ≡ true → IsDataWith v (own_result d)
frozen-data None v h = absurd (false≢true h)
frozen-data (Some (Accessor g s e c)) v h = absurd (false≢true h)
frozen-data (Some (Data w true e c)) v h = absurd (false≢true h)
frozen-data (Some (Data w false e true)) v h = absurd (false≢true h)
frozen-data (Some (Data w false e false)) v h = record { current = w; writable = false; enumerable = e; configurable = false; is = refl; same = h }

module _ (calls : List Call) where
  -- the store that the call at place i finds
  abbrev σ : ℕ → Store
  σ i = (world_at calls i).store

  -- What is reported is so of the base from then on ------------------------------------

  pub fixed-learnt : (i : ℕ) (e : Event) (o : ℕ) (k : PropertyKey) (v : Value) → At (run calls) i e → ReportsFixed o k v e → (j : ℕ) → i < j → Unreleased (run calls) (suc i) j o → Frozen (σ j) o k v
  fixed-learnt i e o k v h t j l u =
      let (d, q, f) = says_at calls i e _ _ h t.told in
      let p : Some (Data v false t.enumerable false) ≡ d = own_is _ d q in
      let m = followed calls i e _ _ o j h t.told (made_at calls i e _ _ h t.told) (λ x. false≢true cc) l u in
      frozen-lasts k v m.before.held (frozen-learnt k d v f (subst (λ (x : Option Property). frozen_as v x ≡ true) p (same_refl v)))

  pub shut-learnt : (i : ℕ) (e : Event) (o : ℕ) → At (run calls) i e → ReportsNonExtensible o e → (j : ℕ) → i < j → Unreleased (run calls) (suc i) j o → Shut (σ j) o
  shut-learnt i e o h (by-is_extensible t) j l w =
      let (x, q, u) = says_at calls i e _ _ h t in
      let p : false ≡ x = boolean-is false x q in
      let m = followed calls i e _ _ o j h t (made_at calls i e _ _ h t) (λ y. false≢true cc) l w in
      shut-lasts m.before.held (on-base (record { number = u.number; object = u.object; base = u.base; holds = sym u.holds ∙ sym p }))
  shut-learnt i e o h (by-prevent_extensions t) j l w =
      shut-lasts (followed calls i e _ _ o j h t (made_at calls i e _ _ h t) (λ y. false≢true cc) l w).after.held (says_at calls i e _ _ h t refl)

  pub absent-learnt : (i : ℕ) (e : Event) (o : ℕ) (k : PropertyKey) → At (run calls) i e → Shut (σ i) o → ReportsAbsent o k e → (j : ℕ) → i < j → Unreleased (run calls) (suc i) j o → Lacking (σ j) o k
  absent-learnt i e o k h s (ReportsAbsent.by-get_own_property t) j l w =
      let (d, q, f) = says_at calls i e _ _ h t in
      let m = followed calls i e _ _ o j h t (made_at calls i e _ _ h t) (λ y. false≢true cc) l w in
      lacking-lasts k m.before.held (lacking-learnt k (subst (λ (x : Option Property). Faithful (σ i) o k x) (sym (absent-is d q)) f) s)
  absent-learnt i e o k h s (ReportsAbsent.by-has_property t) j l w =
      let (x, q, f) = says_at calls i e _ _ h t in
      let m = followed calls i e _ _ o j h t (made_at calls i e _ _ h t) (λ y. false≢true cc) l w in
      lacking-lasts k m.before.held (f.shown (sym (boolean-is false x q)) s)
  absent-learnt i e o k h s (ReportsAbsent.by-own_property_keys ks t n) j l w =
      let (ls, q, u) = says_at calls i e _ _ h t in
      let c : has_key k ls ≡ false = ap (λ (x : List PropertyKey). has_key k x) (sym (keys-is ks ls q)) ∙ n in
      let x = s.at u.base in
      let m = followed calls i e _ _ o j h t (made_at calls i e _ _ h t) (λ y. false≢true cc) l w in
      lacking-lasts k m.before.held (on-base (record {
        number = u.number;
        object = u.object;
        base = u.base;
        holds = (x, gone (is_absent (own (σ i) u.number k)) (sym (u.holds.shown x k) ∙ c));
      }))
    where
      gone : (b : Bool) → not b ≡ false → b ≡ true
      gone true g = refl
      gone false g = absurd (true≢false g)

  -- What is so of the base binds every report -------------------------------------------

  pub stays-fixed : (i : ℕ) (o : ℕ) (k : PropertyKey) (v : Value) → ((j : ℕ) → i < j → Unreleased (run calls) (suc i) j o → Frozen (σ j) o k v) → StaysFixed (run calls) i o k v
  stays-fixed i o k v frozen = record {
    described = λ j f r l n h t.
        let (d, q, u) = says_at calls j f _ _ h t in
        subst (λ (x : Result). IsDataWith v x) (sym q) (frozen-data d v (frozen-told k d v u (frozen j l n)));
    read = λ j f receiver w l n h t.
        let (x, q, u) = says_at calls j f _ _ h t in
        ap (λ (y : Value). same_value y v) (value-is w x q) ∙ u v (frozen j l n);
    listed = λ j f ks l n h t.
        let (ls, q, u) = says_at calls j f _ _ h t in
        ap (λ (x : List PropertyKey). has_key k x) (keys-is ks ls q) ∙ u.holds.fixed k v ((frozen j l n).at u.base);
    undeleted = λ j f l n h t. (says_at calls j f _ _ h t refl).loose v (frozen j l n);
  }

  prototypes : (o : ℕ) (p q : Value) (j l : ℕ) → j ≤ l → Made (σ j) o → Unreleased (run calls) j l o → Shut (σ j) o → SamePrototype (σ j) o p → SamePrototype (σ l) o q → same_value p q ≡ true
  prototypes o p q j l h m n s u w = same-sym p q ∙ rooted-told q p w (rooted-lasts p (carried-at calls l j o h m n).held (rooted-learnt p u s))

  -- a prototype that is told of a live object, once the object was non-extensible
  pub record Rooted (i o j : ℕ) (p : Value) : Type 0 where
    pub later : i < j
    pub kept : Unreleased (run calls) (suc i) j o
    pub live : Made (σ j) o
    pub told : SamePrototype (σ j) o p

  pub prototype-told : (i o j : ℕ) (f : Event) (p : Value) → i < j → Unreleased (run calls) (suc i) j o → At (run calls) j f → Tells f (get_prototype_of o) (value p) → Rooted i o j p
  prototype-told i o j f p l n h t =
      let (x, a, u) = says_at calls j f _ _ h t in
      record { later = l; kept = n; live = made_at calls j f _ _ h t; told = subst (λ (z : Value). SamePrototype (σ j) o z) (sym (value-is p x a)) u }

  -- two of them, in either order
  pub same-prototypes : (i : ℕ) (o : ℕ) → ((j : ℕ) → i < j → Unreleased (run calls) (suc i) j o → Shut (σ j) o) → (j m : ℕ) (p q : Value) → Rooted i o j p → Rooted i o m q → same_value p q ≡ true
  same-prototypes i o shut j m p q a b = go (leb j m) refl
    where
      go : (t : Bool) → leb j m ≡ t → same_value p q ≡ true
      go true e = prototypes o p q j m (leb-true j m e) a.live (within j m b.kept a.later (le_refl m)) (shut j a.later a.kept) a.told b.told
      go false e = same-sym p q ∙ prototypes o q p m j (le_of_lt (leb-false j m e)) b.live (within m j a.kept b.later (le_refl j)) (shut m b.later b.kept) b.told a.told

  -- what the object lacks is not shown
  pub not-shown : (m : ℕ) (g : Event) (o : ℕ) (k : PropertyKey) → At (run calls) m g → Lacking (σ m) o k → ShowsOwn o k g → ⊥
  not-shown m g o k h a (ShowsOwn.by-get_own_property p t) =
      let (d, q, u) = says_at calls m g _ _ h t in
      false≢true (subst (λ (x : Option Property). is_absent x ≡ true) (sym (own_is p d q)) (lacking-told k d u a))
  not-shown m g o k h a (ShowsOwn.by-own_property_keys ks t n) =
      let (ls, q, u) = says_at calls m g _ _ h t in
      let b = a.at u.base in
      let z : has_key k ls ≡ true = ap (λ (x : List PropertyKey). has_key k x) (sym (keys-is ks ls q)) ∙ n in
      false≢true (sym (ap not b.1) ∙ (sym (u.holds.shown b.0 k) ∙ z))

  pub stays-non_extensible : (i : ℕ) (o : ℕ) → ((j : ℕ) → i < j → Unreleased (run calls) (suc i) j o → Shut (σ j) o) → StaysNonExtensible (run calls) i o
  stays-non_extensible i o shut = record {
    closed = λ j f l n h t.
        let (x, q, u) = says_at calls j f _ _ h t in
        true≢false (boolean-is true x q ∙ (u.holds ∙ (shut j l n).at u.base));
    prototype = λ j m f g p q lj lm nj nm hf hg tf tg. same-prototypes i o shut j m p q (prototype-told i o j f p lj nj hf tf) (prototype-told i o m g q lm nm hg tg);
    hidden = λ j m f g k lj lm n hf hg tf tg.
        not-shown m g o k hg (absent-learnt j f o k hf (shut j lj (within (suc i) j n (le_refl (suc i)) (le_of_lt lm))) tf m lm (within (suc j) m n (le_trans lj (le-suc j)) (le_refl m))) tg;
  }

-- Demand 3: over every list of calls, from nothing made or entered
pub lasting : (calls : List Call) → Lasting (run calls)
lasting calls = record {
  fixed = λ i e o k v h t. stays-fixed calls i o k v (λ j l n. fixed-learnt calls i e o k v h t j l n);
  non_extensible = λ i e o h t. stays-non_extensible calls i o (λ j l n. shut-learnt calls i e o h t j l n);
}
