-- What the methods that read report of an object is so of its base. Assumes nothing.
use Rattle.std.specs.Prelude.{Option, None, Some}
use Prim.Native.Nat.{ℕ, suc, zero}
use mathlib.Core.Path.{◌≡◌, refl, sym, ◌∙◌, subst}
use mathlib.Core.Bool.{Bool, true, false, not, false≢true, true≢false}
use borrow.Author.Tests.{not-false}
use Rattle.value.specs.declared.Value.{Value}
use Rattle.value.specs.declared.PropertyKey.{PropertyKey}
use Rattle.value.specs.Value.{same_value}
use Rattle.value.proofs.Bools.{beq-eq}
use Rattle.value.proofs.SameValue.{same-like, same_refl, same-sym}
use Rattle.property.specs.declared.Property.TheVariants.{Data, Accessor}
use Rattle.property.proofs.ValidateLaws.{configurable-not-frozen}
use Rattle.store.specs.declared.OrdinaryObject.{OrdinaryObject}
use Rattle.store.specs.declared.ProxyObject.{ProxyObject}
use Rattle.store.specs.declared.Object.TheVariants.{Ordinary}
use Rattle.store.specs.Store.{Store, lookup, own}
use Rattle.internal_methods.specs.Methods.{Context}
use Rattle.internal_methods.specs.Ordinary.{ordinary_has_property, ordinary_get}
use Rattle.internal_methods.specs.Proxy.{proxy_get_prototype_of, proxy_is_extensible, proxy_get_own_property, proxy_has_property, proxy_get, fixes_other}
use Rattle.internal_methods.specs.Internal.{methods}
use Rattle.internal_methods.proofs.Ensures.{Ensures, ensures-pure, ensures-fails, ensures-bind, ensures-if, ensures-throw_if, ensures-then, ensures-weaken, ensures-all, ensures-dispatch}
use Rattle.internal_methods.proofs.Base.{frozen_as, is_absent, Active, here, Under, at_base, on-base, through, on-proxy, at_target, Frozen, Shut, Rooted, Lacking}
use Rattle.internal_methods.proofs.Tied.{Tied, tied-refl, tied-trans, tied-undefined, tied-descriptor}
use Rattle.property.specs.declared.Property.{Property}

-- [[IsExtensible]]

pub is_extensible-report : (n : ℕ) (c : Context) (o : ℕ) → Ensures ((methods n c).is_extensible o) (λ x. Under c.store o (λ b r. x ≡ r.extensible))
unfolding methods proxy_is_extensible
is_extensible-report zero c o = ensures-fails _
is_extensible-report (suc n) c o = ensures-dispatch c.store o
    (λ r e. ensures-pure _ (record { number = o; object = r; base = here e; holds = refl }))
    (λ p e. ensures-if _
    (λ _. ensures-weaken (is_extensible-report n c p.target) (λ x u. through e u))
    (λ _. ensures-then _ λ answer.
    ensures-bind (is_extensible-report n c p.target) λ x u.
    ensures-throw_if _ _ λ nine.
    ensures-pure _ (through e (record { number = u.number; object = u.object; base = u.base; holds = beq-eq _ _ (not-false _ nine) ∙ u.holds }))))

-- [[GetOwnProperty]]

-- the report is tied to the property of the base
abbrev pub Faithful : Store → ℕ → PropertyKey → Option Property → Type 0
Faithful σ o k d = Under σ o (λ b r. Tied r.extensible (own σ b k) d)

-- one more proxy: what its checks tie to the target's report is tied to the base
on-top : {σ : Store} {o : ℕ} {p : ProxyObject} {d : Option Property} (k : PropertyKey) (t : Option Property) (x : Bool) → Active σ o p
    → Faithful σ p.target k t → Under σ p.target (λ b r. x ≡ r.extensible) → Tied x t d → Faithful σ o k d
on-top {d = d} k t x e f u h =
    let same : x ≡ f.object.extensible = at_base f.base u in
    through e (record { number = f.number; object = f.object; base = f.base; holds = tied-trans f.holds (subst (λ y. Tied y t d) same h) })

pub get_own_property-report : (n : ℕ) (c : Context) (o : ℕ) (k : PropertyKey) → Ensures ((methods n c).get_own_property o k) (Faithful c.store o k)
unfolding methods proxy_get_own_property
get_own_property-report zero c o k = ensures-fails _
get_own_property-report (suc n) c o k = ensures-dispatch c.store o
    (λ r e. ensures-pure _ (record { number = o; object = r; base = here e; holds = tied-refl }))
    (λ p e. ensures-if _
    (λ _. ensures-weaken (get_own_property-report n c p.target k) (λ d u. through e u))
    (λ _. ensures-then _ (elim [
      | None ↦ ensures-bind (get_own_property-report n c p.target k) (elim [
        | None ↦ λ f. ensures-pure _ (through e f)
        | Some target ↦ λ f.
            ensures-throw_if _ _ λ b.
            ensures-bind (is_extensible-report n c p.target) λ x u.
            ensures-throw_if _ _ λ d.
            ensures-pure _ (on-top k (Some target) x e f u (tied-undefined x target b d))
      ])
      | Some object ↦
          ensures-bind (get_own_property-report n c p.target k) λ target f.
          ensures-bind (is_extensible-report n c p.target) λ x u.
          ensures-throw_if _ _ λ _.
          ensures-throw_if _ _ λ _.
          ensures-throw_if _ _ λ _.
          ensures-throw_if _ _ λ fifteen.
          ensures-throw_if _ _ λ sixteen-a.
          ensures-throw_if _ _ λ sixteen-b.
          ensures-pure _ (on-top k target x e f u (tied-descriptor x target _ fifteen sixteen-a sixteen-b))
    ])))

-- an ordinary object reports what it has
pub get_own_property-exact : (n : ℕ) (c : Context) (o : ℕ) (k : PropertyKey) (r : OrdinaryObject) → lookup c.store o ≡ Some (Ordinary r)
    → Ensures ((methods n c).get_own_property o k) (λ d. d ≡ own c.store o k)
unfolding methods
get_own_property-exact zero c o k r e = ensures-fails _
get_own_property-exact (suc n) c o k r e = ensures-dispatch c.store o (λ s f. ensures-pure _ refl) (λ p f. let g = f.found in absurd (false≢true cc))

pub is_extensible-exact : (n : ℕ) (c : Context) (o : ℕ) (r : OrdinaryObject) → lookup c.store o ≡ Some (Ordinary r)
    → Ensures ((methods n c).is_extensible o) (λ x. x ≡ r.extensible)
is_extensible-exact n c o r e = ensures-weaken (is_extensible-report n c o) (λ x u. at_base (here e) u)

-- a report that is frozen says that the base is, and a base that is frozen makes the report so
pub frozen-learnt : {σ : Store} {o : ℕ} (k : PropertyKey) (d : Option Property) (v : Value) → Faithful σ o k d → frozen_as v d ≡ true → Frozen σ o k v
frozen-learnt k d v f h = on-base (record { number = f.number; object = f.object; base = f.base; holds = sym (f.holds.froze v) ∙ h })

pub frozen-told : {σ : Store} {o : ℕ} (k : PropertyKey) (d : Option Property) (v : Value) → Faithful σ o k d → Frozen σ o k v → frozen_as v d ≡ true
frozen-told k d v f h = f.holds.froze v ∙ h.at f.base

-- and so with an object that is not extensible and lacks a key
pub lacking-learnt : {σ : Store} {o : ℕ} (k : PropertyKey) → Faithful σ o k None → Shut σ o → Lacking σ o k
lacking-learnt k f shut =
    let s = shut.at f.base in
    on-base (record { number = f.number; object = f.object; base = f.base; holds = (s, sym (f.holds.shown s)) })

pub lacking-told : {σ : Store} {o : ℕ} (k : PropertyKey) (d : Option Property) → Faithful σ o k d → Lacking σ o k → is_absent d ≡ true
lacking-told k d f h = let b = h.at f.base in f.holds.shown b.0 ∙ b.1

-- [[Get]]

abbrev pub GetFrozen : Store → ℕ → PropertyKey → Value → Type 0
GetFrozen σ o k x = (v : Value) → Frozen σ o k v → same_value x v ≡ true

frozen-value : (w v : Value) (wr e c : Bool) → frozen_as v (Some (Data w wr e c)) ≡ true → same_value w v ≡ true
frozen-value w v true e c h = absurd (false≢true h)
frozen-value w v false e true h = absurd (false≢true h)
frozen-value w v false e false h = h

-- 10.5.8 step 9.a and 10.5.9 step 10.a
pub fixed-value : (t : Option Property) (x v : Value) → fixes_other t x ≡ false → frozen_as v t ≡ true → same_value x v ≡ true
fixed-value None x v h f = absurd (false≢true f)
fixed-value (Some (Accessor g s e c)) x v h f = absurd (false≢true f)
fixed-value (Some (Data w true e c)) x v h f = absurd (false≢true f)
fixed-value (Some (Data w false e true)) x v h f = absurd (false≢true f)
fixed-value (Some (Data w false e false)) x v h f = same-like x w v (not-false _ h) ∙ f

pub get-report : (n : ℕ) (c : Context) (o : ℕ) (k : PropertyKey) (receiver : Value) → Ensures ((methods n c).get o k receiver) (GetFrozen c.store o k)
unfolding methods ordinary_get proxy_get
get-report zero c o k receiver = ensures-fails _
get-report (suc n) c o k receiver = ensures-dispatch c.store o
    (λ r e. ensures-bind (get_own_property-report n c o k) (elim [
      | None ↦ λ f. ensures-all _ (λ x v u. absurd (false≢true (frozen-told k None v f u)))
      | Some (Data w wr en co) ↦ λ f. ensures-pure w (λ v u. frozen-value w v wr en co (frozen-told k _ v f u))
      | Some (Accessor g s en co) ↦ λ f. ensures-all _ (λ x v u. absurd (false≢true (frozen-told k _ v f u)))
    ]))
    (λ p e. ensures-if _
    (λ _. ensures-weaken (get-report n c p.target k receiver) (λ x h v u. h v (at_target e u)))
    (λ _. ensures-then _ λ answer.
    ensures-bind (get_own_property-report n c p.target k) λ target f.
    ensures-throw_if _ _ λ nine-a.
    ensures-throw_if _ _ λ _.
    ensures-pure _ (λ v u. fixed-value target _ v nine-a (frozen-told k target v f (at_target e u)))))

-- [[GetPrototypeOf]]

-- what is so of the prototype of a base that is not extensible
abbrev pub SamePrototype : Store → ℕ → Value → Type 0
SamePrototype σ o v = Under σ o (λ b r. r.extensible ≡ false → same_value v r.prototype ≡ true)

-- whatever the prototype of an object that is extensible
pub loose-prototype : {σ : Store} {o : ℕ} (v : Value) (x : Bool) → x ≡ true → Under σ o (λ b r. x ≡ r.extensible) → SamePrototype σ o v
loose-prototype v x h u = record { number = u.number; object = u.object; base = u.base; holds = λ shut. absurd (true≢false (sym h ∙ u.holds ∙ shut)) }

-- 10.5.1 step 12 and 10.5.2 step 12
pub same-prototype : {σ : Store} {o : ℕ} (v t : Value) → not (same_value v t) ≡ false → SamePrototype σ o t → SamePrototype σ o v
same-prototype v t twelve u = record {
  number = u.number;
  object = u.object;
  base = u.base;
  holds = λ h. same-like v t u.object.prototype (not-false _ twelve) ∙ u.holds h;
}

pub get_prototype_of-report : (n : ℕ) (c : Context) (o : ℕ) → Ensures ((methods n c).get_prototype_of o) (SamePrototype c.store o)
unfolding methods proxy_get_prototype_of
get_prototype_of-report zero c o = ensures-fails _
get_prototype_of-report (suc n) c o = ensures-dispatch c.store o
    (λ r e. ensures-pure _ (record { number = o; object = r; base = here e; holds = λ _. same_refl r.prototype }))
    (λ p e. ensures-if _
    (λ _. ensures-weaken (get_prototype_of-report n c p.target) (λ v u. through e u))
    (λ _. ensures-then _ λ handler_proto.
    ensures-bind (is_extensible-report n c p.target) λ x u. ensures-if x
    (λ extensible. ensures-pure _ (through e (loose-prototype handler_proto x extensible u)))
    (λ _. ensures-bind (get_prototype_of-report n c p.target) λ target_proto t.
    ensures-throw_if _ _ λ twelve.
    ensures-pure _ (through e (same-prototype handler_proto target_proto twelve t)))))

pub rooted-learnt : {σ : Store} {o : ℕ} (v : Value) → SamePrototype σ o v → Shut σ o → Rooted σ o v
rooted-learnt v u shut =
    let s = shut.at u.base in
    on-base (record { number = u.number; object = u.object; base = u.base; holds = (s, same-sym u.object.prototype v ∙ u.holds s) })

pub rooted-told : {σ : Store} {o : ℕ} (v w : Value) → SamePrototype σ o v → Rooted σ o w → same_value v w ≡ true
rooted-told v w u h = let b = h.at u.base in same-like v u.object.prototype w (u.holds b.0) ∙ b.1

-- [[HasProperty]]

pub record HasTied (σ : Store) (o : ℕ) (k : PropertyKey) (b : Bool) : Type 0 where
  pub fixed : (v : Value) → Frozen σ o k v → b ≡ true
  pub shown : b ≡ false → Shut σ o → Lacking σ o k

has-yes : {σ : Store} {o : ℕ} (k : PropertyKey) → HasTied σ o k true
has-yes k = record { fixed = λ v u. refl; shown = λ h. absurd (true≢false h) }

-- no own property is reported: whatever the prototypes say
has-absent : {σ : Store} {o : ℕ} (k : PropertyKey) (b : Bool) → Faithful σ o k None → HasTied σ o k b
has-absent k b f = record { fixed = λ v u. absurd (false≢true (frozen-told k None v f u)); shown = λ _ shut. lacking-learnt k f shut }

has-through : {σ : Store} {o : ℕ} {p : ProxyObject} (k : PropertyKey) (b : Bool) → Active σ o p → HasTied σ p.target k b → HasTied σ o k b
has-through k b e h = record { fixed = λ v u. h.fixed v (at_target e u); shown = λ f shut. on-proxy e.found (h.shown f (at_target e shut)) }

pub has_property-report : (n : ℕ) (c : Context) (o : ℕ) (k : PropertyKey) → Ensures ((methods n c).has_property o k) (HasTied c.store o k)
unfolding methods ordinary_has_property proxy_has_property
has_property-report zero c o k = ensures-fails _
has_property-report (suc n) c o k = ensures-dispatch c.store o
    (λ r e. ensures-bind (get_own_property-report n c o k) (elim [
      | Some d ↦ λ f. ensures-pure _ (has-yes k)
      | None ↦ λ f. ensures-all _ (λ b. has-absent k b f)
    ]))
    (λ p e. ensures-if _
    (λ _. ensures-weaken (has_property-report n c p.target k) (λ b h. has-through k b e h))
    (λ _. ensures-then _ λ answer. ensures-if _
    (λ _. ensures-pure _ (has-yes k))
    (λ _. ensures-bind (get_own_property-report n c p.target k) (elim [
      | None ↦ λ f. ensures-pure _ (has-through k false e (has-absent k false f))
      | Some t ↦ λ f.
          ensures-throw_if _ _ λ i.
          ensures-bind (is_extensible-report n c p.target) λ x u.
          ensures-throw_if _ _ λ iii.
          ensures-pure _ (has-through k false e (record {
            fixed = λ v w. absurd (false≢true (sym (configurable-not-frozen t v (not-false _ i)) ∙ frozen-told k (Some t) v f w));
            shown = λ _ shut. absurd (true≢false (sym (not-false x iii) ∙ u.holds ∙ shut.at u.base));
          }))
    ]))))
