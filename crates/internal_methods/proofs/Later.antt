-- What lasts of an ordinary object, and of a store. Assumes nothing.
use Rattle.std.specs.Prelude.{Option, None, Some}
use Prim.Native.Nat.{ℕ}
use mathlib.Core.Path.{◌≡◌, refl, sym, ap, ◌∙◌, subst}
use mathlib.Core.Bool.{Bool, true, false, cond, false≢true, true≢false}
use lib.Dec.{eqb}
use borrow.Author.Tests.{eqb-true}
use Rattle.value.specs.Bits.{bit}
use Rattle.value.specs.declared.Value.{Value}
use Rattle.value.specs.declared.PropertyKey.{PropertyKey}
use Rattle.property.specs.declared.Property.{Property}
use Rattle.store.specs.declared.OrdinaryObject.{OrdinaryObject}
use Rattle.store.specs.declared.ProxyObject.{ProxyObject}
use Rattle.store.specs.declared.Object.{Object}
use Rattle.store.specs.declared.Object.TheVariants.{Ordinary, Proxy}
use Rattle.store.specs.Store.{Store, lookup, put, add, is_live, is_function, own, with_property, without_property}
use Rattle.store.specs.Release.{release}
use Rattle.store.proofs.ReleaseLaws.{lookup-released-other, lookup-left, own-released-other}
use Rattle.store.proofs.NumberLaws.{SameNumbers, same_refl, same-trans, same-properties, same-put, same_live}
use Rattle.store.proofs.PlaceLaws.{Distinct, distinct-insert, distinct_remove}
use Rattle.store.proofs.StoreLaws.{Fresh, same_place, place-eq, lookup-put, lookup-put-other, lookup-add, lookup-new, function-add, function-new, lookup-with, lookup-without, own_put, own-add, own-with, own-without}
use Rattle.internal_methods.proofs.StoreClosed.{Made, Closed}
use Rattle.internal_methods.proofs.Base.{frozen_as, is_absent, Active, Base, here, over, OnBase, on-proxy, Frozen, Shut, Rooted, Lacking}

-- the ordinary object b of σ was r, and in τ is s
pub record Later (σ τ : Store) (b : ℕ) (r s : OrdinaryObject) : Type 0 where
  pub frozen : (k : PropertyKey) (v : Value) → frozen_as v (own σ b k) ≡ true → frozen_as v (own τ b k) ≡ true
  pub shut : r.extensible ≡ false → s.extensible ≡ false
  pub rooted : r.extensible ≡ false → s.prototype ≡ r.prototype
  pub lacking : r.extensible ≡ false → (k : PropertyKey) → is_absent (own σ b k) ≡ true → is_absent (own τ b k) ≡ true

-- an object stays ordinary, or a proxy of its target, which may be revoked and stays so
pub data Lasts (σ τ : Store) (b : ℕ) : Object → Object → Type 0 where
  ordinaries : {r s : OrdinaryObject} → Later σ τ b r s → Lasts σ τ b (Ordinary r) (Ordinary s)
  proxies : {p q : ProxyObject} → q.target ≡ p.target → (q.revoked ≡ false → p.revoked ≡ false) → Lasts σ τ b (Proxy p) (Proxy q)

pub record IsOrdinary (x : Object) : Type 0 where
  pub object : OrdinaryObject
  pub is : x ≡ Ordinary object

pub lasts-ordinary : {σ τ : Store} {b : ℕ} {x y : Object} → Lasts σ τ b x y → IsOrdinary x → IsOrdinary y
lasts-ordinary (ordinaries {s = s} l) h = record { object = s; is = refl }
lasts-ordinary (proxies l k) h = let e = h.is in absurd (false≢true cc)

-- each object of the store lasts, with its name, and there may be new ones, of which only an ordinary one is callable
pub record Grows (σ τ : Store) : Type 0 where
  pub lasts : (o : ℕ) (x : Object) → lookup σ o ≡ Some x → (y : Object) × (lookup τ o ≡ Some y) × Lasts σ τ o x y
  pub named : (o : ℕ) (x : Object) → lookup σ o ≡ Some x → is_function τ o ≡ is_function σ o
  pub added : (o : ℕ) (y : Object) → lookup σ o ≡ None → lookup τ o ≡ Some y → is_function τ o ≡ true → IsOrdinary y

-- where the objects and the properties of b are as before
lasts-same : (σ τ : Store) (b : ℕ) (x : Object) → ((k : PropertyKey) → own τ b k ≡ own σ b k) → Lasts σ τ b x x
lasts-same σ τ b (Ordinary r) e = ordinaries (record {
  frozen = λ k v h. rw (e k) h;
  shut = λ h. h;
  rooted = λ h. refl;
  lacking = λ _ k h. rw (e k) h;
})
lasts-same σ τ b (Proxy p) e = proxies refl (λ h. h)

later_trans : {σ τ υ : Store} {b : ℕ} {r s t : OrdinaryObject} → Later σ τ b r s → Later τ υ b s t → Later σ υ b r t
later_trans m n = record {
  frozen = λ k v h. n.frozen k v (m.frozen k v h);
  shut = λ h. n.shut (m.shut h);
  rooted = λ h. n.rooted (m.shut h) ∙ m.rooted h;
  lacking = λ h k g. n.lacking (m.shut h) k (m.lacking h k g);
}

lasts-trans : {σ τ υ : Store} {b : ℕ} {x y z : Object} → Lasts σ τ b x y → Lasts τ υ b y z → Lasts σ υ b x z
lasts-trans (ordinaries m) (ordinaries n) = ordinaries (later_trans m n)
lasts-trans (proxies m i) (proxies n j) = proxies (n ∙ m) (λ h. i (j h))

pub grows-refl : (σ : Store) → Grows σ σ
grows-refl σ = record { lasts = λ o x e. (x, e, lasts-same σ σ o x (λ k. refl)); named = λ o x e. refl; added = λ o y e f _. absurd (false≢true cc) }

pub grows-trans : {σ τ υ : Store} → Grows σ τ → Grows τ υ → Grows σ υ
grows-trans {σ} {τ} {υ} f g = record {
  lasts = λ o x e.
      let (y, a, l) = f.lasts o x e in
      let (z, b, m) = g.lasts o y a in
      (z, b, lasts-trans l m);
  named = λ o x e. g.named o _ (f.lasts o x e).1 ∙ f.named o x e;
  added = λ o z e h i. from-middle o z e h i _ refl;
}
  where
    from-middle : (o : ℕ) (z : Object) → lookup σ o ≡ None → lookup υ o ≡ Some z → is_function υ o ≡ true → (m : Option Object) → lookup τ o ≡ m → IsOrdinary z
    from-middle o z e h i None m = g.added o z m h i
    from-middle o z e h i (Some y) m =
        let (w, b, l) = g.lasts o y m in
        let q : w ≡ z = cc in
        subst IsOrdinary q (lasts-ordinary l (f.added o y e m (sym (g.named o y m) ∙ i)))

pub grows-add : (σ : Store) → Fresh σ → (x : Object) (b : Bool) → (b ≡ true → IsOrdinary x) → Grows σ (add σ x b)
grows-add σ fresh y b h = record {
  lasts = λ o x e. (x, lookup-add σ fresh y b o x e, lasts-same σ (add σ y b) o x (λ k. own-add σ y b o k));
  named = λ o x e. function-add σ fresh y b o x e;
  added = λ o z e f i.
      let (p, q) = lookup-new σ y b o z e f in
      subst IsOrdinary q (h (sym (function-new σ y b) ∙ subst (λ (n : ℕ). is_function (add σ y b) n ≡ true) p i));
}

pub grows-put : (σ : Store) (o : ℕ) (x y : Object) → lookup σ o ≡ Some x → Lasts σ (put σ o y) o x y → Grows σ (put σ o y)
unfolding put
grows-put σ o x y e l = record { lasts = λ b z f. go b z f (eqb o b) refl; named = λ b z f. refl; added = λ b w f g _. absurd (none-new b w f g (eqb o b) refl) }
  where
    go : (b : ℕ) (z : Object) → lookup σ b ≡ Some z → (t : Bool) → eqb o b ≡ t → (w : Object) × (lookup (put σ o y) b ≡ Some w) × Lasts σ (put σ o y) b z w
    go b z f true h =
        let p : o ≡ b = eqb-true o b h in
        let q : x ≡ z = cc in (
          y,
          subst (λ (n : ℕ). lookup (put σ o y) n ≡ Some y) p (lookup-put σ o x y e),
          subst (λ (n : ℕ). Lasts σ (put σ o y) n z y) p (subst (λ (u : Object). Lasts σ (put σ o y) o u y) q l),
        )
    go b z f false h = (z, lookup-put-other σ o b y h ∙ f, lasts-same σ (put σ o y) b z (λ k. own_put σ o y b k))

    none-new : (b : ℕ) (w : Object) → lookup σ b ≡ None → lookup (put σ o y) b ≡ Some w → (t : Bool) → eqb o b ≡ t → ⊥
    none-new b w f g true h = let p : o ≡ b = eqb-true o b h in false≢true cc
    none-new b w f g false h = let q : lookup (put σ o y) b ≡ None = lookup-put-other σ o b y h ∙ f in false≢true cc

-- an ordinary object has another prototype or is no longer extensible
grows-object : (σ : Store) (o : ℕ) (r s : OrdinaryObject) → lookup σ o ≡ Some (Ordinary r)
    → (r.extensible ≡ false → s.extensible ≡ false) → (r.extensible ≡ false → s.prototype ≡ r.prototype) → Grows σ (put σ o (Ordinary s))
grows-object σ o r s e shut rooted = grows-put σ o (Ordinary r) (Ordinary s) e (ordinaries (record {
  frozen = λ k v h. rw (own_put σ o (Ordinary s) o k) h;
  shut = shut;
  rooted = rooted;
  lacking = λ _ k h. rw (own_put σ o (Ordinary s) o k) h;
}))

-- the property k of o changes, and no other
grows_at : (σ τ : Store) (o : ℕ) (k : PropertyKey) (r : OrdinaryObject) (d : Option Property) → lookup σ o ≡ Some (Ordinary r)
    → ((b : ℕ) → lookup τ b ≡ lookup σ b) → ((b : ℕ) (l : PropertyKey) → own τ b l ≡ cond (same_place o k b l) d (own σ b l))
    → ((v : Value) → frozen_as v (own σ o k) ≡ true → frozen_as v d ≡ true)
    → (r.extensible ≡ false → is_absent (own σ o k) ≡ true → is_absent d ≡ true) → τ.callable ≡ σ.callable → Grows σ τ
grows_at σ τ o k r d e objects properties keeps lacks marks = record { lasts = λ b x f. (x, objects b ∙ f, go b x f); named = λ b x f. ap (λ (m : ℕ). bit m b) marks; added = λ b y f g _. let q : lookup τ b ≡ None = objects b ∙ f in absurd (false≢true cc) }
  where
    kept : (b : ℕ) (l : PropertyKey) (v : Value) → frozen_as v (own σ b l) ≡ true → (t : Bool) → same_place o k b l ≡ t → frozen_as v (cond t d (own σ b l)) ≡ true
    kept b l v h true q = let (m, n) = place-eq o k b l q in keeps v (rw (m, n) h)
    kept b l v h false q = h

    lacked : (b : ℕ) (s : OrdinaryObject) → lookup σ b ≡ Some (Ordinary s) → s.extensible ≡ false → (l : PropertyKey) → is_absent (own σ b l) ≡ true
        → (t : Bool) → same_place o k b l ≡ t → is_absent (cond t d (own σ b l)) ≡ true
    lacked b s f x l h true q =
        let (m, n) = place-eq o k b l q in
        let same : r ≡ s = cc in
        lacks (rw same x) (rw (m, n) h)
    lacked b s f x l h false q = h

    go : (b : ℕ) (x : Object) → lookup σ b ≡ Some x → Lasts σ τ b x x
    go b (Proxy p) f = proxies refl (λ h. h)
    go b (Ordinary s) f = ordinaries (record {
      frozen = λ l v h. rw (properties b l) (kept b l v h _ refl);
      shut = λ h. h;
      rooted = λ h. refl;
      lacking = λ x l h. rw (properties b l) (lacked b s f x l h _ refl);
    })

grows-with : (σ : Store) (o : ℕ) (r : OrdinaryObject) (k : PropertyKey) (p : Property) → lookup σ o ≡ Some (Ordinary r)
    → ((v : Value) → frozen_as v (own σ o k) ≡ true → frozen_as v (Some p) ≡ true)
    → (r.extensible ≡ false → is_absent (own σ o k) ≡ true → ⊥) → Grows σ (with_property σ o k p)
unfolding with_property
grows-with σ o r k p e keeps there = grows_at σ (with_property σ o k p) o k r (Some p) e (lookup-with σ o k p) (own-with σ o k p) keeps (λ x a. absurd (there x a)) refl

grows-without : (σ : Store) (o : ℕ) (r : OrdinaryObject) (k : PropertyKey) → lookup σ o ≡ Some (Ordinary r)
    → ((v : Value) → frozen_as v (own σ o k) ≡ false) → Grows σ (without_property σ o k)
unfolding without_property
grows-without σ o r k e loose =
    grows_at σ (without_property σ o k) o k r None e (lookup-without σ o k) (own-without σ o k) (λ v h. absurd (false≢true (sym (loose v) ∙ h))) (λ _ _. refl) refl

-- Where no number is taken or released ----------------------------------------------------

pub record Remains (σ τ : Store) : Type 0 where
  pub grows : Grows σ τ
  pub numbers : SameNumbers σ τ
  pub distinct : Distinct σ.properties → Distinct τ.properties

pub remains-refl : (σ : Store) → Remains σ σ
remains-refl σ = record { grows = grows-refl σ; numbers = same_refl σ; distinct = λ d. d }

pub remains-trans : {σ τ υ : Store} → Remains σ τ → Remains τ υ → Remains σ υ
remains-trans f g = record { grows = grows-trans f.grows g.grows; numbers = same-trans f.numbers g.numbers; distinct = λ d. g.distinct (f.distinct d) }

-- a proxy is revoked, or has other traps
pub remains-proxy : (σ : Store) (o : ℕ) (p q : ProxyObject) → lookup σ o ≡ Some (Proxy p) → q.target ≡ p.target → (q.revoked ≡ false → p.revoked ≡ false) → Remains σ (put σ o (Proxy q))
unfolding put
remains-proxy σ o p q e h k = record { grows = grows-put σ o (Proxy p) (Proxy q) e (proxies h k); numbers = same-put σ o (Proxy p) (Proxy q) e; distinct = λ d. d }

pub remains-object : (σ : Store) (o : ℕ) (r s : OrdinaryObject) → lookup σ o ≡ Some (Ordinary r)
    → (r.extensible ≡ false → s.extensible ≡ false) → (r.extensible ≡ false → s.prototype ≡ r.prototype) → Remains σ (put σ o (Ordinary s))
unfolding put
remains-object σ o r s e shut rooted = record { grows = grows-object σ o r s e shut rooted; numbers = same-put σ o (Ordinary r) (Ordinary s) e; distinct = λ d. d }

pub remains-with : (σ : Store) (o : ℕ) (r : OrdinaryObject) (k : PropertyKey) (p : Property) → lookup σ o ≡ Some (Ordinary r)
    → ((v : Value) → frozen_as v (own σ o k) ≡ true → frozen_as v (Some p) ≡ true)
    → (r.extensible ≡ false → is_absent (own σ o k) ≡ true → ⊥) → Remains σ (with_property σ o k p)
unfolding with_property
remains-with σ o r k p e keeps there = record { grows = grows-with σ o r k p e keeps there; numbers = same-properties σ _; distinct = distinct-insert σ.properties o k p }

pub remains-without : (σ : Store) (o : ℕ) (r : OrdinaryObject) (k : PropertyKey) → lookup σ o ≡ Some (Ordinary r)
    → ((v : Value) → frozen_as v (own σ o k) ≡ false) → Remains σ (without_property σ o k)
unfolding without_property
remains-without σ o r k e loose = record { grows = grows-without σ o r k e loose; numbers = same-properties σ _; distinct = distinct_remove σ.properties o k }

-- a proxy stays over its target
pub through-later : {σ τ : Store} {o : ℕ} {p : ProxyObject} {P : ℕ → OrdinaryObject → Type 0} → Grows σ τ → Active σ o p → OnBase τ p.target P → OnBase τ o P
through-later {σ} {τ} {o} {p} {P} g e u = let (y, f, l) = g.lasts o (Proxy p) e.found in go y f l
  where
    go : (y : Object) → lookup τ o ≡ Some y → Lasts σ τ o (Proxy p) y → OnBase τ o P
    go (Ordinary _) f x3 = elim x3 [ ]
    go (Proxy q) f (proxies l k) = on-proxy f (rw l u)

-- Facts about the base ------------------------------------------------------------------

-- the base that o has it had before, and lasts
pub record Held (σ τ : Store) (o : ℕ) : Type 0 where
  pub back : {b : ℕ} {s : OrdinaryObject} → Base τ o b s → (r : OrdinaryObject) × Base σ o b r × Later σ τ b r s

-- and o is there still
pub record Carried (σ τ : Store) (o : ℕ) : Type 0 where
  pub live : Made τ o
  pub named : is_function τ o ≡ is_function σ o
  pub held : Held σ τ o

later_same : (σ : Store) (b : ℕ) (s : OrdinaryObject) → Later σ σ b s s
later_same σ b s = record { frozen = λ k v h. h; shut = λ h. h; rooted = λ h. refl; lacking = λ h k g. g }

pub carried_same : (σ : Store) (o : ℕ) → Made σ o → Carried σ σ o
carried_same σ o m = record { live = m; named = refl; held = record { back = λ {b} {s} h. (s, h, later_same σ b s) } }

pub carried-trans : {σ τ υ : Store} {o : ℕ} → Carried σ τ o → Carried τ υ o → Carried σ υ o
carried-trans f g = record {
  live = g.live;
  named = g.named ∙ f.named;
  held = record {
    back = λ h.
        let (s, i, m) = g.held.back h in
        let (r, j, l) = f.held.back i in
        (r, j, later_trans l m);
  };
}

-- the proxy that a proxy was
record WasActive (σ : Store) (o : ℕ) (q : ProxyObject) : Type 0 where
  before : ProxyObject
  active : Active σ o before
  target : q.target ≡ before.target

module _ {σ τ : Store} (g : Grows σ τ) where
  lasts_as : (o : ℕ) (x y : Object) → lookup σ o ≡ Some x → lookup τ o ≡ Some y → Lasts σ τ o x y
  lasts_as o x y e f =
      let (z, h, l) = g.lasts o x e in
      let p : z ≡ y = cc in
      subst (λ (w : Object). Lasts σ τ o x w) p l

  was-ordinary : {o : ℕ} {s : OrdinaryObject} (x : Object) → lookup σ o ≡ Some x → Lasts σ τ o x (Ordinary s) → (r : OrdinaryObject) × Base σ o o r × Later σ τ o r s
  was-ordinary {o = o} {s = s} (Proxy _) e x4 = elim x4 [ ]
  was-ordinary (Ordinary r) e (ordinaries l) = (r, here e, l)

  was-active : {o : ℕ} {q : ProxyObject} (x : Object) → lookup σ o ≡ Some x → q.revoked ≡ false → Lasts σ τ o x (Proxy q) → WasActive σ o q
  was-active {o = o} {q = q} (Ordinary _) e h x5 = elim x5 [ ]
  was-active (Proxy p) e h (proxies l k) = record { before = p; active = record { found = e; unrevoked = k h }; target = l }

  -- where objects last, and name objects that are live
  module _ (closed : Closed σ) where
    base-before : {o b : ℕ} {s : OrdinaryObject} → Made σ o → Base τ o b s → (r : OrdinaryObject) × Base σ o b r × Later σ τ b r s
    base-before (x, e) (here {o = o} {r = s} f) = was-ordinary x e (lasts_as o x (Ordinary s) e f)
    base-before (x, e) (over {o = o} {b = b} {p = q} a c) =
        let w = was-active x e a.unrevoked (lasts_as o x (Proxy q) e a.found) in
        let m = closed.proxy o w.before w.active.found w.active.unrevoked in
        let (r, i, l) = base-before (subst (λ (n : ℕ). Made σ n) (sym w.target) m) c in
        (r, over w.active (subst (λ (n : ℕ). Base σ n b r) w.target i), l)

    pub carried-grows : {o : ℕ} → Made σ o → Carried σ τ o
    carried-grows {o} (x, e) = record { live = let (y, f, l) = g.lasts o x e in (y, f); named = g.named o x e; held = record { back = λ h. base-before (x, e) h } }

  -- where the same objects are live
  module _ (numbers : SameNumbers σ τ) where
    was-live : (o : ℕ) (y : Object) → lookup τ o ≡ Some y → Made σ o
    was-live o y e = go (lookup σ o) refl
      where
        go : (x : Option Object) → lookup σ o ≡ x → Made σ o
        go None f = absurd (true≢false (sym (ap is_live e) ∙ (same_live numbers o ∙ ap is_live f)))
        go (Some x) f = (x, f)

    base-was : {o b : ℕ} {s : OrdinaryObject} → Base τ o b s → (r : OrdinaryObject) × Base σ o b r × Later σ τ b r s
    base-was (here {o = o} {r = s} f) = let (x, e) = was-live o (Ordinary s) f in was-ordinary x e (lasts_as o x (Ordinary s) e f)
    base-was (over {o = o} {b = b} {p = q} a c) =
        let (x, e) = was-live o (Proxy q) a.found in
        let w = was-active x e a.unrevoked (lasts_as o x (Proxy q) e a.found) in
        let (r, i, l) = base-was c in
        (r, over w.active (subst (λ (n : ℕ). Base σ n b r) w.target i), l)

pub held-remains : {σ τ : Store} {o : ℕ} → Remains σ τ → Held σ τ o
held-remains h = record { back = λ b. base-was h.grows h.numbers b }

-- where another object is released
base-left : (σ : Store) (q : ℕ) {o b : ℕ} {s : OrdinaryObject} → Base (release σ q) o b s → Base σ o b s × (eqb q b ≡ false)
base-left σ q (here {o = o} {r = s} f) = let (n, e) = lookup-left σ q o (Ordinary s) f in (here e, n)
base-left σ q (over {o = o} {p = p} a c) =
    let (n, e) = lookup-left σ q o (Proxy p) a.found in
    let (i, m) = base-left σ q c in
    (over (record { found = e; unrevoked = a.unrevoked }) i, m)

pub carried-released : (σ : Store) (q o : ℕ) → eqb q o ≡ false → Made σ o → Carried σ (release σ q) o
unfolding release
carried-released σ q o n (x, e) = record {
  live = (x, lookup-released-other σ q o n ∙ e);
  named = refl;
  held = record { back = λ {b} {s} h. let (i, m) = base-left σ q h in (s, i, same b s m) };
}
  where
    same : (b : ℕ) (s : OrdinaryObject) → eqb q b ≡ false → Later σ (release σ q) b s s
    same b s m = record {
      frozen = λ k v h. rw (own-released-other σ q b k m) h;
      shut = λ h. h;
      rooted = λ h. refl;
      lacking = λ h k g. rw (own-released-other σ q b k m) g;
    }

-- what lasts of an object is so of the base later
on-lasts : {σ τ : Store} {o : ℕ} {P Q : ℕ → OrdinaryObject → Type 0} → Held σ τ o → OnBase σ o P
    → ((b : ℕ) (r s : OrdinaryObject) → Later σ τ b r s → P b r → Q b s) → OnBase τ o Q
on-lasts c h f = record { at = λ {b} {r} i. let (q, j, l) = c.back i in f b q r l (h.at j) }

pub frozen-lasts : {σ τ : Store} {o : ℕ} (k : PropertyKey) (v : Value) → Held σ τ o → Frozen σ o k v → Frozen τ o k v
frozen-lasts k v g h = on-lasts g h (λ b r s l f. l.frozen k v f)

pub shut-lasts : {σ τ : Store} {o : ℕ} → Held σ τ o → Shut σ o → Shut τ o
shut-lasts g h = on-lasts g h (λ b r s l f. l.shut f)

pub rooted-lasts : {σ τ : Store} {o : ℕ} (v : Value) → Held σ τ o → Rooted σ o v → Rooted τ o v
rooted-lasts v g h = on-lasts g h (λ b r s l f. (l.shut f.0, rw (l.rooted f.0) f.1))

pub lacking-lasts : {σ τ : Store} {o : ℕ} (k : PropertyKey) → Held σ τ o → Lacking σ o k → Lacking τ o k
lacking-lasts k g h = on-lasts g h (λ b r s l f. (l.shut f.0, l.lacking f.0 k f.1))
