-- Chains of prototypes end, no method makes one that does not, and a chain is no longer than the list of objects. Assumes nothing.
use Rattle.std.specs.Prelude.{Option, None, Some}
use Prim.Native.Nat.{ℕ, zero, suc, ◌≤◌, ◌<◌, zero-le, suc-le-suc}
use native.Mathlib.Nat.{le_refl, le-suc, le_trans, le_of_suc-le-suc, not-suc-le-zero, not-le_of_lt}
use mathlib.Core.Path.{◌≡◌, refl, sym, ap, ◌∙◌, subst}
use mathlib.Core.Bool.{Bool, true, false, not, ◌||◌, cond, false≢true}
use mathlib.Core.List.{List, [], ◌∷◌}
use lib.Dec.{eqb}
use lib.ListN.{length, get_or, set}
use borrow.Author.Tests.{eqb-true, eqb-false, ne_eqb}
use Rattle.value.specs.declared.Value.{Value}
use Rattle.value.specs.declared.PropertyKey.{PropertyKey}
use Rattle.value.specs.Value.{object_of, same_value}
use Rattle.value.proofs.Bools.{or-false}
use Rattle.property.specs.declared.PropertyDescriptor.{PropertyDescriptor}
use Rattle.property.specs.declared.Property.{Property}
use Rattle.property.specs.declared.Property.TheVariants.{Data, Accessor}
use Rattle.property.specs.declared.Validation.{Validation}
use Rattle.property.specs.declared.Validation.TheVariants.{Rejected, Unchanged, Becomes}
use Rattle.store.specs.declared.OrdinaryObject.{OrdinaryObject}
use Rattle.store.specs.declared.ProxyObject.{ProxyObject}
use Rattle.store.specs.declared.Object.{Object}
use Rattle.store.specs.declared.Object.TheVariants.{Ordinary, Proxy}
use Rattle.store.specs.Store.{Store, lookup, put, add, with_property, without_property}
use Rattle.store.specs.Release.{is_named, release}
use Rattle.store.proofs.StoreLaws.{Fresh, lookup-put, lookup-put-other, lookup-add}
use Rattle.store.proofs.ReleaseLaws.{lookup-released-other, lookup-left, unnamed-prototype}
use Rattle.internal_methods.specs.Methods.{Context, Written}
use Rattle.internal_methods.specs.Ordinary.{reaches, with_prototype, ordinary_set_prototype_of, apply_validation, ordinary_define_own_property, set_on_receiver, set_data, ordinary_set, ordinary_delete}
use Rattle.internal_methods.specs.Proxy.{proxy_set_prototype_of, proxy_prevent_extensions, proxy_define_own_property, proxy_set, proxy_delete}
use Rattle.internal_methods.specs.Internal.{methods}
use Rattle.internal_methods.proofs.Ensures.{Ensures, ensures-pure, ensures-fails, ensures-if, ensures-throw_if, ensures-then, ensures-option, ensures-dispatch}
use Rattle.internal_methods.proofs.StoreClosed.{Made, MadeValue, MadeObject, add-cases}

-- the chain from v has n ordinary objects, and then ends in a proxy or a value that is no object
pub data Chain (σ : Store) : ℕ → Value → Type 0 where
  value : {v : Value} → object_of v ≡ None → Chain σ 0 v
  proxy : {v : Value} {q : ℕ} {p : ProxyObject} → object_of v ≡ Some q → lookup σ q ≡ Some (Proxy p) → Chain σ 0 v
  ordinary : {n : ℕ} {v : Value} {q : ℕ} {r : OrdinaryObject} → object_of v ≡ Some q → lookup σ q ≡ Some (Ordinary r) → Chain σ n r.prototype → Chain σ (suc n) v

-- from each value that is made
pub record Ends (σ : Store) : Type 0 where
  pub chain : (v : Value) → MadeValue σ v → (n : ℕ) × Chain σ n v

-- a chain has one length
chain-unique : {σ : Store} {m n : ℕ} {u v : Value} → Chain σ m u → Chain σ n v → object_of u ≡ object_of v → m ≡ n
chain-unique (value e) (value f) h = refl
chain-unique (value e) (proxy f g) h = refl
chain-unique (value e) (ordinary f g d) h = absurd (false≢true cc)
chain-unique (proxy e l) (value f) h = refl
chain-unique (proxy e l) (proxy f g) h = refl
chain-unique (proxy {q = a} e l) (ordinary {q = b} f g d) h = let s : a ≡ b = cc in absurd (false≢true cc)
chain-unique (ordinary e l c) (value f) h = absurd (false≢true cc)
chain-unique (ordinary {q = a} e l c) (proxy {q = b} f g) h = let s : a ≡ b = cc in absurd (false≢true cc)
chain-unique (ordinary {q = a} {r = r} e l c) (ordinary {q = b} {r = s} f g d) h =
    let p : a ≡ b = cc in
    let q : r ≡ s = cc in
    ap suc (chain-unique c d (ap (λ (x : OrdinaryObject). object_of x.prototype) q))

-- The number of ordinary objects ------------------------------------------------------

abbrev ordinaries : List (Option Object) → ℕ
ordinaries [] = 0
ordinaries (None ∷ os) = ordinaries os
ordinaries (Some (Ordinary r) ∷ os) = suc (ordinaries os)
ordinaries (Some (Proxy p) ∷ os) = ordinaries os

ordinaries-all : (os : List (Option Object)) → ordinaries os ≤ length os
ordinaries-all [] = zero-le
ordinaries-all (None ∷ os) = le_trans (ordinaries-all os) (le-suc _)
ordinaries-all (Some (Ordinary r) ∷ os) = suc-le-suc (ordinaries-all os)
ordinaries-all (Some (Proxy p) ∷ os) = le_trans (ordinaries-all os) (le-suc _)

-- a proxy is none of them
ordinaries-fewer : (os : List (Option Object)) (q : ℕ) (p : ProxyObject) → get_or os q None ≡ Some (Proxy p) → ordinaries os < length os
ordinaries-fewer [] q p e = absurd (false≢true cc)
ordinaries-fewer (None ∷ os) zero p e = absurd (false≢true cc)
ordinaries-fewer (None ∷ os) (suc q) p e = le_trans (ordinaries-fewer os q p e) (le-suc _)
ordinaries-fewer (Some (Ordinary r) ∷ os) zero p e = absurd (false≢true cc)
ordinaries-fewer (Some (Ordinary r) ∷ os) (suc q) p e = suc-le-suc (ordinaries-fewer os q p e)
ordinaries-fewer (Some (Proxy s) ∷ os) zero p e = suc-le-suc (ordinaries-all os)
ordinaries-fewer (Some (Proxy s) ∷ os) (suc q) p e = le_trans (ordinaries-fewer os q p e) (le-suc _)

-- one fewer, where a proxy takes its place
ordinaries-set : (os : List (Option Object)) (q : ℕ) (r : OrdinaryObject) (p : ProxyObject) → get_or os q None ≡ Some (Ordinary r) → ordinaries os ≡ suc (ordinaries (set os q (Some (Proxy p))))
ordinaries-set [] q r p e = absurd (false≢true cc)
ordinaries-set (None ∷ os) zero r p e = absurd (false≢true cc)
ordinaries-set (None ∷ os) (suc q) r p e = ordinaries-set os q r p e
ordinaries-set (Some (Ordinary s) ∷ os) zero r p e = refl
ordinaries-set (Some (Ordinary s) ∷ os) (suc q) r p e = ap suc (ordinaries-set os q r p e)
ordinaries-set (Some (Proxy s) ∷ os) zero r p e = absurd (false≢true cc)
ordinaries-set (Some (Proxy s) ∷ os) (suc q) r p e = ordinaries-set os q r p e

-- A chain is no longer than that -------------------------------------------------------

-- q is another object than o, or C
apart : {C : Type 0} (o q : ℕ) → (o ≡ q → C) → (eqb o q ≡ false → C) → C
apart {C} o q f g = go (eqb o q) refl
  where
    go : (b : Bool) → eqb o q ≡ b → C
    go true e = f (eqb-true o q e)
    go false e = g e

-- an object with a longer chain is not on it, and may change
chain-without : {σ : Store} {m n : ℕ} {u v : Value} (o : ℕ) (x : Object) → object_of u ≡ Some o → Chain σ n u → Chain σ m v → m < n → Chain (put σ o x) m v
chain-without o x h d (value e) l = value e
chain-without {σ} {m} {n} {u} {v} o x h d (proxy {q = q} {p = p} e f) l = apart o q
    (λ (s : o ≡ q). let k : m ≡ n = chain-unique {u = v} {v = u} (proxy {p = p} e f) d cc in absurd (not-le_of_lt l (rw k (le_refl _))))
    (λ s. proxy e (lookup-put-other σ o q x s ∙ f))
chain-without {σ} {m} {n} {u} {v} o x h d (ordinary {q = q} {r = r} e f c) l = apart o q
    (λ (s : o ≡ q). let k : m ≡ n = chain-unique {u = v} {v = u} (ordinary {r = r} e f c) d cc in absurd (not-le_of_lt l (rw k (le_refl _))))
    (λ s. ordinary e (lookup-put-other σ o q x s ∙ f) (chain-without o x h d c (le_trans (le-suc _) l)))

abbrev shadow : ProxyObject
shadow = record { target = 0; traps = 0; revoked = true }

-- each object passed is taken away, and the rest of the chain stays
chain-within : (n : ℕ) (σ : Store) (v : Value) → Chain σ n v → n ≤ ordinaries σ.objects
unfolding lookup put
chain-within zero σ v c = zero-le
chain-within (suc n) σ v (ordinary {q = q} {r = r} e f c) =
    rw (ordinaries-set σ.objects q r shadow f)
    (suc-le-suc (chain-within n (put σ q (Proxy shadow)) r.prototype (chain-without {u = v} q (Proxy shadow) e (ordinary {r = r} e f c) c (le_refl _))))

-- The walk of 10.1.2.1 step 7 -----------------------------------------------------------

-- a walk of n members goes through a chain of m ordinary objects, and through a proxy at its end
record Covers (σ : Store) (m n : ℕ) : Type 0 where
  through : m ≤ n
  past : (q : ℕ) (p : ProxyObject) → lookup σ q ≡ Some (Proxy p) → m < n

covers : {σ : Store} {m n : ℕ} {v : Value} → Chain σ m v → length σ.objects ≤ n → Covers σ m n
unfolding lookup
covers {σ} {m} {n} {v} c l =
    let w = chain-within m σ v c in
    record {
      through = le_trans w (le_trans (ordinaries-all σ.objects) l);
      past = λ q p e. le_trans (suc-le-suc w) (le_trans (ordinaries-fewer σ.objects q p e) l);
    }

covers-rest : {σ : Store} {m n : ℕ} → Covers σ (suc m) (suc n) → Covers σ m n
covers-rest h = record { through = le_of_suc-le-suc h.through; past = λ q p e. le_of_suc-le-suc (h.past q p e) }

reaches-none : (n : ℕ) (σ : Store) (o : ℕ) (v : Value) → object_of v ≡ None → reaches n σ o v ≡ false
unfolding reaches
reaches-none zero σ o v e = refl
reaches-none (suc n) σ o v e = rw (e, reaches)

module _ (n : ℕ) (σ : Store) (o : ℕ) (v : Value) (q : ℕ) (e : object_of v ≡ Some q) where
  -- what a walk that came to an object finds: whether it is o, and what the object is
  abbrev found : Bool → Option Object → Bool
  found b x = elim b [
    | true ↦ true
    | false ↦ elim x [
      | None ↦ false
      | Some (Proxy p) ↦ false
      | Some (Ordinary r) ↦ reaches n σ o r.prototype
    ]
  ]

  reaches-found : reaches (suc n) σ o v ≡ found (eqb q o) (lookup σ q)
  unfolding reaches
  reaches-found = rw (e, reaches)

  reaches-proxy : (p : ProxyObject) → lookup σ q ≡ Some (Proxy p) → reaches (suc n) σ o v ≡ eqb q o
  reaches-proxy p f = reaches-found ∙ (ap (found (eqb q o)) f ∙ go (eqb q o))
    where
      go : (b : Bool) → found b (Some (Proxy p)) ≡ b
      go true = refl
      go false = refl

  reaches-ordinary : (r : OrdinaryObject) → lookup σ q ≡ Some (Ordinary r) → reaches (suc n) σ o v ≡ (eqb q o || reaches n σ o r.prototype)
  reaches-ordinary r f = reaches-found ∙ (ap (found (eqb q o)) f ∙ go (eqb q o))
    where
      go : (b : Bool) → found b (Some (Ordinary r)) ≡ (b || reaches n σ o r.prototype)
      go true = refl
      go false = refl

-- two walks that cover the chain agree
walks-agree : {σ : Store} {m : ℕ} {v : Value} (o a b : ℕ) → Chain σ m v → Covers σ m a → Covers σ m b → reaches a σ o v ≡ reaches b σ o v
walks-agree {σ} {m} {v} o a b (value e) h k = reaches-none a σ o v e ∙ sym (reaches-none b σ o v e)
walks-agree o zero b (proxy {q = q} {p = p} e f) h k = absurd (not-suc-le-zero (h.past q p f))
walks-agree o (suc a) zero (proxy {q = q} {p = p} e f) h k = absurd (not-suc-le-zero (k.past q p f))
walks-agree {σ} {m} {v} o (suc a) (suc b) (proxy {q = q} {p = p} e f) h k = reaches-proxy a σ o v q e p f ∙ sym (reaches-proxy b σ o v q e p f)
walks-agree o zero b (ordinary e f c) h k = absurd (not-suc-le-zero h.through)
walks-agree o (suc a) zero (ordinary e f c) h k = absurd (not-suc-le-zero k.through)
walks-agree {σ} {m} {v} o (suc a) (suc b) (ordinary {q = q} {r = r} e f c) h k =
    reaches-ordinary a σ o v q e r f
    ∙ (ap (λ (x : Bool). eqb q o || x) (walks-agree o a b c (covers-rest h) (covers-rest k)) ∙ sym (reaches-ordinary b σ o v q e r f))

-- however much longer the walk may be, it leads to o or not as a walk of as many members as there are objects
pub walk-enough : (σ : Store) → Ends σ → (o : ℕ) (v : Value) → MadeValue σ v → (n : ℕ) → length σ.objects ≤ n → reaches n σ o v ≡ reaches (length σ.objects) σ o v
walk-enough σ h o v m n l = let (k, c) = h.chain v m in walks-agree o n (length σ.objects) c (covers c l) (covers c (le_refl _))

-- a walk that covers the chain and does not lead to o: o is not on it, and may change
chain-missed : {σ : Store} {m : ℕ} {v : Value} (o n : ℕ) (r : OrdinaryObject) (x : Object) → lookup σ o ≡ Some (Ordinary r) → Chain σ m v → m ≤ n → reaches n σ o v ≡ false → Chain (put σ o x) m v
chain-missed o n r x h (value e) l k = value e
chain-missed {σ} o n r x h (proxy {q = q} e f) l k = apart o q (λ (s : o ≡ q). absurd (false≢true cc)) (λ s. proxy e (lookup-put-other σ o q x s ∙ f))
chain-missed o zero r x h (ordinary e f c) l k = absurd (not-suc-le-zero l)
chain-missed {σ} {m} {v} o (suc n) r x h (ordinary {q = q} {r = t} e f c) l k =
    let (other, rest) = or-false _ _ (sym (reaches-ordinary n σ o v q e t f) ∙ k) in
    ordinary e (lookup-put-other σ o q x (ne_eqb o q (λ s. eqb-false q o other (sym s))) ∙ f) (chain-missed o n r x h c (le_of_suc-le-suc l) rest)

-- The stores that methods leave ---------------------------------------------------------

-- the same kind of object, with the same prototype
pub data Alike : Object → Object → Type 0 where
  ordinaries-alike : {r s : OrdinaryObject} → s.prototype ≡ r.prototype → Alike (Ordinary r) (Ordinary s)
  proxies-alike : {p q : ProxyObject} → Alike (Proxy p) (Proxy q)

alike_refl : (x : Object) → Alike x x
alike_refl (Ordinary r) = ordinaries-alike refl
alike_refl (Proxy p) = proxies-alike

-- every object stays alike
record Keeps (σ τ : Store) : Type 0 where
  keeps : (o : ℕ) (x : Object) → lookup σ o ≡ Some x → (y : Object) × (lookup τ o ≡ Some y) × Alike x y

chain-kept : {σ τ : Store} {n : ℕ} {v : Value} → Keeps σ τ → Chain σ n v → Chain τ n v
chain-kept h (value e) = value e
chain-kept {σ} {τ} h (proxy {v = v} {q = q} {p = p} e f) = let (y, g, a) = h.keeps q (Proxy p) f in go y g a
  where
    go : (y : Object) → lookup τ q ≡ Some y → Alike (Proxy p) y → Chain τ 0 v
    go (Ordinary _) g x5 = elim x5 [ ]
    go (Proxy s) g proxies-alike = proxy e g
chain-kept {σ} {τ} h (ordinary {n = n} {v = v} {q = q} {r = r} e f c) = let (y, g, a) = h.keeps q (Ordinary r) f in go y g a (chain-kept h c)
  where
    go : (y : Object) → lookup τ q ≡ Some y → Alike (Ordinary r) y → Chain τ n r.prototype → Chain τ (suc n) v
    go (Proxy _) g x6 d = elim x6 [ ]
    go (Ordinary s) g (ordinaries-alike b) d = ordinary {n = n} e g (rw b d)

made-before : {σ τ : Store} {v : Value} → ((o : ℕ) → Made τ o → Made σ o) → MadeValue τ v → MadeValue σ v
made-before f m = record { made = λ o e. f o (m.made o e) }

put-before : (σ : Store) (o : ℕ) (x y : Object) → lookup σ o ≡ Some x → (q : ℕ) → Made (put σ o y) q → Made σ q
put-before σ o x y e q (z, f) = apart o q (λ s. (x, rw s at e)) (λ s. (z, sym (lookup-put-other σ o q y s) ∙ f))

put-there : (σ : Store) (o q : ℕ) (x y : Object) → lookup σ o ≡ Some x → o ≡ q → lookup (put σ o y) q ≡ Some y
put-there σ o q x y e s = subst (λ (b : ℕ). lookup (put σ o y) b ≡ Some y) s (lookup-put σ o x y e)

-- an object is put in the place of one alike
pub ends-put : (σ : Store) (o : ℕ) (x y : Object) → lookup σ o ≡ Some x → Alike x y → Ends σ → Ends (put σ o y)
ends-put σ o x y e a h = record {
  chain = λ v m.
      let (n, c) = h.chain v (made-before (put-before σ o x y e) m) in (
        n,
        chain-kept (record {
          keeps = λ q z f. apart o q
              (λ (s : o ≡ q). let p : x ≡ z = cc in (y, put-there σ o q x y e s, rw p at a))
              (λ s. (z, lookup-put-other σ o q y s ∙ f, alike_refl z));
        }) c,
      );
}

ends_with : (σ : Store) (o : ℕ) (k : PropertyKey) (p : Property) → Ends σ → Ends (with_property σ o k p)
unfolding lookup with_property
ends_with σ o k p h = record {
  chain = λ v m.
      let (n, c) = h.chain v (made-before (λ q f. f) m) in
      (n, chain-kept (record { keeps = λ q x f. (x, f, alike_refl x) }) c);
}

ends-without : (σ : Store) (o : ℕ) (k : PropertyKey) → Ends σ → Ends (without_property σ o k)
unfolding lookup without_property
ends-without σ o k h = record {
  chain = λ v m.
      let (n, c) = h.chain v (made-before (λ q f. f) m) in
      (n, chain-kept (record { keeps = λ q x f. (x, f, alike_refl x) }) c);
}

-- a new object's chain goes on through one that ended before
pub ends-add : (σ : Store) → Fresh σ → (x : Object) (b : Bool) → MadeObject σ x → Ends σ → Ends (add σ x b)
ends-add σ fresh x b mx h = record { chain = λ v m. from v m (object_of v) refl }
  where
    kept : {n : ℕ} {v : Value} → Chain σ n v → Chain (add σ x b) n v
    kept c = chain-kept (record { keeps = λ q z f. (z, lookup-add σ fresh x b q z f, alike_refl z) }) c

    new : (v : Value) (q : ℕ) → object_of v ≡ Some q → (y : Object) → lookup (add σ x b) q ≡ Some y → MadeObject σ y → (n : ℕ) × Chain (add σ x b) n v
    new v q e (Ordinary r) f m = let (n, c) = h.chain r.prototype m in (suc n, ordinary {r = r} e f (kept c))
    new v q e (Proxy p) f m = (0, proxy {p = p} e f)

    from : (v : Value) → MadeValue (add σ x b) v → (t : Option ℕ) → object_of v ≡ t → (n : ℕ) × Chain (add σ x b) n v
    from v m None e = (0, value e)
    from v m (Some q) e =
        let (y, f) = m.made q e in
        add-cases σ fresh x b q y f
        (λ s. new v q e y f (subst (MadeObject σ) s mx))
        (λ g. let (n, c) = h.chain v (record { made = λ o w. let s : q ≡ o = cc in subst (Made σ) s (y, g) }) in (n, kept c))

-- an object that is not named is on no chain but its own
pub ends-released : (σ : Store) (o : ℕ) → Ends σ → is_named σ o ≡ false → Ends (release σ o)
ends-released σ o h n = record {
  chain = λ v m.
      let (k, c) = h.chain v (record { made = λ q e. let (x, f) = m.made q e in (x, (lookup-left σ o q x f).1) }) in
      (k, left c (λ q e. let (x, f) = m.made q e in (lookup-left σ o q x f).0));
}
  where
    left : {k : ℕ} {v : Value} → Chain σ k v → ((q : ℕ) → object_of v ≡ Some q → eqb o q ≡ false) → Chain (release σ o) k v
    left (value e) other = value e
    left (proxy {q = q} {p = p} e f) other = proxy {p = p} e (lookup-released-other σ o q (other q e) ∙ f)
    left (ordinary {q = q} {r = r} e f c) other = ordinary {r = r} e (lookup-released-other σ o q (other q e) ∙ f) (left c (λ b g. unnamed-prototype σ o q b r n f g))

-- 10.1.2.1 step 8: o is not on the chain that it now goes on with
ends_set : (σ : Store) (o : ℕ) (r : OrdinaryObject) (v : Value) → lookup σ o ≡ Some (Ordinary r) → MadeValue σ v → reaches (length σ.objects) σ o v ≡ false
    → Ends σ → Ends (put σ o (with_prototype r v))
ends_set σ o r v e mv far h = record { chain = λ u m. let (n, c) = h.chain u (made-before (put-before σ o (Ordinary r) _ e) m) in after c }
  where
    onward : (n : ℕ) × Chain (put σ o (with_prototype r v)) n v
    onward = let (n, c) = h.chain v mv in (n, chain-missed o (length σ.objects) r (with_prototype r v) e c (covers c (le_refl _)).through far)

    after : {n : ℕ} {u : Value} → Chain σ n u → (m : ℕ) × Chain (put σ o (with_prototype r v)) m u
    after (value f) = (0, value f)
    after (proxy {q = q} {p = p} f g) = apart o q (λ (s : o ≡ q). absurd (false≢true cc)) (λ s. (0, proxy {p = p} f (lookup-put-other σ o q _ s ∙ g)))
    after (ordinary {q = q} {r = t} f g c) = apart o q
        (λ s. (suc onward.0, ordinary f (put-there σ o q (Ordinary r) (with_prototype r v) e s) onward.1))
        (λ s. let (m, d) = after c in (suc m, ordinary {r = t} f (lookup-put-other σ o q _ s ∙ g) d))

-- The methods that write ------------------------------------------------------------------

abbrev EndsIn : Written → Type 0
EndsIn a = Ends a.1

module _ (c : Context) (h : Ends c.store) where
  ordinary_set_prototype_of-ends : (o : ℕ) (r : OrdinaryObject) (v : Value) → lookup c.store o ≡ Some (Ordinary r) → MadeValue c.store v → EndsIn (ordinary_set_prototype_of c.store o r v)
  unfolding ordinary_set_prototype_of
  ordinary_set_prototype_of-ends o r v e m = go (same_value v r.prototype) (not r.extensible) (reaches (length c.store.objects) c.store o v) refl
    where
      go : (same fixed cyclic : Bool) → reaches (length c.store.objects) c.store o v ≡ cyclic
          → EndsIn (cond same (true, c.store) (cond fixed (false, c.store) (cond cyclic (false, c.store) (true, put c.store o (with_prototype r v)))))
      go true fixed cyclic f = h
      go false true cyclic f = h
      go false false true f = h
      go false false false f = ends_set c.store o r v e m f h

  pub set_prototype_of-ends : (n o : ℕ) (v : Value) → MadeValue c.store v → Ensures ((methods n c).set_prototype_of o v) EndsIn
  unfolding methods proxy_set_prototype_of
  set_prototype_of-ends zero o v m = ensures-fails _
  set_prototype_of-ends (suc n) o v m = ensures-dispatch c.store o
      (λ r e. ensures-pure _ (ordinary_set_prototype_of-ends o r v e m))
      (λ p e. ensures-if _
      (λ _. set_prototype_of-ends n p.target v m)
      (λ _. ensures-then _ λ answer. ensures-if _
      (λ _. ensures-pure _ h)
      (λ _. ensures-then _ λ extensible. ensures-if _
      (λ _. ensures-pure _ h)
      (λ _. ensures-then _ λ prototype. ensures-throw_if _ _ λ _. ensures-pure _ h))))

  pub prevent_extensions-ends : (n o : ℕ) → Ensures ((methods n c).prevent_extensions o) EndsIn
  unfolding methods proxy_prevent_extensions
  prevent_extensions-ends zero o = ensures-fails _
  prevent_extensions-ends (suc n) o = ensures-dispatch c.store o
      (λ r e. ensures-pure _ (ends-put c.store o _ _ e (ordinaries-alike refl) h))
      (λ p e. ensures-if _
      (λ _. prevent_extensions-ends n p.target)
      (λ _. ensures-then _ λ answer. ensures-if _
      (λ _. ensures-pure _ h)
      (λ _. ensures-then _ λ extensible. ensures-throw_if _ _ λ _. ensures-pure _ h)))

  apply_validation-ends : (o : ℕ) (k : PropertyKey) (current : Option Property) (v : Validation) → Ensures (apply_validation c o k current v) EndsIn
  unfolding apply_validation
  apply_validation-ends o k current (Rejected t) = ensures-pure _ h
  apply_validation-ends o k current Unchanged = ensures-pure _ h
  apply_validation-ends o k None (Becomes p) = ensures-if _ (λ _. ensures-fails _) (λ _. ensures-pure _ (ends_with c.store o k p h))
  apply_validation-ends o k (Some q) (Becomes p) = ensures-pure _ (ends_with c.store o k p h)

  pub define_own_property-ends : (n o : ℕ) (k : PropertyKey) (d : PropertyDescriptor) → Ensures ((methods n c).define_own_property o k d) EndsIn
  unfolding methods ordinary_define_own_property proxy_define_own_property
  define_own_property-ends zero o k d = ensures-fails _
  define_own_property-ends (suc n) o k d = ensures-dispatch c.store o
      (λ r e. ensures-then _ λ current. ensures-then _ λ extensible. apply_validation-ends o k current _)
      (λ p e. ensures-if _
      (λ _. define_own_property-ends n p.target k d)
      (λ _. ensures-then _ λ answer. ensures-if _
      (λ _. ensures-pure _ h)
      (λ _. ensures-then _ (elim [
        | None ↦ ensures-then _ λ extensible. ensures-throw_if _ _ λ _. ensures-throw_if _ _ λ _. ensures-pure _ h
        | Some t ↦ ensures-then _ λ extensible. ensures-throw_if _ _ λ _. ensures-throw_if _ _ λ _. ensures-throw_if _ _ λ _. ensures-pure _ h
      ]))))

  set_on_receiver-ends : (n : ℕ) (k : PropertyKey) (v : Value) (o : ℕ) → Ensures (set_on_receiver c (methods n c) k v o) EndsIn
  unfolding set_on_receiver
  set_on_receiver-ends n k v o = ensures-then _ (elim [
    | None ↦ define_own_property-ends n o k _
    | Some (Accessor g s e f) ↦ ensures-pure _ h
    | Some (Data w wr e f) ↦ ensures-if _ (λ _. ensures-pure _ h) (λ _. define_own_property-ends n o k _)
  ])

  set_data-ends : (n : ℕ) (k : PropertyKey) (v : Value) (writable : Bool) (receiver : Value) → Ensures (set_data c (methods n c) k v writable receiver) EndsIn
  unfolding set_data
  set_data-ends n k v writable receiver = ensures-if _
      (λ _. ensures-pure _ h)
      (λ _. ensures-option (object_of receiver) (ensures-pure _ h) (λ q. set_on_receiver-ends n k v q))

  pub set-ends : (n o : ℕ) (k : PropertyKey) (v receiver : Value) → Ensures ((methods n c).set o k v receiver) EndsIn
  unfolding methods ordinary_set proxy_set
  set-ends zero o k v receiver = ensures-fails _
  set-ends (suc n) o k v receiver = ensures-dispatch c.store o
      (λ r e. ensures-then _ (elim [
        | None ↦ ensures-then _ λ parent. ensures-option (object_of parent) (set_data-ends n k v true receiver) (λ q. set-ends n q k v receiver)
        | Some (Data w wr en co) ↦ set_data-ends n k v wr receiver
        | Some (Accessor g s en co) ↦ ensures-if _ (λ _. ensures-pure _ h) (λ _. ensures-then _ λ _. ensures-pure _ h)
      ]))
      (λ p e. ensures-if _
      (λ _. set-ends n p.target k v receiver)
      (λ _. ensures-then _ λ answer. ensures-if _
      (λ _. ensures-pure _ h)
      (λ _. ensures-then _ λ target. ensures-throw_if _ _ λ _. ensures-throw_if _ _ λ _. ensures-pure _ h)))

  pub delete-ends : (n o : ℕ) (k : PropertyKey) → Ensures ((methods n c).delete o k) EndsIn
  unfolding methods ordinary_delete proxy_delete
  delete-ends zero o k = ensures-fails _
  delete-ends (suc n) o k = ensures-dispatch c.store o
      (λ r e. ensures-then _ (elim [
        | None ↦ ensures-pure _ h
        | Some p ↦ ensures-if _ (λ _. ensures-pure _ (ends-without c.store o k h)) (λ _. ensures-pure _ h)
      ]))
      (λ p e. ensures-if _
      (λ _. delete-ends n p.target k)
      (λ _. ensures-then _ λ answer. ensures-if _
      (λ _. ensures-pure _ h)
      (λ _. ensures-then _ (elim [
        | None ↦ ensures-pure _ h
        | Some t ↦ ensures-throw_if _ _ λ _. ensures-then _ λ extensible. ensures-throw_if _ _ λ _. ensures-pure _ h
      ]))))
