-- Refusal 7 of a property: with room for one more the same run is done, and the store has one property more. Assumes nothing.
use Rattle.std.specs.Prelude.{Option, None, Some}
use Prim.Native.Nat.{ℕ, zero, suc, ◌≤◌, suc-le-suc}
use native.Mathlib.Nat.{le_refl}
use native.Mathlib.Omega.{arith}
use mathlib.Core.Path.{◌≡◌, refl, sym, ap, ◌∙◌}
use mathlib.Core.Bool.{Bool, true, false, not, cond, false≢true}
use mathlib.Core.List.{List, [], ◌∷◌}
use lib.Dec.{eqb}
use lib.ListN.{length, length-append}
use borrow.Author.Tests.{lt-ltb}
use Rattle.value.specs.declared.PropertyKey.{PropertyKey}
use Rattle.property.specs.declared.Property.{Property}
use Rattle.property.specs.declared.Validation.{Validation}
use Rattle.property.specs.declared.Validation.TheVariants.{Rejected, Unchanged, Becomes}
use Rattle.store.specs.declared.OrdinaryObject.{OrdinaryObject}
use Rattle.store.specs.declared.ProxyObject.{ProxyObject}
use Rattle.store.specs.declared.Object.{Object}
use Rattle.store.specs.declared.Object.TheVariants.{Ordinary, Proxy}
use Rattle.store.specs.declared.Entry.{Entry}
use Rattle.store.specs.Store.{Store, entry, is_at, lookup, put, find, insert, remove, own, with_property, without_property}
use Rattle.store.proofs.FindLaws.{absent-appended}
use Rattle.store.proofs.ReleaseLaws.{excluding-fewer}
use Rattle.internal_methods.specs.declared.Failure.{Failure}
use Rattle.internal_methods.specs.declared.Failure.TheVariants.{Refused, TypeError, Thrown}
use Rattle.internal_methods.specs.Monad.{Answer, State, Out, M, pure, fails, next, ◌>>=◌, throw_if, answered, ask, counted, tick, when◌then◌else◌, dispatched, dispatch}
use Rattle.internal_methods.specs.Methods.{Context, Written}
use Rattle.internal_methods.specs.Ordinary.{is_full, apply_validation}
use Rattle.internal_methods.specs.Internal.{methods}
use Rattle.internal_methods.proofs.Walk.{Any, allowing, Relation, RelatedMethods, Asking, ask_value-by, ask_boolean-by, ask_prototype-by, ask_descriptor-by, ask_keys-by, methods-by}
use Rattle.internal_methods.proofs.Longer.{any-answer}

-- an allowance with room for one property more
abbrev pub one_more : Context → ℕ
one_more c = suc (length c.store.properties)

abbrev pub is_seven : Failure → Bool
is_seven (Refused n) = eqb n 7
is_seven (TypeError n) = false
is_seven (Thrown v) = false

-- a computation that reads ends alike under both allowances, and not in refusal 7
pub data Alike {A : Type 0} (Q : A → Type 0) : Out A → Out A → Type 0 where
  done : {a : A} {t : State} → Q a → Alike Q (Out.done a t) (Out.done a t)
  failed : {f : Failure} {t : State} → is_seven f ≡ false → Alike Q (Out.failed f t) (Out.failed f t)

pub record Same {A : Type 0} (Q : A → Type 0) (m m' : M A) : Type 0 where
  pub runs : (s : State) → Alike Q (m.run s) (m'.run s)

-- a full store gets no more properties
abbrev pub Bounded : Context → Written → Type 0
Bounded c w = is_full c ≡ true → length w.1.properties ≤ length c.store.properties

-- one that writes ends alike, or in refusal 7, and then is done with room
pub data Room (c : Context) : Out Written → Out Written → Type 0 where
  done : {w : Written} {t : State} → Bounded c w → Room c (Out.done w t) (Out.done w t)
  failed : {f : Failure} {t : State} → is_seven f ≡ false → Room c (Out.failed f t) (Out.failed f t)
  added : {t : State} {τ : Store} → is_full c ≡ true → length τ.properties ≡ suc (length c.store.properties) → Room c (Out.failed (Refused 7) t) (Out.done (true, τ) t)

pub record Roomy (c : Context) (m m' : M Written) : Type 0 where
  pub rooms : (s : State) → Room c (m.run s) (m'.run s)

-- The rules

module _ {A : Type 0} {Q : A → Type 0} where
  pub same-pure : (a : A) → Q a → Same Q (pure a) (pure a)
  unfolding pure
  same-pure a q = record { runs = λ s. done q }

  pub same-fails : (f : Failure) → is_seven f ≡ false → Same Q (fails f) (fails f)
  unfolding fails
  same-fails f h = record { runs = λ s. failed h }

module _ {A : Type 0} {P Q : A → Type 0} where
  pub same-weaken : {m m' : M A} → ((a : A) → P a → Q a) → Same P m m' → Same Q m m'
  same-weaken f h = record { runs = λ s. go (h.runs s) }
    where
      go : {o p : Out A} → Alike P o p → Alike Q o p
      go (done {a} q) = done (f a q)
      go (failed e) = failed e

module _ {A B : Type 0} {P : A → Type 0} {Q : B → Type 0} where
  next-same : {k k' : A → M B} → ((a : A) → P a → Same Q (k a) (k' a)) → {o p : Out A} → Alike P o p → Alike Q (next k o) (next k' p)
  unfolding next
  next-same hk (done {a} {t} q) = (hk a q).runs t
  next-same hk (failed e) = failed e

  pub same-bind : {m m' : M A} {k k' : A → M B} → Same P m m' → ((a : A) → P a → Same Q (k a) (k' a)) → Same Q (m >>= k) (m' >>= k')
  unfolding ◌>>=◌
  same-bind hm hk = record { runs = λ s. next-same hk (hm.runs s) }

module _ {c : Context} {A : Type 0} {P : A → Type 0} where
  next-room : {k k' : A → M Written} → ((a : A) → P a → Roomy c (k a) (k' a)) → {o p : Out A} → Alike P o p → Room c (next k o) (next k' p)
  unfolding next
  next-room hk (done {a} {t} q) = (hk a q).rooms t
  next-room hk (failed e) = failed e

  pub roomy-bind : {m m' : M A} {k k' : A → M Written} → Same P m m' → ((a : A) → P a → Roomy c (k a) (k' a)) → Roomy c (m >>= k) (m' >>= k')
  unfolding ◌>>=◌
  roomy-bind hm hk = record { rooms = λ s. next-room hk (hm.runs s) }

pub roomy-pure : {c : Context} (w : Written) → Bounded c w → Roomy c (pure w) (pure w)
unfolding pure
roomy-pure w h = record { rooms = λ s. done h }

-- as many properties as before, or fewer
pub roomy-kept : {c : Context} (w : Written) → length w.1.properties ≤ length c.store.properties → Roomy c (pure w) (pure w)
roomy-kept w h = roomy-pure w (λ _. h)

pub same-ask : Same Any ask ask
unfolding ask
same-ask = record { runs = λ s. go s.calls s.answers }
  where
    go : (n : ℕ) (l : List Answer) → Alike Any (answered n l) (answered n l)
    go n [] = failed refl
    go n (Answer.value v ∷ l) = done tt
    go n (Answer.descriptor d ∷ l) = done tt
    go n (Answer.keys ks ∷ l) = done tt
    go n (Answer.throw v ∷ l) = failed refl

same-tick : Same Any tick tick
unfolding tick
same-tick = record { runs = λ s. go s.answers s.calls }
  where
    go : (a : List Answer) (n : ℕ) → Alike Any (counted a n) (counted a n)
    go a zero = failed refl
    go a (suc n) = done tt

same-revoked : (b : Bool) → Same (λ _. b ≡ false) (throw_if 1 b) (throw_if 1 b)
unfolding throw_if
same-revoked true = same-fails _ refl
same-revoked false = same-pure tt refl

module _ {A : Type 0} {Q : A → Type 0} where
  pub same-dispatch : {f f' : OrdinaryObject → M A} {g g' : ProxyObject → M A} (σ : Store) (o : ℕ) → ((r : OrdinaryObject) → lookup σ o ≡ Some (Ordinary r) → Same Q (f r) (f' r))
      → ((p : ProxyObject) → lookup σ o ≡ Some (Proxy p) → p.revoked ≡ false → Same Q (g p) (g' p)) → Same Q (dispatch σ o f g) (dispatch σ o f' g')
  unfolding dispatch dispatched
  same-dispatch {f} {f'} {g} {g'} σ o hf hg = same-bind same-tick (λ _ _. go (lookup σ o) refl)
    where
      go : (x : Option Object) → lookup σ o ≡ x → Same Q (dispatched x f g) (dispatched x f' g')
      go None e = same-fails _ refl
      go (Some (Ordinary r)) e = hf r e
      go (Some (Proxy p)) e = same-bind (same-revoked p.revoked) (λ _ l. hg p e l)

module _ {c : Context} where
  roomy-dispatch : {f f' : OrdinaryObject → M Written} {g g' : ProxyObject → M Written} (σ : Store) (o : ℕ) → ((r : OrdinaryObject) → lookup σ o ≡ Some (Ordinary r) → Roomy c (f r) (f' r))
      → ((p : ProxyObject) → lookup σ o ≡ Some (Proxy p) → p.revoked ≡ false → Roomy c (g p) (g' p)) → Roomy c (dispatch σ o f g) (dispatch σ o f' g')
  unfolding dispatch dispatched fails
  roomy-dispatch {f} {f'} {g} {g'} σ o hf hg = roomy-bind same-tick (λ _ _. go (lookup σ o) refl)
    where
      go : (x : Option Object) → lookup σ o ≡ x → Roomy c (dispatched x f g) (dispatched x f' g')
      go None e = record { rooms = λ s. failed refl }
      go (Some (Ordinary r)) e = hf r e
      go (Some (Proxy p)) e = roomy-bind (same-revoked p.revoked) (λ _ l. hg p e l)

-- A new property

grows : (σ : Store) (o : ℕ) (k : PropertyKey) (p : Property) → own σ o k ≡ None → length (with_property σ o k p).properties ≡ suc (length σ.properties)
unfolding own with_property
grows σ o k p e = ap length (absent-appended σ.properties o k p e) ∙ (length-append σ.properties (entry o k p ∷ []) ∙ omega arith)

-- a cond whose cases are as long or shorter
at_most : {A : Type 0} (b : Bool) (l k : List A) (n : ℕ) → (b ≡ true → length l ≤ n) → (b ≡ false → length k ≤ n) → length (cond b l k) ≤ n
at_most true l k n f g = f refl
at_most false l k n f g = g refl

replaced : (es : List Entry) (o : ℕ) (k : PropertyKey) (p q : Property) → find es o k ≡ Some q → length (insert es o k p) ≤ length es
unfolding find insert
replaced [] o k p q e = absurd (false≢true cc)
replaced (x ∷ es) o k p q e = at_most (is_at x o k) _ _ _ (λ _. le_refl _)
    (λ f. suc-le-suc (replaced es o k p q (sym (ap (λ (b : Bool). cond b (Some x.property) (find es o k)) f) ∙ e)))

pub keeps : (σ : Store) (o : ℕ) (k : PropertyKey) (p q : Property) → own σ o k ≡ Some q → length (with_property σ o k p).properties ≤ length σ.properties
unfolding own with_property
keeps σ o k p q e = replaced σ.properties o k p q e

pub removed : (σ : Store) (o : ℕ) (k : PropertyKey) → length (without_property σ o k).properties ≤ length σ.properties
unfolding without_property remove
removed σ o k = excluding-fewer _ σ.properties

pub puts-kept : (σ : Store) (o : ℕ) (x : Object) → length (put σ o x).properties ≤ length σ.properties
unfolding put
puts-kept σ o x = le_refl _

has_room : (c : Context) → is_full (allowing c (one_more c)) ≡ false
has_room c = ap not (lt-ltb (length c.store.properties) (one_more c) (omega arith))

-- what an ordinary object tells of a property is in the store
abbrev pub OwnIn : Context → ℕ → PropertyKey → Option Property → Type 0
OwnIn c o k x = (r : OrdinaryObject) → lookup c.store o ≡ Some (Ordinary r) → x ≡ own c.store o k

pub not-both : {p : ProxyObject} {r : OrdinaryObject} → Some (Proxy p) ≡ Some (Ordinary r) → ⊥
not-both e = false≢true cc

-- a write that adds a property, if there is room
room-if : (c : Context) (b : Bool) → is_full c ≡ b → (τ : Store) → length τ.properties ≡ suc (length c.store.properties)
    → Roomy c (when◌then◌else◌ b (fails (Refused 7)) (pure (true, τ))) (pure (true, τ))
unfolding when◌then◌else◌ fails pure
room-if c true n τ e = record { rooms = λ s. added n e }
room-if c false n τ e = record { rooms = λ s. done (λ f. absurd (false≢true (sym n ∙ f))) }

pub apply_validation-roomy : (c : Context) (o : ℕ) (r : OrdinaryObject) → lookup c.store o ≡ Some (Ordinary r) → (k : PropertyKey) (current : Option Property) → OwnIn c o k current → (v : Validation)
    → Roomy c (apply_validation c o k current v) (apply_validation (allowing c (one_more c)) o k current v)
unfolding apply_validation when◌then◌else◌
apply_validation-roomy c o r e k current h (Rejected t) = roomy-kept _ (le_refl _)
apply_validation-roomy c o r e k current h Unchanged = roomy-kept _ (le_refl _)
apply_validation-roomy c o r e k None h (Becomes p) = rw (has_room c) (room-if c (is_full c) refl (with_property c.store o k p) (grows c.store o k p (sym (h r e))))
apply_validation-roomy c o r e k (Some q) h (Becomes p) = roomy-kept _ (keeps c.store o k p q (sym (h r e)))

-- The methods

abbrev pub same-asking : Asking Any
same-asking = record {
  reads = λ Q m m'. Same Q m m';
  gives = same-pure;
  throws = λ i _. same-fails _ refl;
  unreadable = same-fails _ refl;
  binds-value = same-bind;
  asks = λ k. same-bind same-ask (λ a _. k a (any-answer a));
}

abbrev pub room-relation : (c : Context) → Relation c (one_more c) Any Any (OwnIn c)
room-relation c = record {
  reads = λ Q m m'. Same Q m m';
  writes = λ m m'. Roomy c m m';
  weaken = same-weaken;
  gives = same-pure;
  throws = λ i _. same-fails _ refl;
  binds = λ h k. same-bind h (λ a _. k a);
  binds-value = same-bind;
  writes-binds = λ h k. roomy-bind h (λ a _. k a);
  writes-binds-value = roomy-bind;
  writes-binds-own = roomy-bind;
  asks-value = ask_value-by same-asking;
  asks-boolean = ask_boolean-by same-asking c.strings;
  asks-prototype = ask_prototype-by same-asking;
  asks-descriptor = ask_descriptor-by same-asking;
  asks-keys = ask_keys-by same-asking;
  idle = λ b. roomy-kept _ (le_refl _);
  puts = λ o r _. roomy-kept _ (puts-kept c.store o _);
  removes = λ o k. roomy-kept _ (removed c.store o k);
  applies = λ o r e k current h x d _. apply_validation-roomy c o r e k current h _;
  object = λ v _ q _. tt;
  prototype = λ o r _. tt;
  target = λ o p _ _. tt;
  own-found = λ o r e k r' e'. refl;
  own-answered = λ o p e k x r e'. absurd (not-both (sym e ∙ e'));
}

pub methods-roomy : (n : ℕ) (c : Context) → RelatedMethods (room-relation c) (methods n c) (methods n (allowing c (one_more c)))
unfolding fails
methods-roomy n c = methods-by (room-relation c)
    (record { reads = same-fails _ refl; writes = record { rooms = λ s. failed refl } })
    (record { reading = λ o _ f g. same-dispatch c.store o f g; writing = λ o _ f g. roomy-dispatch c.store o f g }) n
