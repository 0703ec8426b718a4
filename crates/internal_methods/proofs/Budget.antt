-- The calls that are left end a step, and the fuel never does; and all the ways in which a method can fail. Assumes nothing.
use Rattle.std.specs.Prelude.{Option, None, Some}
use Prim.Native.Nat.{ℕ, zero, suc, ◌≤◌}
use native.Mathlib.Nat.{le_refl, le-suc, le_trans, le_of_suc-le-suc, not-suc-le-zero}
use mathlib.Core.Path.{◌≡◌, refl, sym, ◌∙◌, subst}
use mathlib.Core.Bool.{Bool, true, false}
use mathlib.Core.List.{List, [], ◌∷◌}
use Rattle.value.specs.declared.Value.{Value}
use Rattle.store.specs.declared.OrdinaryObject.{OrdinaryObject}
use Rattle.store.specs.declared.ProxyObject.{ProxyObject}
use Rattle.store.specs.declared.Object.{Object}
use Rattle.store.specs.declared.Object.TheVariants.{Ordinary, Proxy}
use Rattle.store.specs.Store.{Store, lookup}
use Rattle.value.specs.declared.PropertyKey.{PropertyKey}
use Rattle.property.specs.declared.PropertyDescriptor.{PropertyDescriptor}
use Rattle.property.specs.declared.Property.{Property}
use Rattle.property.specs.declared.Validation.{Validation}
use Rattle.property.specs.declared.Validation.TheVariants.{Rejected, Unchanged, Becomes}
use Rattle.property.specs.Validate.{validate}
use Rattle.property.proofs.ValueLaws.{validate-by}
use Rattle.internal_methods.specs.declared.Failure.{Failure}
use Rattle.internal_methods.specs.declared.Failure.TheVariants.{Refused, TypeError, Thrown}
use Rattle.internal_methods.specs.Monad.{Answer, State, state, Out, M, pure, fails, next, ◌>>=◌, ◌>>◌, throw_if, throw_any, answered, ask, counted, tick, dispatched, dispatch, when◌then◌else◌}
use Rattle.internal_methods.specs.Methods.{Context, Methods, Written}
use Rattle.internal_methods.specs.Ordinary.{is_full, apply_validation}
use Rattle.internal_methods.specs.Internal.{methods}
use Rattle.internal_methods.proofs.Walk.{Message, message, Any, any-descriptor, AnswerBy, MethodsBy, Relation, Asking, ask_value-by, ask_boolean-by, ask_prototype-by, ask_descriptor-by, ask_keys-by, level_by}
use Rattle.internal_methods.proofs.StoreClosed.{Made, MadeValue, MadeProperty, MadeDescriptor, Closed, undefined-made, Kept, kept_same, kept_put, kept-with, kept-without}
use Rattle.internal_methods.proofs.Room.{OwnIn, not-both}

abbrev pub MadeAnswer : Store → Answer → Type 0
MadeAnswer σ a = AnswerBy (MadeValue σ) a

pub data MadeAnswers (σ : Store) : List Answer → Type 0 where
  nil : MadeAnswers σ []
  cons : {a : Answer} {l : List Answer} → MadeAnswer σ a → MadeAnswers σ l → MadeAnswers σ (a ∷ l)

-- all the ways in which a method can fail
pub data Met (c : Context) : Failure → State → Type 0 where
  full : {t : State} → is_full c ≡ true → Met c (Refused 7) t
  spent : {t : State} → t.answers ≡ [] → Met c (Refused 8) t
  unreadable : {t : State} → Met c (Refused 9) t
  exhausted : {t : State} → t.calls ≡ 0 → Met c (Refused 10) t
  error : {t : State} (n : ℕ) → 1 ≤ n → n ≤ 31 → Met c (TypeError n) t
  threw : {t : State} (v : Value) → Met c (Thrown v) t

-- two runs from s end alike: with a result that is Q, or in such a failure
pub data Agree (c : Context) (s : State) {A : Type 0} (Q : A → Type 0) : Out A → Out A → Type 0 where
  done : {a : A} {t : State} → Q a → t.calls ≤ s.calls → MadeAnswers c.store t.answers → Agree c s Q (Out.done a t) (Out.done a t)
  failed : {f : Failure} {t : State} → Met c f t → Agree c s Q (Out.failed f t) (Out.failed f t)

-- with at most n calls left
pub record Steady (c : Context) (n : ℕ) {A : Type 0} (m m' : M A) (Q : A → Type 0) : Type 0 where
  pub runs : (s : State) → s.calls ≤ n → MadeAnswers c.store s.answers → Agree c s Q (m.run s) (m'.run s)

agree-before : {c : Context} {s t : State} {A : Type 0} {Q : A → Type 0} {o p : Out A} → t.calls ≤ s.calls → Agree c t Q o p → Agree c s Q o p
agree-before i (done q le ms) = done q (le_trans le i) ms
agree-before i (failed m) = failed m

-- What it says of each run

module _ {c : Context} {n : ℕ} {A : Type 0} {m m' : M A} {Q : A → Type 0} (h : Steady c n m m' Q) (s : State) (le : s.calls ≤ n) (ms : MadeAnswers c.store s.answers) where
  pub ends-alike : m.run s ≡ m'.run s
  ends-alike = go (h.runs s le ms)
    where
      go : {o p : Out A} → Agree c s Q o p → o ≡ p
      go (done q le ms) = refl
      go (failed m) = refl

  pub ends-failed : (f : Failure) (t : State) → m.run s ≡ Out.failed f t → Met c f t
  ends-failed f t e = go (subst (λ o. Agree c s Q o (m'.run s)) e (h.runs s le ms))
    where
      go : {p : Out A} → Agree c s Q (Out.failed f t) p → Met c f t
      go (failed m) = m

  pub ends-done : (a : A) (t : State) → m.run s ≡ Out.done a t → Q a × (t.calls ≤ s.calls) × MadeAnswers c.store t.answers
  ends-done a t e = go (subst (λ o. Agree c s Q o (m'.run s)) e (h.runs s le ms))
    where
      go : {p : Out A} → Agree c s Q (Out.done a t) p → Q a × (t.calls ≤ s.calls) × MadeAnswers c.store t.answers
      go (done q le ms) = (q, le, ms)

pub met-spent : {c : Context} {t : State} → Met c (Refused 8) t → t.answers ≡ []
met-spent (spent e) = e

-- The rules

module _ {c : Context} {n : ℕ} {A : Type 0} {Q : A → Type 0} where
  pub steady-pure : (a : A) → Q a → Steady c n (pure a) (pure a) Q
  unfolding pure
  steady-pure a q = record { runs = λ s le ms. done q (le_refl _) ms }

  pub steady-fails : (f : Failure) → ((t : State) → Met c f t) → Steady c n (fails f) (fails f) Q
  unfolding fails
  steady-fails f m = record { runs = λ s le ms. failed (m s) }

module _ {c : Context} {n : ℕ} {A B : Type 0} {P : A → Type 0} {Q : B → Type 0} where
  next-steady : {k k' : A → M B} → ((a : A) → P a → Steady c n (k a) (k' a) Q)
      → {s : State} {o p : Out A} → s.calls ≤ n → Agree c s P o p → Agree c s Q (next k o) (next k' p)
  unfolding next
  next-steady hk i (done {a} {t} q le ms) = agree-before le ((hk a q).runs t (le_trans le i) ms)
  next-steady hk i (failed m) = failed m

  pub steady-bind : {m m' : M A} {k k' : A → M B} → Steady c n m m' P → ((a : A) → P a → Steady c n (k a) (k' a) Q) → Steady c n (m >>= k) (m' >>= k') Q
  unfolding ◌>>=◌
  steady-bind hm hk = record { runs = λ s le ms. next-steady hk le (hm.runs s le ms) }

module _ {c : Context} {n : ℕ} {A : Type 0} {P Q : A → Type 0} where
  -- of the result less may be known
  pub steady-weaken : {m m' : M A} → ((a : A) → P a → Q a) → Steady c n m m' P → Steady c n m m' Q
  steady-weaken f h = record { runs = λ s le ms. go (h.runs s le ms) }
    where
      go : {s : State} {o p : Out A} → Agree c s P o p → Agree c s Q o p
      go (done {a} q le ms) = done (f a q) le ms
      go (failed m) = failed m

module _ {c : Context} {n : ℕ} {A : Type 0} {Q : A → Type 0} where
  pub steady-error : (i : ℕ) → Message i → Steady c n (fails (TypeError i)) (fails (TypeError i)) Q
  steady-error i m = steady-fails _ (λ t. error i m.0 m.1)

module _ {c : Context} {n : ℕ} {A : Type 0} {Q : A → Type 0} {k k' : M A} where
  pub steady-throw_if : (i : ℕ) (b : Bool) → Message i → (b ≡ false → Steady c n k k' Q) → Steady c n (throw_if i b >> k) (throw_if i b >> k') Q
  unfolding throw_if
  steady-throw_if i true t h = steady-bind {P = λ _. ⊥} (steady-error i t) (λ _ f. absurd f)
  steady-throw_if i false t h = steady-bind {P = λ _. Unit {0}} (steady-pure tt tt) (λ _ _. h refl)

  pub steady-throw_any : (x : Option ℕ) → ((i : ℕ) → x ≡ Some i → Message i) → (x ≡ None → Steady c n k k' Q) → Steady c n (throw_any x >> k) (throw_any x >> k') Q
  unfolding throw_any
  steady-throw_any None m h = steady-bind {P = λ _. Unit {0}} (steady-pure tt tt) (λ _ _. h refl)
  steady-throw_any (Some i) m h = steady-bind {P = λ _. ⊥} (steady-error i (m i refl)) (λ _ f. absurd f)

pub steady-ask : {c : Context} {n : ℕ} → Steady c n ask ask (MadeAnswer c.store)
unfolding ask
steady-ask {c} = record { runs = λ s le ms. go s.calls s.answers ms }
  where
    go : (i : ℕ) (l : List Answer) → MadeAnswers c.store l → Agree c (state l i) (MadeAnswer c.store) (answered i l) (answered i l)
    go i [] nil = failed (spent refl)
    go i (Answer.value v ∷ l) (cons m ms) = done m (le_refl i) ms
    go i (Answer.descriptor d ∷ l) (cons m ms) = done tt (le_refl i) ms
    go i (Answer.keys ks ∷ l) (cons m ms) = done tt (le_refl i) ms
    go i (Answer.throw v ∷ l) (cons m ms) = failed (threw v)

module _ {c : Context} {n : ℕ} {A : Type 0} {Q : A → Type 0} where
  -- one call fewer is left to the method that o has
  pub steady-dispatch : {f f' : OrdinaryObject → M A} {g g' : ProxyObject → M A} (o : ℕ) → Made c.store o
      → ((r : OrdinaryObject) → lookup c.store o ≡ Some (Ordinary r) → Steady c n (f r) (f' r) Q)
      → ((p : ProxyObject) → lookup c.store o ≡ Some (Proxy p) → p.revoked ≡ false → Steady c n (g p) (g' p) Q)
      → Steady c (suc n) (dispatch c.store o f g) (dispatch c.store o f' g') Q
  unfolding dispatch dispatched tick next ◌>>=◌
  steady-dispatch {f} {f'} {g} {g'} o (x, e) hf hg = record { runs = λ s le ms. go s.answers s.calls le ms }
    where
      body : (x : Object) → lookup c.store o ≡ Some x → Steady c n (dispatched (Some x) f g) (dispatched (Some x) f' g') Q
      body (Ordinary r) e = hf r e
      body (Proxy p) e = steady-throw_if 1 p.revoked (message 1 tt) (hg p e)

      found : Steady c n (dispatched (lookup c.store o) f g) (dispatched (lookup c.store o) f' g') Q
      found = subst (λ y. Steady c n (dispatched y f g) (dispatched y f' g') Q) (sym e) (body x e)

      go : (l : List Answer) (i : ℕ) → i ≤ suc n → MadeAnswers c.store l
          → Agree c (state l i) Q (next (λ _. dispatched (lookup c.store o) f g) (counted l i)) (next (λ _. dispatched (lookup c.store o) f' g') (counted l i))
      go l zero le ms = failed (exhausted refl)
      go l (suc i) le ms = agree-before (le-suc i) (found.runs (state l i) (le_of_suc-le-suc le) ms)

-- with no call left it is refused
pub record Stops {A : Type 0} (m : M A) : Type 0 where
  pub stops : (l : List Answer) → m.run (state l 0) ≡ Out.failed (Refused 10) (state l 0)

module _ {A : Type 0} where
  stops-fails : Stops (fails {A = A} (Refused 10))
  unfolding fails
  stops-fails = record { stops = λ l. refl }

  stops-dispatch : (σ : Store) (o : ℕ) (f : OrdinaryObject → M A) (g : ProxyObject → M A) → Stops (dispatch σ o f g)
  unfolding dispatch tick next ◌>>=◌
  stops-dispatch σ o f g = record { stops = λ l. refl }

  steady-stops : {c : Context} {Q : A → Type 0} {m m' : M A} → Stops m → Stops m' → Steady c 0 m m' Q
  steady-stops {c} {Q} {m} {m'} h h' = record { runs = λ s le ms. go s.answers s.calls le }
    where
      go : (l : List Answer) (i : ℕ) → i ≤ 0 → Agree c (state l i) Q (m.run (state l i)) (m'.run (state l i))
      go l zero le = rw (h.stops l, h'.stops l) (failed (exhausted refl))
      go l (suc i) le = absurd (not-suc-le-zero le)

-- The methods

abbrev pub KeptBy : Context → Written → Type 0
KeptBy c w = Kept c.store w.1

abbrev pub steady-asking : (c : Context) (n : ℕ) → Asking (MadeValue c.store)
steady-asking c n = record {
  reads = λ Q m m'. Steady c n m m' Q;
  gives = steady-pure;
  throws = steady-error;
  unreadable = steady-fails _ (λ t. unreadable);
  binds-value = steady-bind;
  asks = steady-bind steady-ask;
}

-- a write, if there is room
steady-room : (c : Context) (n : ℕ) (b : Bool) → is_full c ≡ b → (w : Written) → KeptBy c w → Steady c n (when◌then◌else◌ b (fails (Refused 7)) (pure w)) (when◌then◌else◌ b (fails (Refused 7)) (pure w)) (KeptBy c)
unfolding when◌then◌else◌
steady-room c n true e w k = steady-fails _ (λ t. full e)
steady-room c n false e w k = steady-pure w k

module _ (c : Context) (n : ℕ) (closed : Closed c.store) where
  pub apply_validation-steady : (o : ℕ) → Made c.store o → (k : PropertyKey) (current : Option Property) (v : Validation) → ((p : Property) → v ≡ Becomes p → MadeProperty c.store p)
      → Steady c n (apply_validation c o k current v) (apply_validation c o k current v) (KeptBy c)
  unfolding apply_validation
  apply_validation-steady o m k current (Rejected t) h = steady-pure _ (kept_same c.store closed)
  apply_validation-steady o m k current Unchanged h = steady-pure _ (kept_same c.store closed)
  apply_validation-steady o m k None (Becomes p) h = steady-room c n (is_full c) refl _ (kept-with c.store o k p closed m (h p refl))
  apply_validation-steady o m k (Some q) (Becomes p) h = steady-pure _ (kept-with c.store o k p closed m (h p refl))

  -- what validation makes of an own property names what the property or the descriptor does
  pub validated-steady : (o : ℕ) (r : OrdinaryObject) → lookup c.store o ≡ Some (Ordinary r) → (k : PropertyKey) (current : Option Property) → OwnIn c o k current → (x : Bool) (d : PropertyDescriptor) → MadeDescriptor c.store d
      → Steady c n (apply_validation c o k current (validate x d current)) (apply_validation c o k current (validate x d current)) (KeptBy c)
  validated-steady o r e k current own x d m = apply_validation-steady o (Ordinary r, e) k current (validate x d current)
      (validate-by (undefined-made c.store) d m x current (λ q f. closed.named o k q (sym (own r e) ∙ f)))

abbrev pub steady-relation : (c : Context) (n : ℕ) → Closed c.store → Relation c c.allowance (Made c.store) (MadeValue c.store) (OwnIn c)
steady-relation c n closed = record {
  reads = λ Q m m'. Steady c n m m' Q;
  writes = λ m m'. Steady c n m m' (KeptBy c);
  weaken = steady-weaken;
  gives = steady-pure;
  throws = steady-error;
  binds = λ h k. steady-bind h (λ a _. k a);
  binds-value = steady-bind;
  writes-binds = λ h k. steady-bind h (λ a _. k a);
  writes-binds-value = steady-bind;
  writes-binds-own = steady-bind;
  asks-value = ask_value-by (steady-asking c n);
  asks-boolean = ask_boolean-by (steady-asking c n) c.strings;
  asks-prototype = ask_prototype-by (steady-asking c n);
  asks-descriptor = ask_descriptor-by (steady-asking c n);
  asks-keys = ask_keys-by (steady-asking c n);
  idle = λ b. steady-pure _ (kept_same c.store closed);
  puts = λ o r m. steady-pure _ (kept_put c.store o (Ordinary r) closed m);
  removes = λ o k. steady-pure _ (kept-without c.store o k closed);
  applies = validated-steady c n closed;
  object = λ v m. m.made;
  prototype = closed.ordinary;
  target = closed.proxy;
  own-found = λ o r e k r' e'. refl;
  own-answered = λ o p e k x r e'. absurd (not-both (sym e ∙ e'));
}

abbrev pub SteadyMethods : Context → ℕ → Methods → Methods → Type 0
SteadyMethods c n call call' = MethodsBy (λ A Q m m'. Steady c n m m' Q) (λ m m'. Steady c n m m' (KeptBy c)) (Made c.store) (MadeValue c.store) (OwnIn c) call call'

-- with no call left each method is refused, whatever the fuel
abbrev StopsMethods : Methods → Type 0
StopsMethods call = MethodsBy (λ A Q m m'. Stops m) (λ m m'. Stops m) Any Any (λ _ _. Any) call call

methods-stop : (n : ℕ) (c : Context) → StopsMethods (methods n c)
unfolding methods
methods-stop zero c = record {
  get_prototype_of = λ o _. stops-fails;
  set_prototype_of = λ o v _ _. stops-fails;
  is_extensible = λ o _. stops-fails;
  prevent_extensions = λ o _. stops-fails;
  get_own_property = λ o k _. stops-fails;
  define_own_property = λ o k d _ _. stops-fails;
  has_property = λ o k _. stops-fails;
  get = λ o k receiver _. stops-fails;
  set = λ o k v receiver _ _ _. stops-fails;
  delete = λ o k _. stops-fails;
  own_property_keys = λ o _. stops-fails;
}
methods-stop (suc n) c = record {
  get_prototype_of = λ o _. stops-dispatch _ _ _ _;
  set_prototype_of = λ o v _ _. stops-dispatch _ _ _ _;
  is_extensible = λ o _. stops-dispatch _ _ _ _;
  prevent_extensions = λ o _. stops-dispatch _ _ _ _;
  get_own_property = λ o k _. stops-dispatch _ _ _ _;
  define_own_property = λ o k d _ _. stops-dispatch _ _ _ _;
  has_property = λ o k _. stops-dispatch _ _ _ _;
  get = λ o k receiver _. stops-dispatch _ _ _ _;
  set = λ o k v receiver _ _ _. stops-dispatch _ _ _ _;
  delete = λ o k _. stops-dispatch _ _ _ _;
  own_property_keys = λ o _. stops-dispatch _ _ _ _;
}

none_left : {c : Context} {call call' : Methods} → StopsMethods call → StopsMethods call' → SteadyMethods c 0 call call'
none_left h h' = record {
  get_prototype_of = λ o _. steady-stops (h.get_prototype_of o tt) (h'.get_prototype_of o tt);
  set_prototype_of = λ o v _ _. steady-stops (h.set_prototype_of o v tt tt) (h'.set_prototype_of o v tt tt);
  is_extensible = λ o _. steady-stops (h.is_extensible o tt) (h'.is_extensible o tt);
  prevent_extensions = λ o _. steady-stops (h.prevent_extensions o tt) (h'.prevent_extensions o tt);
  get_own_property = λ o k _. steady-stops (h.get_own_property o k tt) (h'.get_own_property o k tt);
  define_own_property = λ o k d _ _. steady-stops (h.define_own_property o k d tt (any-descriptor d)) (h'.define_own_property o k d tt (any-descriptor d));
  has_property = λ o k _. steady-stops (h.has_property o k tt) (h'.has_property o k tt);
  get = λ o k receiver _. steady-stops (h.get o k receiver tt) (h'.get o k receiver tt);
  set = λ o k v receiver _ _ _. steady-stops (h.set o k v receiver tt tt tt) (h'.set o k v receiver tt tt tt);
  delete = λ o k _. steady-stops (h.delete o k tt) (h'.delete o k tt);
  own_property_keys = λ o _. steady-stops (h.own_property_keys o tt) (h'.own_property_keys o tt);
}

-- the fuel never decides: with as much as there are calls left, however much, a method ends alike
pub steady-above : (n m m' : ℕ) → n ≤ m → n ≤ m' → (c : Context) → Closed c.store → SteadyMethods c n (methods m c) (methods m' c)
unfolding methods
steady-above zero m m' i i' c closed = none_left (methods-stop m c) (methods-stop m' c)
steady-above (suc n) zero m' i i' c closed = absurd (not-suc-le-zero i)
steady-above (suc n) (suc m) zero i i' c closed = absurd (not-suc-le-zero i')
steady-above (suc n) (suc m) (suc m') i i' c closed =
    level_by (steady-relation c n closed) (methods m c) (methods m' c)
    (steady-above n m m' (le_of_suc-le-suc i) (le_of_suc-le-suc i') c closed)
    _ _ (record { reading = steady-dispatch; writing = steady-dispatch })

-- one more changes nothing
pub steady : (n : ℕ) (c : Context) → Closed c.store → SteadyMethods c n (methods n c) (methods (suc n) c)
steady n = steady-above n n (suc n) (le_refl n) (le-suc n)
