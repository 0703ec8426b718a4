-- Refusal 10: with a larger budget of calls the run that it ends makes more calls than the smaller budget allows. Assumes nothing.
use Rattle.std.specs.Prelude.{Option, None, Some}
use Prim.Native.Nat.{ℕ, zero, suc, ◌+◌, ◌≤◌, ◌<◌}
use native.Mathlib.Nat.{le_refl, le_trans, le-suc, le_of_suc-le-suc, not-suc-le-zero}
use native.Mathlib.Omega.{arith}
use mathlib.Core.Path.{◌≡◌, refl, sym, ◌∙◌, subst}
use mathlib.Core.Bool.{Bool, true, false, false≢true}
use mathlib.Core.List.{List, [], ◌∷◌}
use lib.Dec.{eqb}
use Rattle.value.specs.declared.PropertyKey.{PropertyKey}
use Rattle.property.specs.declared.Validation.{Validation}
use Rattle.property.specs.declared.Validation.TheVariants.{Rejected, Unchanged, Becomes}
use Rattle.store.specs.declared.OrdinaryObject.{OrdinaryObject}
use Rattle.store.specs.declared.ProxyObject.{ProxyObject}
use Rattle.store.specs.declared.Object.{Object}
use Rattle.store.specs.declared.Object.TheVariants.{Ordinary, Proxy}
use Rattle.store.specs.Store.{Store, lookup}
use Rattle.internal_methods.specs.declared.Failure.{Failure}
use Rattle.internal_methods.specs.declared.Failure.TheVariants.{Refused, TypeError, Thrown}
use Rattle.internal_methods.specs.Monad.{Answer, State, state, Out, M, pure, fails, next, ◌>>=◌, ◌>>◌, throw_if, answered, ask, counted, tick, when◌then◌else◌, dispatched, dispatch}
use Rattle.internal_methods.specs.Methods.{Context, Methods}
use Rattle.internal_methods.specs.Ordinary.{apply_validation}
use Rattle.internal_methods.specs.Internal.{methods}
use Rattle.internal_methods.proofs.Walk.{Any, Relation, MethodsBy, Asking, ask_value-by, ask_boolean-by, ask_prototype-by, ask_descriptor-by, ask_keys-by, level_by}
use Rattle.internal_methods.proofs.Longer.{any-answer}
use Rattle.property.specs.declared.Property.{Property}

-- the calls that are left
abbrev pub calls_left : {A : Type 0} → Out A → ℕ
calls_left (Out.failed f t) = t.calls
calls_left (Out.done a t) = t.calls

-- with k calls more
abbrev pub richer : ℕ → State → State
richer k s = state s.answers (s.calls + k)

abbrev pub is_ten : Failure → Bool
is_ten (Refused n) = eqb n 10
is_ten (TypeError n) = false
is_ten (Thrown v) = false

-- how a run ends that began with n calls, and how it ends with k calls more
pub data Shifted (k n : ℕ) {A : Type 0} : Out A → Out A → Type 0 where
  done : {a : A} {t : State} → t.calls ≤ n → Shifted k n (Out.done a t) (Out.done a (richer k t))
  failed : {f : Failure} {t : State} → (is_ten f ≡ true → k ≡ 0) → Shifted k n (Out.failed f t) (Out.failed f (richer k t))
  exhausted : {t : State} {o : Out A} → t.calls ≡ 0 → calls_left o < k → Shifted k n (Out.failed (Refused 10) t) o

-- no run gives calls back
pub record Falls {A : Type 0} (m : M A) : Type 0 where
  pub falls : (s : State) → calls_left (m.run s) ≤ s.calls

-- of at most n calls, and with more of at most l
pub record Richer (n l : ℕ) {A : Type 0} (m m' : M A) : Type 0 where
  pub shifted : (k : ℕ) (s : State) → s.calls ≤ n → s.calls + k ≤ l → Shifted k s.calls (m.run s) (m'.run (richer k s))
  pub falls : Falls m'

-- The rules

module _ {A : Type 0} where
  pub falls-pure : (a : A) → Falls (pure a)
  unfolding pure
  falls-pure a = record { falls = λ s. le_refl _ }

  pub falls-fails : (f : Failure) → Falls (fails {A = A} f)
  unfolding fails
  falls-fails f = record { falls = λ s. le_refl _ }

  falls-if : {m k : M A} (b : Bool) → Falls m → Falls k → Falls (when◌then◌else◌ b m k)
  unfolding when◌then◌else◌
  falls-if true hm hk = hm
  falls-if false hm hk = hk

module _ {A B : Type 0} {k : A → M B} (hk : (a : A) → Falls (k a)) where
  next-falls : (o : Out A) → calls_left (next k o) ≤ calls_left o
  unfolding next
  next-falls (Out.failed f t) = le_refl _
  next-falls (Out.done a t) = (hk a).falls t

module _ {A B : Type 0} where
  pub falls-bind : {m : M A} {k : A → M B} → Falls m → ((a : A) → Falls (k a)) → Falls (m >>= k)
  unfolding ◌>>=◌
  falls-bind {m} hm hk = record { falls = λ s. le_trans (next-falls hk (m.run s)) (hm.falls s) }

pub falls-ask : Falls ask
unfolding ask
falls-ask = record { falls = λ s. go s.calls s.answers }
  where
    go : (n : ℕ) (l : List Answer) → calls_left (answered n l) ≤ n
    go n [] = le_refl n
    go n (Answer.value v ∷ l) = le_refl n
    go n (Answer.descriptor d ∷ l) = le_refl n
    go n (Answer.keys ks ∷ l) = le_refl n
    go n (Answer.throw v ∷ l) = le_refl n

falls-revoked : {A : Type 0} {m : M A} (b : Bool) → (b ≡ false → Falls m) → Falls (throw_if 1 b >> m)
unfolding throw_if fails ◌>>=◌ next
falls-revoked true h = record { falls = λ s. le_refl _ }
falls-revoked false h = falls-bind (falls-pure _) (λ _. h refl)

module _ {n l : ℕ} {A : Type 0} where
  pub richer-pure : (a : A) → Richer n l (pure a) (pure a)
  unfolding pure
  richer-pure a = record { shifted = λ k s i j. done (le_refl _); falls = falls-pure a }

  pub richer-fails : (f : Failure) → is_ten f ≡ false → Richer n l (fails {A = A} f) (fails f)
  unfolding fails
  richer-fails f h = record { shifted = λ k s i j. failed (λ e. absurd (false≢true (sym h ∙ e))); falls = falls-fails f }

  pub richer-if : {m k m' k' : M A} (b : Bool) → Richer n l m m' → Richer n l k k' → Richer n l (when◌then◌else◌ b m k) (when◌then◌else◌ b m' k')
  unfolding when◌then◌else◌
  richer-if true hm hk = hm
  richer-if false hm hk = hk

shifted-before : {k i j : ℕ} {A : Type 0} {o p : Out A} → i ≤ j → Shifted k i o p → Shifted k j o p
shifted-before h (done q) = done (le_trans q h)
shifted-before h (failed e) = failed e
shifted-before h (exhausted e q) = exhausted e q

module _ {n l : ℕ} {A B : Type 0} {f f' : A → M B} (hf : (a : A) → Richer n l (f a) (f' a)) where
  next-shifted : (k i : ℕ) → i ≤ n → i + k ≤ l → {o p : Out A} → Shifted k i o p → Shifted k i (next f o) (next f' p)
  unfolding next
  next-shifted k i h j (done {a} {t} q) = shifted-before q ((hf a).shifted k t (le_trans q h) (omega (arith, q, j)))
  next-shifted k i h j (failed e) = failed e
  next-shifted k i h j (exhausted {o = o} e q) = let less : calls_left (next f' o) < k = omega (arith, q, next-falls (λ a. (hf a).falls) o) in exhausted e less

module _ {n l : ℕ} {A B : Type 0} where
  pub richer-bind : {m m' : M A} {f f' : A → M B} → Richer n l m m' → ((a : A) → Richer n l (f a) (f' a)) → Richer n l (m >>= f) (m' >>= f')
  unfolding ◌>>=◌
  richer-bind hm hf = record { shifted = λ k s i j. next-shifted hf k s.calls i j (hm.shifted k s i j); falls = falls-bind hm.falls (λ a. (hf a).falls) }

pub richer-ask : {n l : ℕ} → Richer n l ask ask
unfolding ask
richer-ask = record { shifted = λ k s i j. go k s.calls s.answers; falls = falls-ask }
  where
    go : (k i : ℕ) (l : List Answer) → Shifted k i (answered i l) (answered (i + k) l)
    go k i [] = failed (λ e. absurd (false≢true e))
    go k i (Answer.value v ∷ l) = done (le_refl i)
    go k i (Answer.descriptor d ∷ l) = done (le_refl i)
    go k i (Answer.keys ks ∷ l) = done (le_refl i)
    go k i (Answer.throw v ∷ l) = failed (λ e. absurd (false≢true e))

richer-revoked : {n l : ℕ} {A : Type 0} {m m' : M A} (b : Bool) → (b ≡ false → Richer n l m m') → Richer n l (throw_if 1 b >> m) (throw_if 1 b >> m')
unfolding throw_if fails ◌>>=◌ next
richer-revoked true h = record { shifted = λ k s i j. failed (λ e. absurd (false≢true e)); falls = record { falls = λ s. le_refl _ } }
richer-revoked false h = richer-bind (richer-pure _) (λ _. h refl)

-- The call that begins: one fewer is left, or none was

module _ {n l : ℕ} {A : Type 0} {f f' : M A} (h : Richer n l f f') where
  -- what `tick` leads to, from i calls and from k more
  ticked : (a : List Answer) (i k : ℕ) → i ≤ suc n → i + k ≤ suc l → Shifted k i (next (λ _. f) (counted a i)) (next (λ _. f') (counted a (i + k)))
  unfolding next
  ticked a zero zero p q = failed (λ _. refl)
  ticked a zero (suc j) p q =
      let e : zero + suc j ≡ suc j = omega arith in
      let less : calls_left (f'.run (state a j)) < suc j = omega (arith, h.falls.falls (state a j)) in
      rw e (exhausted refl less)
  ticked a (suc i) k p q = let e : suc i + k ≡ suc (i + k) = omega arith in rw e (shifted-before (le-suc i) (h.shifted k (state a i) (omega (arith, p)) (omega (arith, q))))

module _ {A : Type 0} (σ : Store) (o : ℕ) where
  -- the body of the kind that o has
  found : {n l : ℕ} {f f' : OrdinaryObject → M A} {g g' : ProxyObject → M A} → ((r : OrdinaryObject) → lookup σ o ≡ Some (Ordinary r) → Richer n l (f r) (f' r))
      → ((p : ProxyObject) → lookup σ o ≡ Some (Proxy p) → p.revoked ≡ false → Richer n l (g p) (g' p)) → Richer n l (dispatched (lookup σ o) f g) (dispatched (lookup σ o) f' g')
  unfolding dispatched
  found {n} {l} {f} {f'} {g} {g'} hf hg = go (lookup σ o) refl
    where
      go : (x : Option Object) → lookup σ o ≡ x → Richer n l (dispatched x f g) (dispatched x f' g')
      go None e = richer-fails _ refl
      go (Some (Ordinary r)) e = hf r e
      go (Some (Proxy p)) e = richer-revoked p.revoked (hg p e)

  found-falls : {f : OrdinaryObject → M A} {g : ProxyObject → M A} → ((r : OrdinaryObject) → lookup σ o ≡ Some (Ordinary r) → Falls (f r))
      → ((p : ProxyObject) → lookup σ o ≡ Some (Proxy p) → p.revoked ≡ false → Falls (g p)) → Falls (dispatched (lookup σ o) f g)
  unfolding dispatched
  found-falls {f} {g} hf hg = go (lookup σ o) refl
    where
      go : (x : Option Object) → lookup σ o ≡ x → Falls (dispatched x f g)
      go None e = falls-fails _
      go (Some (Ordinary r)) e = hf r e
      go (Some (Proxy p)) e = falls-revoked p.revoked (hg p e)

-- with no call left it is refused, and with some one is spent
pub record Spends (l : ℕ) {A : Type 0} (m : M A) : Type 0 where
  pub stops : (a : List Answer) → m.run (state a 0) ≡ Out.failed (Refused 10) (state a 0)
  pub spends : (a : List Answer) (i : ℕ) → suc i ≤ l → calls_left (m.run (state a (suc i))) ≤ i
  pub falls : Falls m

module _ {A : Type 0} where
  spends-fails : Spends 0 (fails {A = A} (Refused 10))
  unfolding fails
  spends-fails = record { stops = λ a. refl; spends = λ a i h. absurd (not-suc-le-zero h); falls = falls-fails _ }

  spends-dispatch : {l : ℕ} {f : OrdinaryObject → M A} {g : ProxyObject → M A} (σ : Store) (o : ℕ) → ((r : OrdinaryObject) → lookup σ o ≡ Some (Ordinary r) → Falls (f r))
      → ((p : ProxyObject) → lookup σ o ≡ Some (Proxy p) → p.revoked ≡ false → Falls (g p)) → Spends l (dispatch σ o f g)
  unfolding dispatch tick ◌>>=◌ next
  spends-dispatch {l} {f} {g} σ o hf hg = record {
    stops = λ a. refl;
    spends = λ a i h. body.falls (state a i);
    falls = record { falls = λ s. all s.answers s.calls };
  }
    where
      body : Falls (dispatched (lookup σ o) f g)
      body = found-falls σ o hf hg

      all : (a : List Answer) (i : ℕ) → calls_left (next (λ _. dispatched (lookup σ o) f g) (counted a i)) ≤ i
      all a zero = le_refl 0
      all a (suc i) = le_trans (body.falls (state a i)) (le-suc i)

  -- a method that goes no deeper, beside one that may
  none_left : {l : ℕ} {m m' : M A} → Spends 0 m → Spends l m' → Richer 0 l m m'
  none_left {l} {m} {m'} h h' = record { shifted = λ k s i j. go k s.answers s.calls i j; falls = h'.falls }
    where
      go : (k : ℕ) (a : List Answer) (i : ℕ) → i ≤ 0 → i + k ≤ l → Shifted k i (m.run (state a i)) (m'.run (state a (i + k)))
      go zero a zero p q = rw (h.stops a, h'.stops a) (failed (λ _. refl))
      go (suc j) a zero p q =
          let e : zero + suc j ≡ suc j = omega arith in
          let less : calls_left (m'.run (state a (suc j))) < suc j = omega (arith, h'.spends a j (omega (arith, q))) in
          rw (e, h.stops a) (exhausted refl less)
      go k a (suc i) p q = absurd (not-suc-le-zero p)

-- with no calls at all two computations agree, if both stop
beside-itself : {l : ℕ} {A : Type 0} {m : M A} → Spends l m → Richer 0 0 m m
beside-itself {l} {A} {m} h = record { shifted = λ k s i j. go k s.answers s.calls i j; falls = h.falls }
  where
    go : (k : ℕ) (a : List Answer) (i : ℕ) → i ≤ 0 → i + k ≤ 0 → Shifted k i (m.run (state a i)) (m.run (state a (i + k)))
    go zero a zero p q = rw (h.stops a) (failed (λ _. refl))
    go (suc j) a zero p q = absurd (not-suc-le-zero (subst (λ (x : ℕ). x ≤ 0) (let e : zero + suc j ≡ suc j = omega arith in e) q))
    go k a (suc i) p q = absurd (not-suc-le-zero p)

module _ {n l : ℕ} {A : Type 0} where
  richer-dispatch : {f f' : OrdinaryObject → M A} {g g' : ProxyObject → M A} (σ : Store) (o : ℕ) → ((r : OrdinaryObject) → lookup σ o ≡ Some (Ordinary r) → Richer n l (f r) (f' r))
      → ((p : ProxyObject) → lookup σ o ≡ Some (Proxy p) → p.revoked ≡ false → Richer n l (g p) (g' p)) → Richer (suc n) (suc l) (dispatch σ o f g) (dispatch σ o f' g')
  unfolding dispatch tick ◌>>=◌
  richer-dispatch σ o hf hg = record {
    shifted = λ k s i j. ticked (found σ o hf hg) s.answers s.calls k i j;
    falls = (spends-dispatch {l = 0} σ o (λ r e. (hf r e).falls) (λ p e l. (hg p e l).falls)).falls;
  }

-- The methods

pub apply_validation-richer : {n l : ℕ} (c : Context) (o : ℕ) (k : PropertyKey) (current : Option Property) (v : Validation) → Richer n l (apply_validation c o k current v) (apply_validation c o k current v)
unfolding apply_validation
apply_validation-richer c o k current (Rejected t) = richer-pure _
apply_validation-richer c o k current Unchanged = richer-pure _
apply_validation-richer c o k None (Becomes p) = richer-if _ (richer-fails _ refl) (richer-pure _)
apply_validation-richer c o k (Some q) (Becomes p) = richer-pure _

abbrev pub richer-asking : ℕ → ℕ → Asking Any
richer-asking n l = record {
  reads = λ Q m m'. Richer n l m m';
  gives = λ a _. richer-pure a;
  throws = λ i _. richer-fails _ refl;
  unreadable = richer-fails _ refl;
  binds-value = λ h k. richer-bind h (λ v. k v tt);
  asks = λ k. richer-bind richer-ask (λ a. k a (any-answer a));
}

abbrev pub richer-relation : (c : Context) (n l : ℕ) → Relation c c.allowance Any Any (λ _ _. Any)
richer-relation c n l = record {
  reads = λ Q m m'. Richer n l m m';
  writes = λ m m'. Richer n l m m';
  weaken = λ f h. h;
  gives = λ a _. richer-pure a;
  throws = λ i _. richer-fails _ refl;
  binds = λ h k. richer-bind h k;
  binds-value = λ h k. richer-bind h (λ v. k v tt);
  writes-binds = λ h k. richer-bind h k;
  writes-binds-value = λ h k. richer-bind h (λ v. k v tt);
  writes-binds-own = λ h k. richer-bind h (λ x. k x tt);
  asks-value = ask_value-by (richer-asking n l);
  asks-boolean = ask_boolean-by (richer-asking n l) c.strings;
  asks-prototype = ask_prototype-by (richer-asking n l);
  asks-descriptor = ask_descriptor-by (richer-asking n l);
  asks-keys = ask_keys-by (richer-asking n l);
  idle = λ b. richer-pure _;
  puts = λ o r _. richer-pure _;
  removes = λ o k. richer-pure _;
  applies = λ o r e k current _ x d _. apply_validation-richer c o k current _;
  object = λ v _ q _. tt;
  prototype = λ o r _. tt;
  target = λ o p _ _. tt;
  own-found = λ o r e k. tt;
  own-answered = λ o p e k x. tt;
}

abbrev pub RicherMethods : ℕ → ℕ → Methods → Methods → Type 0
RicherMethods n l call call' = MethodsBy (λ A Q m m'. Richer n l m m') (λ m m'. Richer n l m m') Any Any (λ _ _. Any) call call'

abbrev SpendsMethods : ℕ → Methods → Type 0
SpendsMethods l call = MethodsBy (λ A Q m m'. Spends l m') (λ m m'. Spends l m') Any Any (λ _ _. Any) call call

-- of one method beside itself only that it falls is asked
methods-spend : (l : ℕ) (c : Context) → SpendsMethods l (methods l c)
unfolding methods
methods-spend zero c = record {
  get_prototype_of = λ o _. spends-fails;
  set_prototype_of = λ o v _ _. spends-fails;
  is_extensible = λ o _. spends-fails;
  prevent_extensions = λ o _. spends-fails;
  get_own_property = λ o k _. spends-fails;
  define_own_property = λ o k d _ _. spends-fails;
  has_property = λ o k _. spends-fails;
  get = λ o k receiver _. spends-fails;
  set = λ o k v receiver _ _ _. spends-fails;
  delete = λ o k _. spends-fails;
  own_property_keys = λ o _. spends-fails;
}
methods-spend (suc l) c = level_by (richer-relation c 0 0) (methods l c) (methods l c) (fall-alike (methods-spend l c)) _ _ (record {
  reading = λ o _ f g. spends-dispatch c.store o (λ r e. (f r e).falls) (λ p e l. (g p e l).falls);
  writing = λ o _ f g. spends-dispatch c.store o (λ r e. (f r e).falls) (λ p e l. (g p e l).falls);
})
  where
    fall-alike : SpendsMethods l (methods l c) → RicherMethods 0 0 (methods l c) (methods l c)
    fall-alike h = record {
      get_prototype_of = λ o _. beside-itself (h.get_prototype_of o tt);
      set_prototype_of = λ o v _ _. beside-itself (h.set_prototype_of o v tt tt);
      is_extensible = λ o _. beside-itself (h.is_extensible o tt);
      prevent_extensions = λ o _. beside-itself (h.prevent_extensions o tt);
      get_own_property = λ o k _. beside-itself (h.get_own_property o k tt);
      define_own_property = λ o k d _ m. beside-itself (h.define_own_property o k d tt m);
      has_property = λ o k _. beside-itself (h.has_property o k tt);
      get = λ o k receiver _. beside-itself (h.get o k receiver tt);
      set = λ o k v receiver _ _ _. beside-itself (h.set o k v receiver tt tt tt);
      delete = λ o k _. beside-itself (h.delete o k tt);
      own_property_keys = λ o _. beside-itself (h.own_property_keys o tt);
    }

pub methods-richer : (n l : ℕ) (c : Context) → n ≤ l → RicherMethods n l (methods n c) (methods l c)
unfolding methods
methods-richer zero l c i = let h = methods-spend zero c in let h' = methods-spend l c in record {
  get_prototype_of = λ o _. none_left (h.get_prototype_of o tt) (h'.get_prototype_of o tt);
  set_prototype_of = λ o v _ _. none_left (h.set_prototype_of o v tt tt) (h'.set_prototype_of o v tt tt);
  is_extensible = λ o _. none_left (h.is_extensible o tt) (h'.is_extensible o tt);
  prevent_extensions = λ o _. none_left (h.prevent_extensions o tt) (h'.prevent_extensions o tt);
  get_own_property = λ o k _. none_left (h.get_own_property o k tt) (h'.get_own_property o k tt);
  define_own_property = λ o k d _ m. none_left (h.define_own_property o k d tt m) (h'.define_own_property o k d tt m);
  has_property = λ o k _. none_left (h.has_property o k tt) (h'.has_property o k tt);
  get = λ o k receiver _. none_left (h.get o k receiver tt) (h'.get o k receiver tt);
  set = λ o k v receiver _ _ _. none_left (h.set o k v receiver tt tt tt) (h'.set o k v receiver tt tt tt);
  delete = λ o k _. none_left (h.delete o k tt) (h'.delete o k tt);
  own_property_keys = λ o _. none_left (h.own_property_keys o tt) (h'.own_property_keys o tt);
}
methods-richer (suc n) zero c i = absurd (not-suc-le-zero i)
methods-richer (suc n) (suc l) c i = level_by (richer-relation c n l) (methods n c) (methods l c) (methods-richer n l c (le_of_suc-le-suc i)) _ _ (record {
  reading = λ o _ f g. richer-dispatch c.store o f g;
  writing = λ o _ f g. richer-dispatch c.store o f g;
})
