-- What a longer list of answers changes: nothing, unless a method runs out of answers. Assumes nothing.
use Rattle.std.specs.Prelude.{Option, None, Some}
use Prim.Native.Nat.{ℕ, zero, suc, ◌≤◌}
use native.Mathlib.Nat.{le_refl, le-suc, le_trans, not-suc-le_self}
use native.Mathlib.Omega.{arith}
use mathlib.Core.Path.{◌≡◌, refl, sym, ap, ◌∙◌, subst}
use mathlib.Core.Bool.{Bool, true, false}
use mathlib.Core.List.{List, [], ◌∷◌, ◌++◌}
use lib.ListN.{length, length-append}
use Rattle.value.specs.declared.PropertyKey.{PropertyKey}
use Rattle.property.specs.declared.Validation.{Validation}
use Rattle.property.specs.declared.Validation.TheVariants.{Rejected, Unchanged, Becomes}
use Rattle.store.specs.declared.OrdinaryObject.{OrdinaryObject}
use Rattle.store.specs.declared.ProxyObject.{ProxyObject}
use Rattle.store.specs.declared.Object.{Object}
use Rattle.store.specs.declared.Object.TheVariants.{Ordinary, Proxy}
use Rattle.store.specs.Store.{Store, lookup}
use Rattle.internal_methods.specs.declared.Failure.{Failure}
use Rattle.internal_methods.specs.declared.Failure.TheVariants.{Refused}
use Rattle.internal_methods.specs.Monad.{Answer, State, state, Out, M, pure, fails, next, ◌>>=◌, ◌>>◌, throw_if, throw_any, answered, ask, counted, tick, when◌then◌else◌, dispatched, dispatch}
use Rattle.internal_methods.specs.Answers.{ask_keys}
use Rattle.internal_methods.specs.Methods.{Context}
use Rattle.internal_methods.specs.Ordinary.{apply_validation}
use Rattle.internal_methods.specs.Internal.{methods}
use Rattle.internal_methods.proofs.Walk.{Any, allowing, Relation, RelatedMethods, AnswerBy, Asking, ask_value-by, ask_boolean-by, ask_prototype-by, ask_descriptor-by, ask_keys-by, methods-by}
use Rattle.property.specs.declared.Property.{Property}

-- the first is a tail of the second
pub data Suffix : List Answer → List Answer → Type 0 where
  same : {a : List Answer} → Suffix a a
  more : {x : Answer} {a b : List Answer} → Suffix a b → Suffix a (x ∷ b)

pub suffix_trans : {a b c : List Answer} → Suffix a b → Suffix b c → Suffix a c
suffix_trans h same = h
suffix_trans h (more i) = more (suffix_trans h i)

suffix-length : {a b : List Answer} → Suffix a b → length a ≤ length b
suffix-length same = le_refl _
suffix-length (more h) = le_trans (suffix-length h) (le-suc _)

-- the answers after the first
abbrev pub rest : List Answer → List Answer
rest [] = []
rest (x ∷ a) = a

suffix-rest : {a : List Answer} (b : List Answer) → Suffix a (rest b) → Suffix a b
suffix-rest [] h = h
suffix-rest (x ∷ b) h = more h

abbrev pub extended : List Answer → State → State
extended x s = state (s.answers ++ x) s.calls

-- the answers that are left
abbrev pub left : {A : Type 0} → Out A → List Answer
left (Out.failed f t) = t.answers
left (Out.done a t) = t.answers

-- the same end, with these answers left
abbrev pub leaving : {A : Type 0} → List Answer → Out A → Out A
leaving x (Out.failed f t) = Out.failed f (state x t.calls)
leaving x (Out.done a t) = Out.done a (state x t.calls)

-- how a run ends, and how it ends with the answers x after those that it has; one that was spent reads the next of them
pub data Follows (x : List Answer) {A : Type 0} : Out A → Out A → Type 0 where
  done : {a : A} {t : State} → Follows x (Out.done a t) (Out.done a (extended x t))
  failed : {f : Failure} {t : State} → Follows x (Out.failed f t) (Out.failed f (extended x t))
  spent : {t : State} {o : Out A} → t.answers ≡ [] → Suffix (left o) (rest x) → Follows x (Out.failed (Refused 8) t) o

pub record Longer {A : Type 0} (m : M A) : Type 0 where
  pub follows : (x : List Answer) (s : State) → Follows x (m.run s) (m.run (extended x s))
  pub shrinks : (s : State) → Suffix (left (m.run s)) s.answers

-- The rules

module _ {A : Type 0} where
  pub longer-pure : (a : A) → Longer (pure a)
  unfolding pure
  longer-pure a = record { follows = λ x s. done; shrinks = λ s. same }

  pub longer-fails : (f : Failure) → Longer (fails {A = A} f)
  unfolding fails
  longer-fails f = record { follows = λ x s. failed; shrinks = λ s. same }

  pub longer-if : {m k : M A} (b : Bool) → Longer m → Longer k → Longer (when◌then◌else◌ b m k)
  unfolding when◌then◌else◌
  longer-if true hm hk = hm
  longer-if false hm hk = hk

module _ {A B : Type 0} {k : A → M B} (hk : (a : A) → Longer (k a)) where
  next-shrinks : (o : Out A) → Suffix (left (next k o)) (left o)
  unfolding next
  next-shrinks (Out.failed f t) = same
  next-shrinks (Out.done a t) = (hk a).shrinks t

  next-follows : {x : List Answer} {o p : Out A} → Follows x o p → Follows x (next k o) (next k p)
  unfolding next
  next-follows {x} (done {a} {t}) = (hk a).follows x t
  next-follows failed = failed
  next-follows (spent {o = o} e h) = spent e (suffix_trans (next-shrinks o) h)

module _ {A B : Type 0} where
  pub longer-bind : {m : M A} {k : A → M B} → Longer m → ((a : A) → Longer (k a)) → Longer (m >>= k)
  unfolding ◌>>=◌
  longer-bind {m} hm hk = record {
    follows = λ x s. next-follows hk (hm.follows x s);
    shrinks = λ s. suffix_trans (next-shrinks hk (m.run s)) (hm.shrinks s);
  }

-- what is thrown ends the run
longer-thrown : {A : Type 0} (k : M A) (f : Failure) → Longer (fails {A = Unit {0}} f >> k)
unfolding fails next ◌>>=◌
longer-thrown k f = record { follows = λ x s. failed; shrinks = λ s. same }

module _ {A : Type 0} {k : M A} where
  pub longer-throw_if : (n : ℕ) (b : Bool) → (b ≡ false → Longer k) → Longer (throw_if n b >> k)
  unfolding throw_if
  longer-throw_if n true h = longer-thrown k _
  longer-throw_if n false h = longer-bind (longer-pure _) (λ _. h refl)

ask-takes : (n : ℕ) (a : List Answer) → Suffix (left (answered n a)) (rest a)
ask-takes n [] = same
ask-takes n (Answer.value v ∷ a) = same
ask-takes n (Answer.descriptor d ∷ a) = same
ask-takes n (Answer.keys ks ∷ a) = same
ask-takes n (Answer.throw v ∷ a) = same

ask-follows : (x : List Answer) (n : ℕ) (a : List Answer) → Follows x (answered n a) (answered n (a ++ x))
ask-follows x n [] = spent refl (ask-takes n x)
ask-follows x n (Answer.value v ∷ a) = done
ask-follows x n (Answer.descriptor d ∷ a) = done
ask-follows x n (Answer.keys ks ∷ a) = done
ask-follows x n (Answer.throw v ∷ a) = failed

pub longer-ask : Longer ask
unfolding ask
longer-ask = record {
  follows = λ x s. ask-follows x s.calls s.answers;
  shrinks = λ s. suffix-rest s.answers (ask-takes s.calls s.answers);
}

tick-shrinks : (a : List Answer) (n : ℕ) → Suffix (left (counted a n)) a
tick-shrinks a zero = same
tick-shrinks a (suc n) = same

tick-follows : (x a : List Answer) (n : ℕ) → Follows x (counted a n) (counted (a ++ x) n)
tick-follows x a zero = failed
tick-follows x a (suc n) = done

pub longer-tick : Longer tick
unfolding tick
longer-tick = record {
  follows = λ x s. tick-follows x s.answers s.calls;
  shrinks = λ s. tick-shrinks s.answers s.calls;
}

module _ {A : Type 0} where
  pub longer-dispatch : {f : OrdinaryObject → M A} {g : ProxyObject → M A} (σ : Store) (o : ℕ)
      → ((r : OrdinaryObject) → lookup σ o ≡ Some (Ordinary r) → Longer (f r)) → ((p : ProxyObject) → lookup σ o ≡ Some (Proxy p) → p.revoked ≡ false → Longer (g p))
      → Longer (dispatch σ o f g)
  unfolding dispatch dispatched
  longer-dispatch {f} {g} σ o hf hg = longer-bind longer-tick (λ _. go (lookup σ o) refl)
    where
      go : (x : Option Object) → lookup σ o ≡ x → Longer (dispatched x f g)
      go None e = longer-fails _
      go (Some (Ordinary r)) e = hf r e
      go (Some (Proxy p)) e = longer-throw_if 1 p.revoked (hg p e)

-- The methods: of their objects and values nothing need be known

pub any-answer : (a : Answer) → AnswerBy Any a
any-answer (Answer.value v) = tt
any-answer (Answer.descriptor d) = tt
any-answer (Answer.keys ks) = tt
any-answer (Answer.throw v) = tt

abbrev pub longer-asking : Asking Any
longer-asking = record {
  reads = λ Q m m'. Longer m;
  gives = λ a _. longer-pure a;
  throws = λ i _. longer-fails _;
  unreadable = longer-fails _;
  binds-value = λ h k. longer-bind h (λ v. k v tt);
  asks = λ k. longer-bind longer-ask (λ a. k a (any-answer a));
}

pub ask_keys-longer : Longer ask_keys
ask_keys-longer = ask_keys-by longer-asking

pub apply_validation-longer : (c : Context) (o : ℕ) (k : PropertyKey) (current : Option Property) (v : Validation) → Longer (apply_validation c o k current v)
unfolding apply_validation
apply_validation-longer c o k current (Rejected t) = longer-pure _
apply_validation-longer c o k current Unchanged = longer-pure _
apply_validation-longer c o k None (Becomes p) = longer-if _ (longer-fails _) (longer-pure _)
apply_validation-longer c o k (Some q) (Becomes p) = longer-pure _

abbrev pub longer-relation : (c : Context) → Relation c c.allowance Any Any (λ _ _. Any)
longer-relation c = record {
  reads = λ Q m m'. Longer m;
  writes = λ m m'. Longer m;
  weaken = λ f h. h;
  gives = λ a _. longer-pure a;
  throws = λ i _. longer-fails _;
  binds = λ h k. longer-bind h k;
  binds-value = λ h k. longer-bind h (λ v. k v tt);
  writes-binds = λ h k. longer-bind h k;
  writes-binds-value = λ h k. longer-bind h (λ v. k v tt);
  writes-binds-own = λ h k. longer-bind h (λ x. k x tt);
  asks-value = ask_value-by longer-asking;
  asks-boolean = ask_boolean-by longer-asking c.strings;
  asks-prototype = ask_prototype-by longer-asking;
  asks-descriptor = ask_descriptor-by longer-asking;
  asks-keys = ask_keys-by longer-asking;
  idle = λ b. longer-pure _;
  puts = λ o r _. longer-pure _;
  removes = λ o k. longer-pure _;
  applies = λ o r e k current _ x d _. apply_validation-longer c o k current _;
  object = λ v _ q _. tt;
  prototype = λ o r _. tt;
  target = λ o p _ _. tt;
  own-found = λ o r e k. tt;
  own-answered = λ o p e k x. tt;
}

pub methods-longer : (n : ℕ) (c : Context) → RelatedMethods (longer-relation c) (methods n c) (methods n (allowing c c.allowance))
methods-longer n c = methods-by (longer-relation c)
    (record { reads = longer-fails _; writes = longer-fails _ })
    (record { reading = λ o _ f g. longer-dispatch c.store o f g; writing = λ o _ f g. longer-dispatch c.store o f g }) n

-- The consequences

module _ {A : Type 0} (m : M A) (h : Longer m) (s : State) where
  -- a run that ends so ends as it does, or uses up its answers, with any answers after them
  pub ends-follow : (o : Out A) → m.run s ≡ o → (x : List Answer) → Follows x o (m.run (extended x s))
  ends-follow o e x = subst (λ p. Follows x p (m.run (extended x s))) e (h.follows x s)

  -- a run that ran out of answers reads all of them, and goes on with those that come after
  pub spent-reads-all : (t : State) → m.run s ≡ Out.failed (Refused 8) t → t.answers ≡ [] → (x : List Answer) → Suffix (left (m.run (extended x s))) x
  spent-reads-all t e empty x = go (ends-follow _ e x)
    where
      go : {o : Out A} → Follows x (Out.failed (Refused 8) t) o → Suffix (left o) x
      go failed = rw empty same
      go (spent e h) = suffix-rest x h

nothing-before : (a x : List Answer) → a ++ x ≡ x → a ≡ []
nothing-before [] x e = refl
nothing-before (y ∷ a) x e =
    let z : length ((y ∷ a) ++ x) ≡ length x = ap length e in
    absurd (not-suc-le_self (length x) (omega (arith, z, length-append (y ∷ a) x)))

module _ {A : Type 0} (m : M A) (h : Longer m) (used : List Answer) (n : ℕ) where
  -- what a run left it has not read: whatever stands in its place, the run ends the same
  pub unread-free : (a : Answer) (x : List Answer) (o : Out A) → m.run (state (used ++ (a ∷ x)) n) ≡ o → left o ≡ a ∷ x → ((t : State) → o ≡ Out.failed (Refused 8) t → ⊥)
      → (others : List Answer) → m.run (state (used ++ others) n) ≡ leaving others o
  unread-free a x o e l unspent others = go (h.follows (a ∷ x) (state used n)) refl e
    where
      done-again : {b : A} {t : State} {q : Out A} → t.answers ≡ [] → Follows others (Out.done b t) q → q ≡ Out.done b (state others t.calls)
      done-again i done = rw i

      failed-again : {f : Failure} {t : State} {q : Out A} → t.answers ≡ [] → (f ≡ Refused 8 → ⊥) → Follows others (Out.failed f t) q → q ≡ Out.failed f (state others t.calls)
      failed-again i j failed = rw i
      failed-again i j (spent k s) = absurd (j refl)

      go : {p q : Out A} → Follows (a ∷ x) p q → m.run (state used n) ≡ p → q ≡ o → m.run (state (used ++ others) n) ≡ leaving others o
      go done i j = done-again (nothing-before _ _ (ap left j ∙ l)) (ends-follow m h (state used n) _ i others) ∙ ap (leaving others) j
      go (failed {t = t}) i j = failed-again (nothing-before _ _ (ap left j ∙ l)) (λ k. unspent _ (sym j ∙ ap (λ (g : Failure). Out.failed g (extended (a ∷ x) t)) k)) (ends-follow m h (state used n) _ i others)
          ∙ ap (leaving others) j
      go (spent k s) i j = absurd (not-suc-le_self (length x) (suffix-length (subst (λ (y : List Answer). Suffix y x) (ap left j ∙ l) s)))
