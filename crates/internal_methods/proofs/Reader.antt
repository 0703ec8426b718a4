-- Refusal 9 comes of the last answer taken, which whoever asked for it cannot read; a throw in its place ends the run in that throw. Assumes nothing.
use Rattle.std.specs.Prelude.{Option, None, Some}
use Prim.Native.Nat.{ℕ, zero, suc}
use mathlib.Core.Path.{◌≡◌, refl, sym, ap, ◌∙◌}
use mathlib.Core.Bool.{Bool, true, false}
use mathlib.Core.List.{List, [], ◌∷◌, ◌++◌, append_assoc}
use lib.Dec.{eqb}
use Rattle.value.specs.declared.Value.{Value}
use Rattle.value.specs.declared.Value.TheVariants as value
use Rattle.value.specs.declared.PropertyKey.{PropertyKey}
use Rattle.property.specs.declared.Validation.{Validation}
use Rattle.property.specs.declared.Validation.TheVariants.{Rejected, Unchanged, Becomes}
use Rattle.text.specs.Strings.{Strings}
use Rattle.store.specs.declared.OrdinaryObject.{OrdinaryObject}
use Rattle.store.specs.declared.ProxyObject.{ProxyObject}
use Rattle.store.specs.declared.Object.{Object}
use Rattle.store.specs.declared.Object.TheVariants.{Ordinary, Proxy}
use Rattle.store.specs.Store.{Store, lookup}
use Rattle.internal_methods.specs.declared.Failure.{Failure}
use Rattle.internal_methods.specs.declared.Failure.TheVariants.{Refused, TypeError, Thrown}
use Rattle.internal_methods.specs.Monad.{Answer, State, state, Out, M, pure, fails, next, ◌>>=◌, ◌>>◌, throw_if, answered, ask, counted, tick, when◌then◌else◌, dispatched, dispatch}
use Rattle.internal_methods.specs.Answers.{as_value, ask_value, ask_boolean, as_prototype, ask_prototype, as_descriptor, ask_descriptor, keys_of, listed, as_keys, ask_keys}
use Rattle.internal_methods.specs.Readable.{Reading, any_value, descriptor, key_list, is_unreadable}
use Rattle.internal_methods.specs.Methods.{Context}
use Rattle.internal_methods.specs.Ordinary.{apply_validation}
use Rattle.internal_methods.specs.Internal.{methods}
use Rattle.internal_methods.proofs.Walk.{Any, allowing, Relation, RelatedMethods, methods-by}
use Rattle.property.specs.declared.Property.{Property}

abbrev pub is_nine : Failure → Bool
is_nine (Refused n) = eqb n 9
is_nine (TypeError n) = false
is_nine (Thrown v) = false

-- how a run ends, by the answers that it took from the front
pub data Ended {A : Type 0} (m : M A) (s : State) : Out A → Type 0 where
  done : {a : A} {t : State} (used : List Answer) → s.answers ≡ used ++ t.answers
      → ((rest : List Answer) → m.run (state (used ++ rest) s.calls) ≡ Out.done a (state rest t.calls)) → Ended m s (Out.done a t)
  unreadable : {t : State} (used : List Answer) (a : Answer) (r : Reading) → is_unreadable r a ≡ true → s.answers ≡ used ++ (a ∷ t.answers)
      → ((v : Value) (rest : List Answer) → m.run (state (used ++ (Answer.throw v ∷ rest)) s.calls) ≡ Out.failed (Thrown v) (state rest t.calls)) → Ended m s (Out.failed (Refused 9) t)
  other : {f : Failure} {t : State} → is_nine f ≡ false → Ended m s (Out.failed f t)

pub record Reader {A : Type 0} (m : M A) : Type 0 where
  pub ended : (s : State) → Ended m s (m.run s)

-- The rules

module _ {A : Type 0} where
  pub reader-pure : (a : A) → Reader (pure a)
  unfolding pure
  reader-pure a = record { ended = λ s. done [] refl (λ rest. refl) }

  pub reader-fails : (f : Failure) → is_nine f ≡ false → Reader (fails {A = A} f)
  unfolding fails
  reader-fails f h = record { ended = λ s. other h }

  pub reader-if : {m k : M A} (b : Bool) → Reader m → Reader k → Reader (when◌then◌else◌ b m k)
  unfolding when◌then◌else◌
  reader-if true hm hk = hm
  reader-if false hm hk = hk

module _ {A B : Type 0} (m : M A) (k : A → M B) (hk : (a : A) → Reader (k a)) where
  then-ended : (s : State) (a : A) (t : State) (used : List Answer) → s.answers ≡ used ++ t.answers
      → ((rest : List Answer) → m.run (state (used ++ rest) s.calls) ≡ Out.done a (state rest t.calls))
      → {o : Out B} → Ended (k a) t o → Ended (m >>= k) s o
  unfolding ◌>>=◌ next
  then-ended s a t used e h (done used₂ e₂ h₂) = done (used ++ used₂)
      (e ∙ (ap (λ (x : List Answer). used ++ x) e₂ ∙ sym (append_assoc used used₂ _)))
      (λ rest. ap (λ (x : List Answer). next k (m.run (state x s.calls))) (append_assoc used used₂ rest) ∙ (ap (next k) (h (used₂ ++ rest)) ∙ h₂ rest))
  then-ended s a t used e h (unreadable used₂ x r u e₂ h₂) = unreadable (used ++ used₂) x r u
      (e ∙ (ap (λ (x : List Answer). used ++ x) e₂ ∙ sym (append_assoc used used₂ _)))
      (λ v rest. ap (λ (x : List Answer). next k (m.run (state x s.calls))) (append_assoc used used₂ _) ∙ (ap (next k) (h (used₂ ++ (Answer.throw v ∷ rest))) ∙ h₂ v rest))
  then-ended s a t used e h (other q) = other q

  bind-ended : (s : State) {o : Out A} → Ended m s o → Ended (m >>= k) s (next k o)
  unfolding ◌>>=◌ next
  bind-ended s (done {a} {t} used e h) = then-ended s a t used e h ((hk a).ended t)
  bind-ended s (unreadable used x r u e h) = unreadable used x r u e (λ v rest. ap (next k) (h v rest))
  bind-ended s (other q) = other q

module _ {A B : Type 0} where
  pub reader-bind : {m : M A} {k : A → M B} → Reader m → ((a : A) → Reader (k a)) → Reader (m >>= k)
  unfolding ◌>>=◌
  reader-bind {m} {k} hm hk = record { ended = λ s. bind-ended m k hk s (hm.ended s) }

reader-tick : Reader tick
unfolding tick
reader-tick = record { ended = λ s. go s.answers s.calls }
  where
    go : (a : List Answer) (n : ℕ) → Ended tick (state a n) (counted a n)
    go a zero = other refl
    go a (suc n) = done [] refl (λ rest. refl)

module _ {A : Type 0} where
  pub reader-dispatch : {f : OrdinaryObject → M A} {g : ProxyObject → M A} (σ : Store) (o : ℕ)
      → ((r : OrdinaryObject) → lookup σ o ≡ Some (Ordinary r) → Reader (f r)) → ((p : ProxyObject) → lookup σ o ≡ Some (Proxy p) → p.revoked ≡ false → Reader (g p)) → Reader (dispatch σ o f g)
  unfolding dispatch dispatched throw_if fails ◌>>=◌ next
  reader-dispatch {f} {g} σ o hf hg = reader-bind reader-tick (λ _. go (lookup σ o) refl)
    where
      revoked : (b : Bool) (p : ProxyObject) → (b ≡ false → Reader (g p)) → Reader (throw_if 1 b >> g p)
      revoked true p h = record { ended = λ s. other refl }
      revoked false p h = reader-bind (reader-pure _) (λ _. h refl)

      go : (x : Option Object) → lookup σ o ≡ x → Reader (dispatched x f g)
      go None e = reader-fails _ refl
      go (Some (Ordinary r)) e = hf r e
      go (Some (Proxy p)) e = revoked p.revoked p (hg p e)

-- The answers

module _ (n : ℕ) where
  value-ended : (a : List Answer) → Ended ask_value (state a n) (next as_value (answered n a))
  unfolding ask_value ◌>>=◌ next ask as_value pure fails
  value-ended [] = other refl
  value-ended (Answer.value v ∷ a) = done (Answer.value v ∷ []) refl (λ rest. refl)
  value-ended (Answer.descriptor d ∷ a) = unreadable [] (Answer.descriptor d) any_value refl refl (λ v rest. refl)
  value-ended (Answer.keys ks ∷ a) = unreadable [] (Answer.keys ks) any_value refl refl (λ v rest. refl)
  value-ended (Answer.throw v ∷ a) = other refl

  prototype-ended : (a : List Answer) → Ended ask_prototype (state a n) (next as_prototype (next as_value (answered n a)))
  unfolding ask_prototype ask_value ◌>>=◌ next ask as_value as_prototype pure fails
  prototype-ended [] = other refl
  prototype-ended (Answer.value value.Null ∷ a) = done (Answer.value value.Null ∷ []) refl (λ rest. refl)
  prototype-ended (Answer.value (value.Object o) ∷ a) = done (Answer.value (value.Object o) ∷ []) refl (λ rest. refl)
  prototype-ended (Answer.value (value.Function f) ∷ a) = done (Answer.value (value.Function f) ∷ []) refl (λ rest. refl)
  prototype-ended (Answer.value value.Undefined ∷ a) = other refl
  prototype-ended (Answer.value (value.Boolean b) ∷ a) = other refl
  prototype-ended (Answer.value (value.Integer32 i) ∷ a) = other refl
  prototype-ended (Answer.value (value.Float64 x) ∷ a) = other refl
  prototype-ended (Answer.value (value.String s) ∷ a) = other refl
  prototype-ended (Answer.value (value.Symbol s) ∷ a) = other refl
  prototype-ended (Answer.descriptor d ∷ a) = unreadable [] (Answer.descriptor d) any_value refl refl (λ v rest. refl)
  prototype-ended (Answer.keys ks ∷ a) = unreadable [] (Answer.keys ks) any_value refl refl (λ v rest. refl)
  prototype-ended (Answer.throw v ∷ a) = other refl

  descriptor-ended : (a : List Answer) → Ended ask_descriptor (state a n) (next as_descriptor (answered n a))
  unfolding ask_descriptor ◌>>=◌ next ask as_descriptor pure fails
  descriptor-ended [] = other refl
  descriptor-ended (Answer.value value.Undefined ∷ a) = done (Answer.value value.Undefined ∷ []) refl (λ rest. refl)
  descriptor-ended (Answer.value (value.Object o) ∷ a) = unreadable [] (Answer.value (value.Object o)) descriptor refl refl (λ v rest. refl)
  descriptor-ended (Answer.value (value.Function f) ∷ a) = unreadable [] (Answer.value (value.Function f)) descriptor refl refl (λ v rest. refl)
  descriptor-ended (Answer.value value.Null ∷ a) = other refl
  descriptor-ended (Answer.value (value.Boolean b) ∷ a) = other refl
  descriptor-ended (Answer.value (value.Integer32 i) ∷ a) = other refl
  descriptor-ended (Answer.value (value.Float64 x) ∷ a) = other refl
  descriptor-ended (Answer.value (value.String s) ∷ a) = other refl
  descriptor-ended (Answer.value (value.Symbol s) ∷ a) = other refl
  descriptor-ended (Answer.descriptor d ∷ a) = done (Answer.descriptor d ∷ []) refl (λ rest. refl)
  descriptor-ended (Answer.keys ks ∷ a) = unreadable [] (Answer.keys ks) descriptor refl refl (λ v rest. refl)
  descriptor-ended (Answer.throw v ∷ a) = other refl

  keys-ended : (a : List Answer) → Ended ask_keys (state a n) (next as_keys (answered n a))
  unfolding ask_keys ◌>>=◌ next ask as_keys pure fails
  keys-ended [] = other refl
  keys-ended (Answer.value (value.Object o) ∷ a) = unreadable [] (Answer.value (value.Object o)) key_list refl refl (λ v rest. refl)
  keys-ended (Answer.value (value.Function f) ∷ a) = unreadable [] (Answer.value (value.Function f)) key_list refl refl (λ v rest. refl)
  keys-ended (Answer.value value.Undefined ∷ a) = other refl
  keys-ended (Answer.value value.Null ∷ a) = other refl
  keys-ended (Answer.value (value.Boolean b) ∷ a) = other refl
  keys-ended (Answer.value (value.Integer32 i) ∷ a) = other refl
  keys-ended (Answer.value (value.Float64 x) ∷ a) = other refl
  keys-ended (Answer.value (value.String s) ∷ a) = other refl
  keys-ended (Answer.value (value.Symbol s) ∷ a) = other refl
  keys-ended (Answer.descriptor d ∷ a) = unreadable [] (Answer.descriptor d) key_list refl refl (λ v rest. refl)
  keys-ended (Answer.keys vs ∷ a) = go (keys_of vs) refl
    where
      go : (x : Option (List PropertyKey)) → keys_of vs ≡ x → Ended ask_keys (state (Answer.keys vs ∷ a) n) ((listed x).run (state a n))
      go None e = other refl
      go (Some ks) e = done (Answer.keys vs ∷ []) refl (λ rest. ap (λ (x : Option (List PropertyKey)). (listed x).run (state rest n)) e)
  keys-ended (Answer.throw v ∷ a) = other refl

pub ask_value-reader : Reader ask_value
unfolding ask_value ◌>>=◌ next ask as_value
ask_value-reader = record { ended = λ s. value-ended s.calls s.answers }

pub ask_boolean-reader : (strings : Strings) → Reader (ask_boolean strings)
unfolding ask_boolean
ask_boolean-reader strings = reader-bind ask_value-reader (λ v. reader-pure _)

pub ask_prototype-reader : Reader ask_prototype
unfolding ask_prototype ask_value ◌>>=◌ next ask as_value as_prototype
ask_prototype-reader = record { ended = λ s. prototype-ended s.calls s.answers }

pub ask_descriptor-reader : Reader ask_descriptor
unfolding ask_descriptor ◌>>=◌ next ask as_descriptor
ask_descriptor-reader = record { ended = λ s. descriptor-ended s.calls s.answers }

pub ask_keys-reader : Reader ask_keys
unfolding ask_keys ◌>>=◌ next ask as_keys
ask_keys-reader = record { ended = λ s. keys-ended s.calls s.answers }

-- The methods

pub apply_validation-reader : (c : Context) (o : ℕ) (k : PropertyKey) (current : Option Property) (v : Validation) → Reader (apply_validation c o k current v)
unfolding apply_validation
apply_validation-reader c o k current (Rejected t) = reader-pure _
apply_validation-reader c o k current Unchanged = reader-pure _
apply_validation-reader c o k None (Becomes p) = reader-if _ (reader-fails _ refl) (reader-pure _)
apply_validation-reader c o k (Some q) (Becomes p) = reader-pure _

abbrev pub reader-relation : (c : Context) → Relation c c.allowance Any Any (λ _ _. Any)
reader-relation c = record {
  reads = λ Q m m'. Reader m;
  writes = λ m m'. Reader m;
  weaken = λ f h. h;
  gives = λ a _. reader-pure a;
  throws = λ i _. reader-fails _ refl;
  binds = λ h k. reader-bind h k;
  binds-value = λ h k. reader-bind h (λ v. k v tt);
  writes-binds = λ h k. reader-bind h k;
  writes-binds-value = λ h k. reader-bind h (λ v. k v tt);
  writes-binds-own = λ h k. reader-bind h (λ x. k x tt);
  asks-value = ask_value-reader;
  asks-boolean = ask_boolean-reader c.strings;
  asks-prototype = ask_prototype-reader;
  asks-descriptor = ask_descriptor-reader;
  asks-keys = ask_keys-reader;
  idle = λ b. reader-pure _;
  puts = λ o r _. reader-pure _;
  removes = λ o k. reader-pure _;
  applies = λ o r e k current _ x d _. apply_validation-reader c o k current _;
  object = λ v _ q _. tt;
  prototype = λ o r _. tt;
  target = λ o p _ _. tt;
  own-found = λ o r e k. tt;
  own-answered = λ o p e k x. tt;
}

pub methods-reader : (n : ℕ) (c : Context) → RelatedMethods (reader-relation c) (methods n c) (methods n (allowing c c.allowance))
methods-reader n c = methods-by (reader-relation c)
    (record { reads = reader-fails _ refl; writes = reader-fails _ refl })
    (record { reading = λ o _ f g. reader-dispatch c.store o f g; writing = λ o _ f g. reader-dispatch c.store o f g }) n
