-- Rules for what a method ensures of its result, wherever it is done. Assumes nothing.
use Rattle.std.specs.Prelude.{Option, None, Some}
use Prim.Native.Nat.{ℕ}
use mathlib.Core.Path.{◌≡◌, refl, subst}
use mathlib.Core.Bool.{Bool, true, false, false≢true}
use Rattle.store.specs.declared.OrdinaryObject.{OrdinaryObject}
use Rattle.store.specs.declared.ProxyObject.{ProxyObject}
use Rattle.store.specs.declared.Object.{Object}
use Rattle.store.specs.declared.Object.TheVariants.{Ordinary, Proxy}
use Rattle.store.specs.Store.{Store, lookup}
use Rattle.internal_methods.specs.declared.Failure.{Failure}
use Rattle.internal_methods.specs.declared.Failure.TheVariants.{Refused, TypeError}
use Rattle.internal_methods.specs.Monad.{State, Out, failed, done, M, pure, fails, next, ◌>>=◌, ◌>>◌, throw_if, throw_any, when◌then◌else◌, dispatched, dispatch}
use Rattle.internal_methods.proofs.Base.{Active}

-- of a method that fails nothing is said
pub record Ensures {A : Type 0} (m : M A) (Q : A → Type 0) : Type 0 where
  pub at : (s : State) (a : A) (t : State) → m.run s ≡ done a t → Q a

module _ {A : Type 0} where
  pub ensures-pure : {Q : A → Type 0} (a : A) → Q a → Ensures (pure a) Q
  unfolding pure
  ensures-pure {Q} a q = record { at = λ s b t e. subst Q (cc) q }

  pub ensures-fails : {Q : A → Type 0} (f : Failure) → Ensures (fails {A = A} f) Q
  unfolding fails
  ensures-fails {Q} f = record { at = λ s b t e. absurd (false≢true (cc)) }

module _ {A B : Type 0} where
  next-done : (k : A → M B) (o : Out A) (b : B) (t : State) → next k o ≡ done b t → (a : A) × (u : State) × (o ≡ done a u) × ((k a).run u ≡ done b t)
  unfolding next
  next-done k (failed f s) b t e = absurd (false≢true (cc))
  next-done k (done a u) b t e = (a, u, refl, e)

  pub ensures-bind : {m : M A} {k : A → M B} {P : A → Type 0} {Q : B → Type 0} → Ensures m P → ((a : A) → P a → Ensures (k a) Q) → Ensures (m >>= k) Q
  unfolding ◌>>=◌
  ensures-bind {m} {k} {P} {Q} hm hk = record {
    at = λ s b t e.
        let (a, u, p, q) = next-done k (m.run s) b t e in
        (hk a (hm.at s a u p)).at u b t q;
  }

module _ {A : Type 0} {Q : A → Type 0} where
  pub ensures-if : {m k : M A} (b : Bool) → (b ≡ true → Ensures m Q) → (b ≡ false → Ensures k Q) → Ensures (when◌then◌else◌ b m k) Q
  unfolding when◌then◌else◌
  ensures-if true f g = f refl
  ensures-if false f g = g refl

  pub ensures-throw_if : {k : M A} (n : ℕ) (b : Bool) → (b ≡ false → Ensures k Q) → Ensures (throw_if n b >> k) Q
  unfolding throw_if
  ensures-throw_if n true h = ensures-bind (ensures-fails {Q = λ _. ⊥} (TypeError n)) (λ a f. absurd f)
  ensures-throw_if n false h = ensures-bind (ensures-pure {Q = λ _. Unit {0}} tt tt) (λ a f. h refl)

  pub ensures-throw_any : {k : M A} (x : Option ℕ) → (x ≡ None → Ensures k Q) → Ensures (throw_any x >> k) Q
  unfolding throw_any
  ensures-throw_any (Some n) h = ensures-bind (ensures-fails {Q = λ _. ⊥} (TypeError n)) (λ a f. absurd f)
  ensures-throw_any None h = ensures-bind (ensures-pure {Q = λ _. Unit {0}} tt tt) (λ a f. h refl)

  -- of what `m` gives nothing need be known
  pub ensures-then : {B : Type 0} {k : B → M A} (m : M B) → ((b : B) → Ensures (k b) Q) → Ensures (m >>= k) Q
  ensures-then m h = ensures-bind {P = λ _. Unit {0}} (record { at = λ _ _ _ _. tt }) (λ b _. h b)

  pub ensures-weaken : {m : M A} {P : A → Type 0} → Ensures m P → ((a : A) → P a → Q a) → Ensures m Q
  ensures-weaken h f = record { at = λ s a t e. f a (h.at s a t e) }

  pub ensures-all : (m : M A) → ((a : A) → Q a) → Ensures m Q
  ensures-all m f = record { at = λ s a t e. f a }

  pub ensures-both : {m : M A} {P : A → Type 0} → Ensures m P → Ensures m Q → Ensures m (λ a. P a × Q a)
  ensures-both f g = record { at = λ s a t e. (f.at s a t e, g.at s a t e) }

  -- whether there is an object or not
  pub ensures-option : {m : M A} {f : ℕ → M A} (x : Option ℕ) → Ensures m Q → ((q : ℕ) → Ensures (f q) Q) → Ensures (elim x [ None ↦ m | Some q ↦ f q ]) Q
  ensures-option None g h = g
  ensures-option (Some q) g h = h q

  pub ensures-dispatch : {f : OrdinaryObject → M A} {g : ProxyObject → M A} (σ : Store) (o : ℕ)
      → ((r : OrdinaryObject) → lookup σ o ≡ Some (Ordinary r) → Ensures (f r) Q)
      → ((p : ProxyObject) → Active σ o p → Ensures (g p) Q)
      → Ensures (dispatch σ o f g) Q
  unfolding dispatch dispatched
  ensures-dispatch {f} {g} σ o hf hg = ensures-then _ (λ _. go (lookup σ o) refl)
    where
      go : (x : Option Object) → lookup σ o ≡ x → Ensures (dispatched x f g) Q
      go None e = ensures-fails (Refused 2)
      go (Some (Ordinary r)) e = hf r e
      go (Some (Proxy p)) e = ensures-throw_if 1 p.revoked (λ f. hg p (record { found = e; unrevoked = f }))
