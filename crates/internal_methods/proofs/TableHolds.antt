-- The table of what each trap, getter and setter can read holds. Assumes nothing.
use Rattle.std.specs.Prelude.{Option, None, Some}
use Prim.Native.Nat.{ℕ, suc}
use mathlib.Core.Path.{◌≡◌, refl, sym, ap, ◌∙◌}
use mathlib.Core.Bool.{Bool, true, false, not, false≢true}
use mathlib.Core.List.{List, [], ◌∷◌, ◌++◌}
use Rattle.value.specs.declared.Value.{Value}
use Rattle.value.specs.declared.Value.TheVariants as value
use Rattle.value.specs.declared.PropertyKey.{PropertyKey}
use Rattle.value.specs.Value.{is_undefined, to_boolean}
use Rattle.property.specs.declared.Property.TheVariants.{Accessor}
use Rattle.text.specs.Strings.{Strings, length_of}
use Rattle.store.specs.declared.OrdinaryObject.{OrdinaryObject}
use Rattle.store.specs.declared.ProxyObject.{ProxyObject}
use Rattle.store.specs.declared.Object.TheVariants.{Proxy}
use Rattle.store.specs.Store.{lookup}
use Rattle.internal_methods.specs.declared.Failure.{Failure}
use Rattle.internal_methods.specs.declared.Failure.TheVariants.{Refused}
use Rattle.internal_methods.specs.Monad.{Answer, State, state, Out, failed, M, pure, fails, next, ◌>>=◌, ◌>>◌, throw_if, ask, tick, when◌then◌else◌, dispatched, dispatch}
use Rattle.internal_methods.specs.Answers.{as_value, ask_value, ask_boolean, as_prototype, ask_prototype, as_descriptor, ask_descriptor, keys_of, listed, as_keys, ask_keys}
use Rattle.internal_methods.specs.Methods.{Context, Written, Methods}
use Rattle.internal_methods.specs.Ordinary.{ordinary_get, ordinary_set}
use Rattle.internal_methods.specs.Proxy.{has_trap}
use Rattle.internal_methods.specs.Internal.{methods}
use Rattle.internal_methods.specs.Readable.{Reading, any_value, descriptor, key_list, is_unreadable, ReadsAs, HasTrap, HasAccessor, TableHolds}
use Rattle.internal_methods.proofs.OrdinaryRuns.{ordinary-run, own-run}
use Rattle.internal_methods.proofs.Walk.{Any, any-descriptor, allowing, Trapped, TrappedWrite, get_prototype_of-proxy, set_prototype_of-proxy, is_extensible-proxy, prevent_extensions-proxy, get_own_property-proxy, define_own_property-proxy, has_property-proxy, get-proxy, set-proxy, delete-proxy, own_property_keys-proxy}
use Rattle.internal_methods.proofs.Walk as walk
use Rattle.internal_methods.proofs.Reader.{is_nine, Ended, Reader, reader-pure, reader-relation, methods-reader}
use Rattle.internal_methods.proofs.Reader as reader

-- without an answer there is none that cannot be read
no_answer : {A : Type 0} {m : M A} → Reader m → (n : ℕ) (s : State) → m.run (state [] n) ≡ failed (Refused 9) s → ⊥
no_answer {A} {m} h n s e = go (h.ended (state [] n)) e
  where
    not-empty : (used : List Answer) (a : Answer) (rest : List Answer) → [] ≡ used ++ (a ∷ rest) → ⊥
    not-empty [] a rest q = false≢true cc
    not-empty (x ∷ used) a rest q = false≢true cc

    go : {o : Out A} → Ended m (state [] n) o → o ≡ failed (Refused 9) s → ⊥
    go (reader.done used q h) e = false≢true cc
    go (reader.unreadable used a r u q h) e = not-empty used a _ q
    go (reader.other {f} q) e = let g : f ≡ Refused 9 = cc in false≢true (sym q ∙ ap is_nine g)

-- What comes of one answer

-- it stops the run, or the run goes on or ends in another way
data Asked (n : ℕ) {A : Type 0} : Bool → Out A → Type 0 where
  stop : Asked n true (Out.failed (Refused 9) (state [] n))
  on : {a : A} → Asked n false (Out.done a (state [] n))
  out : {f : Failure} {t : State} → is_nine f ≡ false → Asked n false (Out.failed f t)

record Asks (r : Reading) {A : Type 0} (m : M A) : Type 0 where
  asked : (a : Answer) (n : ℕ) → Asked n (is_unreadable r a) (m.run (state (a ∷ []) n))

value-asked : (a : Answer) (n : ℕ) → Asked n (is_unreadable any_value a) (ask_value.run (state (a ∷ []) n))
unfolding ask_value ◌>>=◌ next ask as_value pure fails
value-asked (Answer.value v) n = on
value-asked (Answer.descriptor d) n = stop
value-asked (Answer.keys ks) n = stop
value-asked (Answer.throw v) n = out refl

boolean-asked : (strings : Strings) (a : Answer) (n : ℕ) → Asked n (is_unreadable any_value a) ((ask_boolean strings).run (state (a ∷ []) n))
unfolding ask_boolean ◌>>=◌ next pure
boolean-asked strings a n = go (value-asked a n)
  where
    go : {b : Bool} {o : Out Value} → Asked n b o → Asked n b (next (λ v. pure (to_boolean (length_of strings) v)) o)
    go stop = stop
    go on = on
    go (out q) = out q

prototype-asked : (a : Answer) (n : ℕ) → Asked n (is_unreadable any_value a) (ask_prototype.run (state (a ∷ []) n))
unfolding ask_prototype ask_value ◌>>=◌ next ask as_value as_prototype pure fails
prototype-asked (Answer.value value.Undefined) n = out refl
prototype-asked (Answer.value value.Null) n = on
prototype-asked (Answer.value (value.Boolean b)) n = out refl
prototype-asked (Answer.value (value.Integer32 i)) n = out refl
prototype-asked (Answer.value (value.Float64 x)) n = out refl
prototype-asked (Answer.value (value.String s)) n = out refl
prototype-asked (Answer.value (value.Symbol s)) n = out refl
prototype-asked (Answer.value (value.Object o)) n = on
prototype-asked (Answer.value (value.Function f)) n = on
prototype-asked (Answer.descriptor d) n = stop
prototype-asked (Answer.keys vs) n = stop
prototype-asked (Answer.throw v) n = out refl

descriptor-asked : (a : Answer) (n : ℕ) → Asked n (is_unreadable descriptor a) (ask_descriptor.run (state (a ∷ []) n))
unfolding ask_descriptor ◌>>=◌ next ask as_descriptor pure fails
descriptor-asked (Answer.value value.Undefined) n = on
descriptor-asked (Answer.value value.Null) n = out refl
descriptor-asked (Answer.value (value.Boolean b)) n = out refl
descriptor-asked (Answer.value (value.Integer32 i)) n = out refl
descriptor-asked (Answer.value (value.Float64 x)) n = out refl
descriptor-asked (Answer.value (value.String s)) n = out refl
descriptor-asked (Answer.value (value.Symbol s)) n = out refl
descriptor-asked (Answer.value (value.Object o)) n = stop
descriptor-asked (Answer.value (value.Function f)) n = stop
descriptor-asked (Answer.descriptor d) n = on
descriptor-asked (Answer.keys vs) n = stop
descriptor-asked (Answer.throw v) n = out refl

keys-asked : (a : Answer) (n : ℕ) → Asked n (is_unreadable key_list a) (ask_keys.run (state (a ∷ []) n))
unfolding ask_keys ◌>>=◌ next ask as_keys pure fails
keys-asked (Answer.value value.Undefined) n = out refl
keys-asked (Answer.value value.Null) n = out refl
keys-asked (Answer.value (value.Boolean b)) n = out refl
keys-asked (Answer.value (value.Integer32 i)) n = out refl
keys-asked (Answer.value (value.Float64 x)) n = out refl
keys-asked (Answer.value (value.String s)) n = out refl
keys-asked (Answer.value (value.Symbol s)) n = out refl
keys-asked (Answer.value (value.Object o)) n = stop
keys-asked (Answer.value (value.Function f)) n = stop
keys-asked (Answer.descriptor d) n = stop
keys-asked (Answer.keys vs) n = go (keys_of vs)
  where
    go : (x : Option (List PropertyKey)) → Asked n false ((listed x).run (state [] n))
    go None = out refl
    go (Some ks) = on
keys-asked (Answer.throw v) n = out refl

-- What is asked for first decides

module _ {r : Reading} {A B : Type 0} {ask : M A} (asks : Asks r ask) (k : A → M B) (hk : (x : A) → Reader (k x)) (n : ℕ) where
  stopped : {b : Bool} {o : Out A} → Asked n b o → b ≡ true → next k o ≡ failed (Refused 9) (state [] n)
  unfolding next
  stopped stop h = refl
  stopped on h = absurd (false≢true h)
  stopped (out q) h = absurd (false≢true h)

  not_stopped : {b : Bool} {o : Out A} → Asked n b o → b ≡ false → (s : State) → next k o ≡ failed (Refused 9) s → ⊥
  unfolding next
  not_stopped stop h s e = false≢true (sym h)
  not_stopped (on {a}) h s e = no_answer (hk a) n s e
  not_stopped (out {f} q) h s e = let g : f ≡ Refused 9 = cc in false≢true (sym q ∙ ap is_nine g)

  first : ReadsAs r (ask >>= k) n
  unfolding ◌>>=◌
  first = record { refuses = λ a h. (state [] n, stopped (asks.asked a n) h); takes = λ a h. not_stopped (asks.asked a n) h }

-- a proxy that has the trap takes its answer first
module _ {c : Context} {r : Reading} {A : Type 0} {ask : M A} (asks : Asks r ask) (n : ℕ) where
  trapped-first : (b : Bool) {B : Type 0} {m m' : M B} → Trapped (reader-relation c) b Any Any ask m m' → b ≡ false → ReadsAs r m n
  unfolding when◌then◌else◌
  trapped-first true t e = absurd (false≢true (sym e))
  trapped-first false (walk.trapped {k = k} ha hm hk) e = first asks k (λ x. hk x tt) n

  trapped-write-first : (b : Bool) {m m' : M Written} → TrappedWrite (reader-relation c) b Any ask m m' → b ≡ false → ReadsAs r m n
  unfolding when◌then◌else◌
  trapped-write-first true t e = absurd (false≢true (sym e))
  trapped-write-first false (walk.TrappedWrite.trapped {k = k} ha hm hk) e = first asks k (λ x. hk x tt) n

-- The table

same-run : {r : Reading} {A : Type 0} {m k : M A} {n l : ℕ} → ((a : Answer) → m.run (state (a ∷ []) n) ≡ k.run (state (a ∷ []) l)) → ReadsAs r k l → ReadsAs r m n
same-run e h = record {
  refuses = λ a u. let (s, q) = h.refuses a u in (s, e a ∙ q);
  takes = λ a u s q. h.takes a u s (sym (e a) ∙ q);
}

module _ (c : Context) (n calls o : ℕ) where
  abbrev call : Methods
  call = methods n c

  dispatched-to : {A : Type 0} (f : OrdinaryObject → M A) (g : ProxyObject → M A) (p : ProxyObject) → lookup c.store o ≡ Some (Proxy p) → p.revoked ≡ false
      → (a : Answer) → (dispatch c.store o f g).run (state (a ∷ []) (suc calls)) ≡ (g p).run (state (a ∷ []) calls)
  unfolding dispatch dispatched tick ◌>>=◌ next throw_if pure
  dispatched-to f g p e r a = rw (e, r)

  of-trap : {i : ℕ} {r : Reading} {A : Type 0} (f : OrdinaryObject → M A) (g : ProxyObject → M A) (h : HasTrap c o i) → ((p : ProxyObject) → has_trap p i ≡ true → ReadsAs r (g p) calls)
      → ReadsAs r (dispatch c.store o f g) (suc calls)
  of-trap f g h k = same-run (dispatched-to f g h.proxy h.found h.alive) (k h.proxy h.trap)

  no-forward : (p : ProxyObject) (i : ℕ) → has_trap p i ≡ true → not (has_trap p i) ≡ false
  no-forward p i h = ap not h

  asks-value : Asks any_value ask_value
  asks-value = record { asked = value-asked }

  asks-boolean : Asks any_value (ask_boolean c.strings)
  asks-boolean = record { asked = boolean-asked c.strings }

  -- an ordinary object finds its own accessor, after two calls
  module _ (k : PropertyKey) (g s : Value) (h : HasAccessor c o k g s) (a : Answer) where
    own_read : ((methods (suc n) c).get_own_property o k).run (state (a ∷ []) (suc calls)) ≡ Out.done (Some (Accessor g s h.enumerable h.configurable)) (state (a ∷ []) calls)
    own_read = own-run c o h.object h.found (a ∷ []) n calls k _ h.is

    get-asks : (receiver : Value) → is_undefined g ≡ false → (ordinary_get (methods (suc n) c) o k receiver).run (state (a ∷ []) (suc calls)) ≡ ask_value.run (state (a ∷ []) calls)
    unfolding ordinary_get ◌>>=◌ next when◌then◌else◌
    get-asks receiver u = rw own_read (rw (u, next))

    accessor-got : (receiver : Value) → is_undefined g ≡ false → ((methods (suc (suc n)) c).get o k receiver).run (state (a ∷ []) (suc (suc calls))) ≡ ask_value.run (state (a ∷ []) calls)
    unfolding methods
    accessor-got receiver u = ordinary-run _ o _ _ h.object h.found (a ∷ []) (suc calls) ∙ get-asks receiver u

    set-asks : (v receiver : Value) → is_undefined s ≡ false → (ordinary_set c (methods (suc n) c) o k v receiver).run (state (a ∷ []) (suc calls)) ≡ (ask_value >> pure (true, c.store)).run (state (a ∷ []) calls)
    unfolding ordinary_set ◌>>=◌ next when◌then◌else◌
    set-asks v receiver u = rw own_read (rw (u, next))

    accessor-set : (v receiver : Value) → is_undefined s ≡ false → ((methods (suc (suc n)) c).set o k v receiver).run (state (a ∷ []) (suc (suc calls))) ≡ (ask_value >> pure (true, c.store)).run (state (a ∷ []) calls)
    unfolding methods
    accessor-set v receiver u = ordinary-run _ o _ _ h.object h.found (a ∷ []) (suc calls) ∙ set-asks v receiver u

  pub table-holds : TableHolds c n calls o
  unfolding methods
  table-holds = let h = methods-reader n c in let c' = allowing c c.allowance in let R = reader-relation c in record {
    get_prototype_of = λ t. of-trap _ _ t (λ p i. trapped-first (record { asked = prototype-asked }) calls _ (get_prototype_of-proxy R call (methods n c') h p tt) (no-forward p 0 i));
    set_prototype_of = λ t v. of-trap _ _ t (λ p i. trapped-write-first asks-boolean calls _ (set_prototype_of-proxy R call (methods n c') h p tt v tt) (no-forward p 1 i));
    is_extensible = λ t. of-trap _ _ t (λ p i. trapped-first asks-boolean calls _ (is_extensible-proxy R call (methods n c') h p tt) (no-forward p 2 i));
    prevent_extensions = λ t. of-trap _ _ t (λ p i. trapped-write-first asks-boolean calls _ (prevent_extensions-proxy R call (methods n c') h p tt) (no-forward p 3 i));
    get_own_property = λ t k. of-trap _ _ t (λ p i. trapped-first (record { asked = descriptor-asked }) calls _ (get_own_property-proxy R call (methods n c') h p tt k) (no-forward p 4 i));
    define_own_property = λ t k d. of-trap _ _ t (λ p i. trapped-write-first asks-boolean calls _ (define_own_property-proxy R call (methods n c') h p tt k d (any-descriptor d)) (no-forward p 5 i));
    has_property = λ t k. of-trap _ _ t (λ p i. trapped-first asks-boolean calls _ (has_property-proxy R call (methods n c') h p tt k) (no-forward p 6 i));
    get = λ t k receiver. of-trap _ _ t (λ p i. trapped-first asks-value calls _ (get-proxy R call (methods n c') h p tt k receiver) (no-forward p 7 i));
    set = λ t k v receiver. of-trap _ _ t (λ p i. trapped-write-first asks-boolean calls _ (set-proxy R call (methods n c') h p tt k v receiver tt tt) (no-forward p 8 i));
    delete = λ t k. of-trap _ _ t (λ p i. trapped-write-first asks-boolean calls _ (delete-proxy R call (methods n c') h p tt k) (no-forward p 9 i));
    own_property_keys = λ t. of-trap _ _ t (λ p i. trapped-first (record { asked = keys-asked }) calls _ (own_property_keys-proxy R call (methods n c') h p tt) (no-forward p 10 i));
    getter = λ k g s receiver t u. same-run (λ a. accessor-got k g s t a receiver u) alone;
    setter = λ k g s v receiver t u. same-run (λ a. accessor-set k g s t a v receiver u) (first asks-value _ (λ _. reader-pure _) calls);
  }
    where
      alone : ReadsAs any_value ask_value calls
      alone = record {
        refuses = λ a h. (state [] calls, is-stopped (value-asked a calls) h);
        takes = λ a h s e. is-taken (value-asked a calls) h s e;
      }
        where
          is-stopped : {b : Bool} {x : Out Value} → Asked calls b x → b ≡ true → x ≡ failed (Refused 9) (state [] calls)
          is-stopped stop h = refl
          is-stopped on h = absurd (false≢true h)
          is-stopped (out q) h = absurd (false≢true h)

          is-taken : {b : Bool} {x : Out Value} → Asked calls b x → b ≡ false → (s : State) → x ≡ failed (Refused 9) s → ⊥
          is-taken stop h s e = false≢true (sym h)
          is-taken on h s e = false≢true cc
          is-taken (out {f} q) h s e = let g : f ≡ Refused 9 = cc in false≢true (sym q ∙ ap is_nine g)
