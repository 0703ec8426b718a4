-- In every world of a list of calls, the bound on the walk of 10.1.2.1 step 7 never decides. Assumes nothing.
use Rattle.std.specs.Prelude.{Option, None, Some}
use Prim.Native.Nat.{ℕ, ◌≤◌, ◌<◌}
use mathlib.Core.Path.{◌≡◌, refl, sym, ◌∙◌}
use mathlib.Core.Bool.{Bool, true, false, false≢true}
use mathlib.Core.List.{List}
use lib.ListN.{length}
use borrow.Author.Tests.{ltb-true}
use Rattle.value.specs.declared.Value.{Value}
use Rattle.value.specs.Value.{object_of}
use Rattle.store.specs.declared.Object.{Object}
use Rattle.store.specs.declared.Object.TheVariants.{Ordinary, Proxy}
use Rattle.store.specs.Store.{Store, World, empty, lookup, live_count, maximum_objects}
use Rattle.store.proofs.StoreLaws.{Fresh, lookup-empty}
use Rattle.store.proofs.NumberLaws.{numbered-fresh}
use Rattle.internal_methods.specs.Monad.{State, Out, M}
use Rattle.internal_methods.specs.Methods.{Context, Written}
use Rattle.internal_methods.specs.Ordinary.{reaches}
use Rattle.internal_methods.proofs.Ensures.{Ensures, ensures-pure, ensures-fails, ensures-bind, ensures-if, ensures-then}
use Rattle.internal_methods.proofs.StoreClosed.{MadeValue, MadeObject}
use Rattle.internal_methods.proofs.Chain.{Chain, value, Ends, proxies-alike, walk-enough, ends-put, ends-add, ends-released, set_prototype_of-ends, prevent_extensions-ends, define_own_property-ends, set-ends, delete-ends}
use Rattle.steps.specs.Operation.{Level, Operation, make_object, make_proxy, revoke, get_prototype_of, set_prototype_of, is_extensible, prevent_extensions, get_own_property, define_own_property, has_property, get, set, delete, own_property_keys, make_function, release, set_integrity_level, test_integrity_level, asked}
use Rattle.steps.specs.Sequence.{written}
use Rattle.steps.specs.Perform.{Result, keys, own_result, boolean, once, in_turn, reading, writing, make, revoked, maximum_calls, perform}
use Rattle.steps.specs.Step.{context_of, ran}
use Rattle.steps.specs.Run.{Call, world_at}
use Rattle.steps.proofs.Sequences.{Led, leads-pure, leads-bind}
use Rattle.steps.proofs.Integrity.{integrity-ends}
use Rattle.steps.proofs.Made.{MadeOperation, names-made}
use Rattle.steps.proofs.Places.{Coherent, Gives, gives, kept_at}

-- Operations ----------------------------------------------------------------------------

abbrev EndsIn : Result × Store → Type 0
EndsIn a = Ends a.1

-- a run that writes at most once
once-ends : (σ : Store) → Ends σ → (m : M (Result × Store)) → Ensures m EndsIn → (s : State) → Ends ((once σ m).run s).1
unfolding once
once-ends σ h m e s = go (m.run s) refl
  where
    go : (x : Out (Result × Store)) → m.run s ≡ x → Ends (written σ x).1
    go (Out.failed f t) i = h
    go (Out.done a t) i = e.at s a t i

module _ (c : Context) (h : Ends c.store) (fresh : live_count c.store < maximum_objects → Fresh c.store) where
  reads : {A : Type 0} (result : A → Result) (m : M A) (s : State) → Ends ((once c.store (reading c.store result m)).run s).1
  reads result m = once-ends c.store h _ (ensures-then m (λ a. ensures-pure _ h))

  writes : (m : M Written) → Ensures m (λ a. Ends a.1) → (s : State) → Ends ((once c.store (writing m)).run s).1
  writes m e = once-ends c.store h _ (ensures-bind e (λ a k. ensures-pure _ k))

  makes : (x : Object) (b : Bool) → MadeObject c.store x → (s : State) → Ends ((once c.store (make c.store x b)).run s).1
  unfolding make
  makes x b m = once-ends c.store h _ (ensures-if _ (λ l. ensures-pure _ (ends-add c.store (fresh (ltb-true _ _ l)) x b m h)) (λ _. ensures-fails _))

  revokes : (o : ℕ) (x : Option Object) → lookup c.store o ≡ x → Ends (revoked c.store o x)
  revokes o None e = h
  revokes o (Some (Ordinary r)) e = h
  revokes o (Some (Proxy p)) e = ends-put c.store o _ _ e proxies-alike h

  -- what writes as it goes
  sets : (n o : ℕ) (level : Level) (s : State) → Ends ((perform n c (set_integrity_level o level)).run s).1
  unfolding perform in_turn
  sets n o level s = go ((leads-bind (integrity-ends n c o level) (λ b. leads-pure (boolean b) (λ σ q. by σ b q))).from c.store h s)
    where
      by : (τ : Store) (b : Bool) → (b ≡ true → Ends τ) × (b ≡ false → Ends τ) → Ends τ
      by τ true q = q.0 refl
      by τ false q = q.1 refl

      go : {x : Out Result} {τ : Store} → Led (λ r υ. Ends υ) (λ f υ. Ends υ) x τ → Ends τ
      go (Led.failed e) = e
      go (Led.done e) = e

  perform-ends : (n : ℕ) (asks : Operation) → MadeOperation c.store asks → (s : State) → Ends ((perform n c asks).run s).1
  unfolding perform
  perform-ends n (make_object v) m = makes _ _ m
  perform-ends n (make_proxy o traps) m = makes _ _ (λ _. m)
  perform-ends n (revoke o) m = once-ends c.store h _ (ensures-pure _ (revokes o (lookup c.store o) refl))
  perform-ends n (get_prototype_of o) m = reads _ _
  perform-ends n (set_prototype_of o v) m = writes _ (set_prototype_of-ends c h n o v m.1)
  perform-ends n (is_extensible o) m = reads boolean _
  perform-ends n (prevent_extensions o) m = writes _ (prevent_extensions-ends c h n o)
  perform-ends n (get_own_property o k) m = reads own_result _
  perform-ends n (define_own_property o k d) m = writes _ (define_own_property-ends c h n o k d)
  perform-ends n (has_property o k) m = reads boolean _
  perform-ends n (get o k receiver) m = reads _ _
  perform-ends n (set o k v receiver) m = writes _ (set-ends c h n o k v receiver)
  perform-ends n (delete o k) m = writes _ (delete-ends c h n o k)
  perform-ends n (own_property_keys o) m = reads keys _
  perform-ends n (make_function v) m = makes _ _ m
  perform-ends n (release o) m = once-ends c.store h _ (ensures-pure _ (ends-released c.store o h m.1))
  perform-ends n (set_integrity_level o level) m = sets n o level
  perform-ends n (test_integrity_level o level) m = reads boolean _

-- Calls ---------------------------------------------------------------------------------

given-ends : (ω : World) → Coherent ω.store → Ends ω.store → (σ : Store) → Gives ω σ → Ends σ
unfolding ran
given-ends ω i h σ (gives bytes sheet p) = perform-ends (context_of ω) h (numbered-fresh ω.store i.numbered) maximum_calls (asked bytes) (names-made ω bytes sheet p).operation _

ends-empty : Ends empty.store
ends-empty = record { chain = λ v m. go v m (object_of v) refl }
  where
    go : (v : Value) → MadeValue empty.store v → (x : Option ℕ) → object_of v ≡ x → (n : ℕ) × Chain empty.store n v
    go v m None e = (0, value e)
    go v m (Some q) e = let (x, f) = m.made q e in let g : None ≡ Some x = sym (lookup-empty q) ∙ f in absurd (false≢true cc)

-- in every world of a list of calls, the chain of prototypes from each object ends
pub ends_at : (calls : List Call) (i : ℕ) → Ends (world_at calls i).store
ends_at calls i = kept_at Ends ends-empty given-ends calls i

-- and to walk further than there are objects changes nothing: the walk has met o, or has come to the chain's end
pub walk-bounded : (calls : List Call) (i o : ℕ) (v : Value) → MadeValue (world_at calls i).store v → (n : ℕ) → length (world_at calls i).store.objects ≤ n
    → reaches n (world_at calls i).store o v ≡ reaches (length (world_at calls i).store.objects) (world_at calls i).store o v
walk-bounded calls i o v m n l = walk-enough (world_at calls i).store (ends_at calls i) o v m n l
