-- The world at each place of a list of calls: what holds of every one of them, and how they follow one another. Assumes nothing.
use Rattle.std.specs.Prelude.{Option, None, Some}
use Prim.Native.Nat.{ℕ, zero, suc}
use native.Mathlib.Nat.{le_refl}
use mathlib.Core.Path.{◌≡◌, refl, sym, ap, ◌∙◌, subst}
use mathlib.Core.Bool.{true, false≢true}
use mathlib.Core.List.{List, [], ◌∷◌}
use Rattle.store.specs.declared.Object.{Object}
use Rattle.store.specs.declared.Object.TheVariants.{Ordinary, Proxy}
use Rattle.store.specs.Store.{Store, World, empty, lookup, own, find}
use Rattle.store.specs.Release
use Rattle.store.proofs.StoreLaws.{lookup-empty}
use Rattle.store.proofs.NumberLaws.{Numbered, numbered-same, numbered-fresh, numbered-add, numbered-release, numbered-empty}
use Rattle.internal_methods.specs.Monad.{Out}
use Rattle.internal_methods.proofs.Later.{Grows, grows-refl, grows-add}
use Rattle.internal_methods.proofs.StoreClosed.{Closed}
use Rattle.record.specs.Tests.{first_failing}
use Rattle.steps.specs.Operation.{Operation, release, asked}
use Rattle.steps.specs.Sequence.{Ran}
use Rattle.steps.specs.Perform.{Result, boolean, maximum_calls}
use Rattle.steps.specs.Response.{result, Effect}
use Rattle.steps.specs.Step.{record_tests, context_of, ran}
use Rattle.steps.specs.Run.{Call, effect, Event, At, run_from, world_from, world_at}
use Rattle.steps.specs.Run as call
use Rattle.steps.proofs.Made.{MadeOperation, names-made}
use Rattle.steps.proofs.Steps.{Ends, ends, kept_by, EntryEnds, refuses, enters, entry-ends}
use Rattle.steps.proofs.Performs.{performs}
use Rattle.steps.proofs.Pages.{page-leaves}
use Rattle.steps.proofs.Performed.{Moves, result_of, Said, performed}

-- what a run says
pub ran-said : (ω : World) (bytes sheet : List ℕ) → Said ω.store (asked bytes) (ran ω bytes sheet)
unfolding ran
ran-said ω bytes sheet = performed maximum_calls (context_of ω) (asked bytes) _

-- the store that a run over a world leaves, whatever its end
pub data Gives (ω : World) : Store → Type 0 where
  gives : (bytes sheet : List ℕ) → first_failing (record_tests ω bytes sheet) ≡ None → Gives ω (ran ω bytes sheet).1

entry_kept : (ω : World) (units : List ℕ) (P : Store → Type 0) → P ω.store → {x : Effect} → EntryEnds ω units x → P x.world.store
entry_kept ω units P h (refuses e) = h
entry_kept ω units P h (enters e) = h

-- what holds of a store and of all that runs give from it holds after a call
pub effect-kept : (ω : World) (P : Store → Type 0) → P ω.store → ((σ : Store) → Gives ω σ → P σ) → (c : Call) → P (effect ω c).world.store
unfolding effect
effect-kept ω P h f (call.step bytes sheet output) = kept_by ω bytes sheet output P h (λ p. f _ (gives bytes sheet p)) (ends ω bytes sheet output)
effect-kept ω P h f (call.enter units) = entry_kept ω units P h (entry-ends ω units)
effect-kept ω P h f (call.page o output) = rw (page-leaves ω o output) h

-- what holds of a store and passes from each to all that runs give from it holds at every place
pub kept_from : (P : Store → Type 0) → ((ω : World) → P ω.store → (σ : Store) → Gives ω σ → P σ) → (ω : World) (cs : List Call) (i : ℕ) → P ω.store → P (world_from ω cs i).store
unfolding world_from
kept_from P f ω cs zero h = h
kept_from P f ω [] (suc i) h = h
kept_from P f ω (c ∷ cs) (suc i) h = kept_from P f (effect ω c).world cs i (effect-kept ω P h (f ω h) c)

-- Live objects and their numbers ------------------------------------------------------------

-- live objects name only live objects, and the next number is free
pub record Coherent (σ : Store) : Type 0 where
  pub closed : Closed σ
  pub numbered : Numbered σ

coherent-empty : Coherent empty.store
unfolding own find
coherent-empty = record {
  closed = record {
    ordinary = λ o r e. absurd (nothing o (Ordinary r) e);
    proxy = λ o p e _. absurd (nothing o (Proxy p) e);
    owned = λ o k p e. absurd (false≢true cc);
    named = λ o k p e. absurd (false≢true cc);
  };
  numbered = numbered-empty;
}
  where
    nothing : (o : ℕ) (x : Object) → lookup empty.store o ≡ Some x → ⊥
    nothing o x e = let p : None ≡ Some x = sym (lookup-empty o) ∙ e in false≢true cc

numbered-moves : {σ τ : Store} {asks : Operation} {r : Option Result} → Numbered σ → MadeOperation σ asks → Moves σ asks r τ → Numbered τ
numbered-moves n m (Moves.remains h) = numbered-same h.numbers n
numbered-moves {σ} n m (Moves.makes x b _ _ h _ e) = subst Numbered (sym e) (numbered-add σ n h x b)
numbered-moves {σ} n m (Moves.releases o a _ e) =
    let ((x, f), _) = subst (MadeOperation σ) a m in
    subst Numbered (sym e) (numbered-release σ n o x f)

coherent-given : (ω : World) → Coherent ω.store → (σ : Store) → Gives ω σ → Coherent σ
unfolding ran
coherent-given ω h σ (gives bytes sheet p) =
    let m = names-made ω bytes sheet p in
    record {
      closed = (performs (context_of ω) maximum_calls h.closed (numbered-fresh ω.store h.numbered) (asked bytes) m.operation).closes _ (le_refl _) m.answers;
      numbered = numbered-moves h.numbered m.operation (ran-said ω bytes sheet).moves;
    }

pub coherent-at : (calls : List Call) (i : ℕ) → Coherent (world_at calls i).store
coherent-at calls i = kept_from Coherent coherent-given empty calls i coherent-empty

-- what holds of the empty store and passes from each coherent one to all that runs give from it holds at every place
pub kept_at : (P : Store → Type 0) → P empty.store → ((ω : World) → Coherent ω.store → P ω.store → (σ : Store) → Gives ω σ → P σ) → (calls : List Call) (i : ℕ) → P (world_at calls i).store
kept_at P z f calls i = (kept_from (λ σ. Coherent σ × P σ) (λ ω h σ g. (coherent-given ω h.0 σ g, f ω h.0 h.1 σ g)) empty calls i (coherent-empty, z)).1

-- What a call does to objects ------------------------------------------------------------------

-- all last, or one is released, by a step that says so
pub data Moved (ω : World) (c : Call) : Type 0 where
  grows : Grows ω.store (effect ω c).world.store → Moved ω c
  releases : (o : ℕ) (bytes sheet output : List ℕ) → c ≡ call.step bytes sheet output → asked bytes ≡ release o
      → (effect ω c).response.ending ≡ result (boolean true) → (effect ω c).world.store ≡ Release.release ω.store o → Moved ω c

module _ (ω : World) (h : Coherent ω.store) (bytes sheet output : List ℕ) where
  still : (effect ω (call.step bytes sheet output)).world ≡ ω → Moved ω (call.step bytes sheet output)
  still e = grows (rw e (grows-refl ω.store))

  grown : {asks : Operation} {r : Option Result} {τ : Store} → (effect ω (call.step bytes sheet output)).world.store ≡ τ → Moves ω.store asks r τ
      → ((o : ℕ) → asks ≡ release o → r ≡ Some (boolean true) → τ ≡ Release.release ω.store o → Moved ω (call.step bytes sheet output)) → Moved ω (call.step bytes sheet output)
  grown e (Moves.remains g) f = grows (rw e g.grows)
  grown {τ = τ} e (Moves.makes x b _ _ l o i) f = grows (subst (Grows ω.store) (sym (e ∙ i)) (grows-add ω.store (numbered-fresh ω.store h.numbered l) x b o))
  grown e (Moves.releases o a r i) f = f o a r i

  -- a run that leaves this store with this end
  ran-moves : {x : Out Result} {τ : Store} → ran ω bytes sheet ≡ (x, τ) → Moves ω.store (asked bytes) (result_of x) τ
  ran-moves e = subst (λ (y : Ran Result). Moves ω.store (asked bytes) (result_of y.0) y.1) e (ran-said ω bytes sheet).moves

  step-moved : {x : Effect} → effect ω (call.step bytes sheet output) ≡ x → Ends ω bytes sheet output x → Moved ω (call.step bytes sheet output)
  step-moved q (Ends.inadmissible e) = still (ap (λ (y : Effect). y.world) q)
  step-moved q (Ends.refuses e f) = still (ap (λ (y : Effect). y.world) q)
  step-moved q (Ends.errs e f g) = grown (ap (λ (y : Effect). y.world.store) q) (ran-moves f) (λ o a r i. absurd (false≢true cc))
  step-moved q (Ends.throws e f g) = grown (ap (λ (y : Effect). y.world.store) q) (ran-moves f) (λ o a r i. absurd (false≢true cc))
  step-moved q (Ends.leaves e f) = still (ap (λ (y : Effect). y.world) q)
  step-moved q (Ends.short e f g i) = still (ap (λ (y : Effect). y.world) q)
  step-moved q (Ends.results {r = t} e f g i) = grown (ap (λ (y : Effect). y.world.store) q) (ran-moves f) λ o a r j.
      let k : t ≡ boolean true = cc in
      releases o bytes sheet output refl a (ap (λ (y : Effect). y.response.ending) q ∙ ap result k) (ap (λ (y : Effect). y.world.store) q ∙ j)

pub moved : (ω : World) → Coherent ω.store → (c : Call) → Moved ω c
unfolding effect
moved ω h (call.step bytes sheet output) = step-moved ω h bytes sheet output refl (ends ω bytes sheet output)
moved ω h (call.enter units) = grows (entry_kept ω units (Grows ω.store) (grows-refl ω.store) (entry-ends ω units))
moved ω h (call.page o output) = grows (rw (page-leaves ω o output) (grows-refl ω.store))

-- From place to place --------------------------------------------------------------------------

-- a call is made at place i, or the list has ended
pub data Next (ω : World) (cs : List Call) (i : ℕ) : Type 0 where
  called : (c : Call) → At (run_from ω cs) i (record { call = c; response = (effect (world_from ω cs i) c).response }) → world_from ω cs (suc i) ≡ (effect (world_from ω cs i) c).world → Next ω cs i
  ended : world_from ω cs (suc i) ≡ world_from ω cs i → Next ω cs i

pub next-from : (ω : World) (cs : List Call) (i : ℕ) → Next ω cs i
unfolding run_from world_from
next-from ω [] zero = ended refl
next-from ω [] (suc i) = ended refl
next-from ω (c ∷ cs) zero = called c refl (first cs)
  where
    first : (ds : List Call) → world_from (effect ω c).world ds zero ≡ (effect ω c).world
    first ds = refl
next-from ω (c ∷ cs) (suc i) = go (next-from (effect ω c).world cs i)
  where
    go : Next (effect ω c).world cs i → Next ω (c ∷ cs) (suc i)
    go (called d e f) = called d e f
    go (ended f) = ended f

-- Events ---------------------------------------------------------------------------------------

-- the event at a place is the call's there, and the next place has the world that it left
pub record Happened (ω υ : World) (e : Event) : Type 0 where
  pub response : e.response ≡ (effect ω e.call).response
  pub world : υ ≡ (effect ω e.call).world

pub happened-from : (ω : World) (cs : List Call) (i : ℕ) (e : Event) → At (run_from ω cs) i e → Happened (world_from ω cs i) (world_from ω cs (suc i)) e
unfolding run_from world_from
happened-from ω [] i e h = absurd (false≢true cc)
happened-from ω (c ∷ cs) zero e h = let q : record { call = c; response = (effect ω c).response } ≡ e = cc in record {
  response = rw (← q);
  world = after cs (ap (λ (x : Event). (effect ω x.call).world) q);
}
  where
    after : (ds : List Call) → (effect ω c).world ≡ (effect ω e.call).world → world_from (effect ω c).world ds zero ≡ (effect ω e.call).world
    after ds q = q
happened-from ω (c ∷ cs) (suc i) e h = happened-from (effect ω c).world cs i e h
