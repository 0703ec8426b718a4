-- Objects from place to place of a list of calls, while they are not released. Assumes nothing.
use Prim.Native.Nat.{ℕ, zero, suc, ◌≤◌, ◌<◌}
use native.Mathlib.Nat.{le_refl, le_trans, le-suc, not-suc-le-zero}
use native.Mathlib.Omega.{arith}
use mathlib.Core.Path.{◌≡◌, refl, sym, ap, ◌∙◌, subst}
use mathlib.Core.Bool.{Bool, true, false}
use mathlib.Core.List.{List}
use lib.Dec.{eqb, leb}
use borrow.Author.Tests.{eqb-true, leb-true, leb-false}
use Rattle.store.specs.Store.{Store, World, empty}
use Rattle.internal_methods.proofs.StoreClosed.{Made}
use Rattle.internal_methods.proofs.Later.{Carried, carried_same, carried-trans, carried-grows, carried-released}
use Rattle.steps.specs.Operation.{Operation, release, asked}
use Rattle.steps.specs.Perform.{Result, boolean}
use Rattle.steps.specs.Response.{result, Effect, Response}
use Rattle.steps.specs.Step.{step}
use Rattle.steps.specs.Run.{Call, Event, At, effect, run, world_at}
use Rattle.steps.specs.Run as call
use Rattle.steps.proofs.Made.{MadeOperation, names-made}
use Rattle.steps.proofs.Steps.{Resulted, ends, resulted}
use Rattle.steps.proofs.Places.{coherent-at, Moved, moved, Next, next-from, happened-from}
use Rattle.demands.specs.Lasting.{Tells, Unreleased}

-- a shorter part of the list
pub within : {events : List Event} {a b o : ℕ} (c d : ℕ) → Unreleased events a b o → a ≤ c → d ≤ b → Unreleased events c d o
within c d u l m = record { none = λ i e h k. u.none i e (le_trans l h) (le_trans k m) }

-- one event tells one thing
same_asked : (events : List Event) (i : ℕ) {e f : Event} {a b : Operation} {r s : Result} → At events i e → At events i f → Tells e a r → Tells f b s → a ≡ b
same_asked events i {e} {f} hf hg t u =
    let p : e ≡ f = cc in
    let q : call.step t.bytes t.sheet t.output ≡ call.step u.bytes u.sheet u.output = sym t.call ∙ (ap (λ (x : Event). x.call) p ∙ u.call) in
    let b : t.bytes ≡ u.bytes = cc in
    sym t.operation ∙ (ap asked b ∙ u.operation)

module _ (calls : List Call) where
  abbrev σ : ℕ → Store
  σ i = (world_at calls i).store

  -- the step that an event tells of: how it ended, and the world that it left
  module _ (i : ℕ) (e : Event) {asks : Operation} {r : Result} (h : At (run calls) i e) (t : Tells e asks r) where
    abbrev pub told : Effect
    told = step (world_at calls i) t.bytes t.sheet t.output

    pub told_is : (told.response.ending ≡ result r) × (world_at calls (suc i) ≡ told.world)
    unfolding run effect
    told_is =
        let p = happened-from empty calls i e h in
        let q = ap (λ (c : Call). effect (world_at calls i) c) t.call in
        (ap (λ (x : Effect). x.response.ending) (sym q) ∙ (ap (λ (x : Response). x.ending) (sym p.response) ∙ t.ending), p.world ∙ ap (λ (x : Effect). x.world) q)

    pub told_at : Resulted (world_at calls i) t.bytes t.sheet told r
    told_at = resulted r (ends (world_at calls i) t.bytes t.sheet t.output) told_is.0

  -- the objects that it names are live
  pub made_at : (i : ℕ) (e : Event) (asks : Operation) (r : Result) → At (run calls) i e → Tells e asks r → MadeOperation (σ i) asks
  made_at i e asks r h t = subst (MadeOperation (σ i)) t.operation (names-made (world_at calls i) t.bytes t.sheet (told_at i e h t).passes).operation

  -- Past one call that does not release it ------------------------------------------------

  module _ (i o : ℕ) (m : Made (σ i) o) (quiet : (e : Event) → At (run calls) i e → Tells e (release o) (boolean true) → ⊥) where
    abbrev event_of : Call → Event
    event_of c = record { call = c; response = (effect (world_at calls i) c).response }

    -- what is released is another object
    other : (q : ℕ) (c : Call) → At (run calls) i (event_of c) → (bytes sheet output : List ℕ) → c ≡ call.step bytes sheet output → asked bytes ≡ release q
        → (effect (world_at calls i) c).response.ending ≡ result (boolean true) → (t : Bool) → eqb q o ≡ t → eqb q o ≡ false
    other q c at bytes sheet output is a r false e = e
    other q c at bytes sheet output is a r true e =
        absurd (quiet (event_of c) at (record { bytes = bytes; sheet = sheet; output = output; call = is; operation = a ∙ ap (λ (n : ℕ). release n) (eqb-true q o e); ending = r }))

    by_call : (c : Call) → At (run calls) i (event_of c) → Moved (world_at calls i) c → Carried (σ i) (effect (world_at calls i) c).world.store o
    by_call c at (Moved.grows g) = carried-grows g (coherent-at calls i).closed m
    by_call c at (Moved.releases q bytes sheet output is a r e) =
        subst (λ (τ : Store). Carried (σ i) τ o) (sym e) (carried-released (σ i) q o (other q c at bytes sheet output is a r (eqb q o) refl) m)

    past : Carried (σ i) (σ (suc i)) o
    unfolding run
    past = go (next-from empty calls i)
      where
        go : Next empty calls i → Carried (σ i) (σ (suc i)) o
        go (Next.ended w) = subst (λ (ω : World). Carried (σ i) ω.store o) (sym w) (carried_same (σ i) o m)
        go (Next.called c at w) = subst (λ (ω : World). Carried (σ i) ω.store o) (sym w) (by_call c at (moved (world_at calls i) (coherent-at calls i) c))

  -- Past all of them -----------------------------------------------------------------------

  pub carried-at : (j i o : ℕ) → i ≤ j → Made (σ i) o → Unreleased (run calls) i j o → Carried (σ i) (σ j) o
  carried-at zero zero o l m u = carried_same (σ 0) o m
  carried-at zero (suc i) o l m u = absurd (not-suc-le-zero l)
  carried-at (suc j) i o l m u = go (leb i j) refl (λ h. carried-at j i o h m (within i j u (le_refl i) (le-suc j)))
    where
      go : (t : Bool) → leb i j ≡ t → (i ≤ j → Carried (σ i) (σ j) o) → Carried (σ i) (σ (suc j)) o
      go true e ih =
          let h = leb-true i j e in
          let c = ih h in
          carried-trans c (past j o c.live (λ f k t. u.none j f h (le_refl (suc j)) k t))
      go false e ih = let q : i ≡ suc j = omega (arith, l, leb-false i j e) in subst (λ (n : ℕ). Carried (σ i) (σ n) o) q (carried_same (σ i) o m)

  -- after an event that tells something of o, from before it and from after it
  pub record Followed (i j o : ℕ) : Type 0 where
    pub before : Carried (σ i) (σ j) o
    pub after : Carried (σ (suc i)) (σ j) o

  pub followed : (i : ℕ) (e : Event) (asks : Operation) (r : Result) (o j : ℕ) → At (run calls) i e → Tells e asks r → Made (σ i) o → (asks ≡ release o → ⊥)
      → i < j → Unreleased (run calls) (suc i) j o → Followed i j o
  followed i e asks r o j h t m not-release l u =
      let first = past i o m (λ f k s. not-release (same_asked (run calls) i h k t s)) in
      let rest = carried-at j (suc i) o l first.live u in
      record { before = carried-trans first rest; after = rest }
