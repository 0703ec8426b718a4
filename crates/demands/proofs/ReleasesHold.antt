-- What a step that releases an object answers and leaves. Assumes nothing.
use Prim.Native.Nat.{ℕ}
use mathlib.Core.Path.{◌≡◌, refl, sym, ap, ◌∙◌, subst}
use mathlib.Core.Bool.{true, true≢false}
use mathlib.Core.List.{List}
use borrow.Author.Tests.{eq-eqb}
use Rattle.store.specs.Store.{Store, World}
use Rattle.store.specs.Release
use Rattle.store.proofs.ReleaseLaws.{lookup-released, lookup-released-other, own-released, own-released-other}
use Rattle.internal_methods.specs.Monad.{State, state, Out, pure}
use Rattle.record.specs.Sheet.{sheet_of}
use Rattle.steps.specs.Operation.{Operation, release, asked}
use Rattle.steps.specs.Sequence.{Ran}
use Rattle.steps.specs.Perform.{Result, boolean, once, perform, maximum_calls}
use Rattle.steps.specs.Response.{result}
use Rattle.steps.specs.Step.{context_of, ran, step}
use Rattle.steps.proofs.Made.{MadeOperation, names-made}
use Rattle.steps.proofs.Steps.{ends, step-done, resulted}
use Rattle.demands.specs.Releases.{Named, Released}
use Rattle.demands.proofs.NamingHolds.{named-is}

pub done-is : {x y : Result} {s t : State} {σ τ : Store} → ◌≡◌ {A = Ran Result} (Out.done x s, σ) (Out.done y t, τ) → (x ≡ y) × (σ ≡ τ)
done-is {x} {y} {s} {t} e = let q : Out.done x s ≡ Out.done y t = ap (λ (z : Ran Result). z.0) e in (cc, ap (λ (z : Ran Result). z.1) e)

module _ (ω : World) (bytes sheet output : List ℕ) (o : ℕ) (asks : asked bytes ≡ release o) where
  release-ran : ran ω bytes sheet ≡ (Out.done (boolean true) (state (sheet_of sheet) maximum_calls), Release.release ω.store o)
  unfolding ran perform once pure
  release-ran = ap (λ (a : Operation). (perform maximum_calls (context_of ω) a).run (state (sheet_of sheet) maximum_calls)) asks

  -- the result is true, and the store is the one without the object
  pub release-gives : (r : Result) → (step ω bytes sheet output).response.ending ≡ result r → (r ≡ boolean true) × ((step ω bytes sheet output).world.store ≡ Release.release ω.store o)
  release-gives r e =
      let d = resulted r (ends ω bytes sheet output) e in
      let (p, q) = done-is (sym d.runs ∙ release-ran) in
      (p, ap (λ (υ : World). υ.store) d.world ∙ q)

  unnamed : (r : Result) → (step ω bytes sheet output).response.ending ≡ result r → Named ω.store o → ⊥
  unnamed r e n =
      let d = resulted r (ends ω bytes sheet output) e in
      let (_, f) = subst (MadeOperation ω.store) asks (names-made ω bytes sheet d.passes).operation in
      true≢false (sym (named-is ω.store o n) ∙ f)

  pub released : Released ω bytes sheet output o
  released = record {
    succeeds = λ p u. step-done ω bytes sheet output _ _ _ p release-ran u refl;
    answers = λ r e. ((release-gives r e).0, unnamed r e);
    gone = λ r e. let w = (release-gives r e).1 in (rw w (lookup-released ω.store o), λ k. rw w (own-released ω.store o o k ∙ rw (eq-eqb o o refl)));
    others = λ r e q n. let w = (release-gives r e).1 in (rw w (lookup-released-other ω.store o q n), λ k. rw w (own-released-other ω.store o q k n));
  }
