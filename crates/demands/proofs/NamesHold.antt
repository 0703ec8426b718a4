-- Every object has one name, which its making answers, which refusals 2 and 3 let pass, and which it keeps. Assumes nothing.
use Rattle.std.specs.Prelude.{Option, None, Some}
use Prim.Native.Nat.{ℕ, ◌<◌}
use mathlib.Core.Path.{◌≡◌, refl, sym, ap, ◌∙◌, subst}
use mathlib.Core.Bool.{Bool, true, false, not, ◌&&◌, beq, false≢true}
use mathlib.Core.List.{List, []}
use lib.Dec.{ltb}
use borrow.Author.Tests.{ltb-true, lt-ltb}
use Rattle.value.specs.Bits.{bit}
use Rattle.value.specs.declared.Value.{Value}
use Rattle.value.specs.declared.Value.TheVariants as value
use Rattle.value.specs.Value.{object_of}
use Rattle.value.proofs.Bools.{and-true, and_both, beq-refl, beq-eq}
use Rattle.store.specs.declared.Object.{Object}
use Rattle.store.specs.declared.Object.TheVariants.{Ordinary}
use Rattle.store.specs.Store.{Store, World, empty, lookup, next_number, live_count, add, is_live, is_function, named, name_of, maximum_objects, maximum_properties}
use Rattle.store.proofs.StoreLaws.{lookup-empty, lookup-next, function-new, live-mark}
use Rattle.store.proofs.ReleaseLaws.{lookup-left, function-released}
use Rattle.store.proofs.NumberLaws.{Numbered, numbered-fresh, live-counted}
use Rattle.internal_methods.specs.declared.Failure.{Failure}
use Rattle.internal_methods.specs.declared.Failure.TheVariants.{Refused}
use Rattle.internal_methods.specs.Monad.{Answer, State, state, Out, pure, fails, when◌then◌else◌}
use Rattle.internal_methods.proofs.Later.{IsOrdinary, lasts-ordinary, Grows, grows-add}
use Rattle.record.specs.Sheet.{sheet_of}
use Rattle.record.specs.Tests.{Counts, is_made, is_known}
use Rattle.steps.specs.Operation.{Operation, make_function, asked}
use Rattle.steps.specs.Sequence.{Ran, written}
use Rattle.steps.specs.Perform.{Result, once, make, perform, maximum_calls}
use Rattle.steps.specs.Perform as result
use Rattle.steps.specs.Response.{Effect}
use Rattle.steps.specs.Response as ending
use Rattle.steps.specs.Step.{context_of, counts_of, ended, ran}
use Rattle.steps.specs.Run.{Call}
use Rattle.steps.proofs.Lifted.{MakesOut, perform-makes}
use Rattle.steps.proofs.Steps.{step_is, ends, resulted}
use Rattle.steps.proofs.Performed.{Moves}
use Rattle.steps.proofs.Places.{ran-said, Coherent, Gives, gives, kept_at}
use Rattle.demands.proofs.Decided.{occupied-counted}
use Rattle.demands.proofs.Carrying.{carried-at}
use Rattle.demands.specs.Names.{NamesDecided, IsFunction, ObjectMade, NamesLast}

-- What refusals 2 and 3 let pass -----------------------------------------------------------------

is-named : (v : Value) (o : ℕ) → object_of v ≡ Some o → (b : Bool) × (v ≡ named b o)
is-named value.Undefined o e = absurd (false≢true cc)
is-named value.Null o e = absurd (false≢true cc)
is-named (value.Boolean b) o e = absurd (false≢true cc)
is-named (value.Integer32 n) o e = absurd (false≢true cc)
is-named (value.Float64 x) o e = absurd (false≢true cc)
is-named (value.String s) o e = absurd (false≢true cc)
is-named (value.Symbol s) o e = absurd (false≢true cc)
is-named (value.Object p) o e = let q : p ≡ o = cc in (false, ap (λ (x : ℕ). value.Object x) q)
is-named (value.Function f) o e = let q : f ≡ o = cc in (true, ap (λ (x : ℕ). value.Function x) q)

one_name : (a b : Bool) (o : ℕ) → named a o ≡ named b o → a ≡ b
one_name true true o e = refl
one_name true false o e = absurd (false≢true cc)
one_name false true o e = absurd (false≢true cc)
one_name false false o e = refl

module _ (n : Counts) (o : ℕ) where
  made-named : (b : Bool) → is_made n (named b o) ≡ bit n.live o
  unfolding is_made
  made-named true = refl
  made-named false = refl

  known-named : (b : Bool) → is_known n (named b o) ≡ beq (bit n.callable o) b
  unfolding is_known
  known-named true = beq-true (bit n.callable o)
    where
      beq-true : (x : Bool) → x ≡ beq x true
      beq-true true = refl
      beq-true false = refl
  known-named false = beq-false (bit n.callable o)
    where
      beq-false : (x : Bool) → not x ≡ beq x false
      beq-false true = refl
      beq-false false = refl

live-bit : (ω : World) (o : ℕ) → bit (counts_of ω).live o ≡ is_live (lookup ω.store o)
unfolding lookup
live-bit ω o = live-mark ω.store.objects o

live-is : {y : Option Object} (x : Option Object) → y ≡ x → is_live y ≡ true → (z : Object) × (y ≡ Some z)
live-is None e h = absurd (false≢true (sym (ap is_live e) ∙ h))
live-is (Some x) e h = (x, e)

pub names-decided : (ω : World) (o : ℕ) → NamesDecided ω o
names-decided ω o = record {
  admits = λ v e. let (b, q) = is-named v o e in (
    λ h.
        let (m, k) = and-true _ _ (subst (λ (w : Value). (is_made (counts_of ω) w && is_known (counts_of ω) w) ≡ true) q h) in (
          live-is (lookup ω.store o) refl (sym (live-bit ω o) ∙ (sym (made-named (counts_of ω) o b) ∙ m)),
          q ∙ ap (λ (x : Bool). named x o) (sym (beq-eq (is_function ω.store o) b (sym (known-named (counts_of ω) o b) ∙ k))),
        ),
    λ h.
        let is : is_function ω.store o ≡ b = one_name (is_function ω.store o) b o (sym h.1 ∙ q) in
        subst (λ (w : Value). (is_made (counts_of ω) w && is_known (counts_of ω) w) ≡ true) (sym q) (and_both _ _ (made-named (counts_of ω) o b ∙ (live-bit ω o ∙ ap is_live h.0.1)) (known-named (counts_of ω) o b ∙ (ap (λ (x : Bool). beq x b) is ∙ beq-refl b))),
  );
}

-- What is made -------------------------------------------------------------------------------------

made-is : {x y : Result} {s t : State} {σ τ : Store} → ◌≡◌ {A = Ran Result} (Out.done x s, σ) (Out.done y t, τ) → (x ≡ y) × (σ ≡ τ)
made-is {x} {y} {s} {t} e = let q : Out.done x s ≡ Out.done y t = ap (λ (z : Ran Result). z.0) e in (cc, ap (λ (z : Ran Result). z.1) e)

not_made : {C : Type 0} {f : Failure} {s t : State} {r : Result} {σ τ : Store} → ◌≡◌ {A = Ran Result} (Out.failed f s, σ) (Out.done r t, τ) → C
not_made {f = f} {s} {t} {r} e = let q : Out.failed f s ≡ Out.done r t = ap (λ (z : Ran Result). z.0) e in absurd (false≢true cc)

module _ (ω : World) (numbered : Numbered ω.store) where
  object-named : {s : State} {x : Ran Result} (r : Result) (t : State) (σ : Store) → MakesOut (context_of ω) maximum_calls s x → x ≡ (Out.done r t, σ)
      → r ≡ result.value (name_of σ (next_number ω.store))
  object-named r t σ (MakesOut.made y b e) i =
      let (j, k) = made-is i in
      sym j ∙ (ap (λ (z : Bool). result.value (named z (next_number ω.store))) (sym (function-new ω.store y b)) ∙ ap (λ (τ : Store). result.value (name_of τ (next_number ω.store))) k)
  object-named r t σ (MakesOut.crowded e) i = not_made i

  made_ends : (answers : List Answer) (output : List ℕ) {s : State} {x : Ran Result} → s.answers ≡ [] → MakesOut (context_of ω) maximum_calls s x → live_count ω.store < maximum_objects
      → (r : Result) × ((ended ω answers output x).response.ending ≡ ending.result r)
  made_ends answers output u (MakesOut.made y b e) h = (result.value (named b (next_number ω.store)), rw u)
  made_ends answers output u (MakesOut.crowded e) h = absurd (false≢true (sym e ∙ lt-ltb _ _ h))

  function-made : (v : Value) (s : State) (r : Result) (t : State) (σ : Store) → (perform maximum_calls (context_of ω) (make_function v)).run s ≡ (Out.done r t, σ)
      → (r ≡ result.value (value.Function (next_number ω.store))) × IsFunction σ (next_number ω.store) v
  unfolding perform once make when◌then◌else◌ pure fails
  function-made v s r t σ = go (ltb (live_count ω.store) maximum_objects) refl
    where
      go : (room : Bool) → ltb (live_count ω.store) maximum_objects ≡ room → written ω.store ((when◌then◌else◌ room (pure (result.value (value.Function (next_number ω.store)), add ω.store (Ordinary (record { prototype = v; extensible = true })) true)) (fails (Refused 7))).run s) ≡ (Out.done r t, σ)
          → (r ≡ result.value (value.Function (next_number ω.store))) × IsFunction σ (next_number ω.store) v
      go true l e =
          let (j, k) = made-is e in
          (sym j, subst (λ (τ : Store). IsFunction τ (next_number ω.store) v) k (record { found = lookup-next ω.store _ true (numbered-fresh ω.store numbered (ltb-true _ _ l)).within; callable = function-new ω.store _ true }))
      go false l e = not_made e

pub object-made : (ω : World) → Numbered ω.store → (bytes sheet output : List ℕ) → ObjectMade ω bytes sheet output
unfolding ran
object-made ω numbered bytes sheet output = record {
  succeeds = λ m p u h.
      let (r, e) = made_ends ω numbered (sheet_of sheet) output u (perform-makes (context_of ω) maximum_calls maximum_properties (asked bytes) m (state (sheet_of sheet) maximum_calls)) (subst (λ (n : ℕ). n < maximum_objects) (occupied-counted ω.store.objects ∙ sym (live-counted ω.store numbered)) h) in
      (r, ap (λ (x : Effect). x.response.ending) (step_is ω bytes sheet output None _ p refl) ∙ e);
  named = λ r m e.
      let d = resulted r (ends ω bytes sheet output) e in
      object-named ω numbered r d.rest d.store (perform-makes (context_of ω) maximum_calls maximum_properties (asked bytes) m _) d.runs
      ∙ ap (λ (υ : World). result.value (name_of υ.store (next_number ω.store))) (sym d.world);
  function = λ v r a e.
      let d = resulted r (ends ω bytes sheet output) e in
      let (p, q) = function-made ω numbered v _ r d.rest d.store (ap (λ (asks : Operation). (perform maximum_calls (context_of ω) asks).run (state (sheet_of sheet) maximum_calls)) (sym a) ∙ d.runs) in
      (p, subst (λ (υ : World). IsFunction υ.store (next_number ω.store) v) (sym d.world) q);
}

-- Over a list of calls -----------------------------------------------------------------------------

-- only an ordinary object is callable
record Callable (σ : Store) : Type 0 where
  ordinary : (o : ℕ) (x : Object) → lookup σ o ≡ Some x → is_function σ o ≡ true → IsOrdinary x

callable-grows : {σ τ : Store} → Grows σ τ → Callable σ → Callable τ
callable-grows {σ} {τ} g h = record { ordinary = λ o y e f. go o y e f (lookup σ o) refl }
  where
    go : (o : ℕ) (y : Object) → lookup τ o ≡ Some y → is_function τ o ≡ true → (x : Option Object) → lookup σ o ≡ x → IsOrdinary y
    go o y e f None i = g.added o y i e f
    go o y e f (Some x) i =
        let (z, j, l) = g.lasts o x i in
        let q : z ≡ y = cc in
        subst IsOrdinary q (lasts-ordinary l (h.ordinary o x i (sym (g.named o x i) ∙ f)))

callable-moves : {σ τ : Store} {asks : Operation} {r : Option Result} → Numbered σ → Callable σ → Moves σ asks r τ → Callable τ
callable-moves n h (Moves.remains g) = callable-grows g.grows h
callable-moves {σ} n h (Moves.makes x b _ _ l o e) = subst Callable (sym e) (callable-grows (grows-add σ (numbered-fresh σ n l) x b o) h)
callable-moves {σ} n h (Moves.releases q a _ e) = subst Callable (sym e) (record { ordinary = λ o x f g. h.ordinary o x (lookup-left σ q o x f).1 (sym (function-released σ q o) ∙ g) })

callable-given : (ω : World) → Coherent ω.store → Callable ω.store → (σ : Store) → Gives ω σ → Callable σ
callable-given ω c h σ (gives bytes sheet p) = callable-moves c.numbered h (ran-said ω bytes sheet).moves

callable-empty : Callable empty.store
callable-empty = record { ordinary = λ o x e _. let p : None ≡ Some x = sym (lookup-empty o) ∙ e in absurd (false≢true cc) }

pub names-last : (calls : List Call) → NamesLast calls
names-last calls = record {
  ordinary = λ i o x e f. let h = (kept_at Callable callable-empty callable-given calls i).ordinary o x e f in (h.object, h.is);
  keeps = λ i j o x l u e. ap (λ (b : Bool). named b o) (carried-at calls j i o l (x, e) u).named;
}
