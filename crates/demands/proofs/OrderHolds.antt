-- Over every list of calls: what an object names is live, a new object has a free number, and numbers come back in the order in which they were released. Assumes nothing.
use Rattle.std.specs.Prelude.{Option, None, Some}
use Prim.Native.Nat.{ℕ, zero, suc, ◌≤◌, ◌<◌}
use native.Mathlib.Omega.{arith}
use mathlib.Core.Path.{◌≡◌, refl, sym, ap, ◌∙◌, subst}
use mathlib.Core.Bool.{Bool, true, false, not, false≢true, true≢false}
use mathlib.Core.List.{List, [], ◌∷◌, ◌++◌}
use lib.Dec.{eqb, leb}
use borrow.Author.Tests.{eq-eqb, ltb-true, leb-true, leb-false}
use Rattle.value.specs.declared.Value.{Value}
use Rattle.value.specs.declared.PropertyKey.{PropertyKey}
use Rattle.value.specs.Value.{object_of}
use Rattle.store.specs.declared.Object.{Object}
use Rattle.store.specs.declared.Entry.{Entry}
use Rattle.store.specs.Store.{Store, World, empty, lookup, own, add, first_or, rest, next_number, live_count, named, maximum_objects, maximum_properties}
use Rattle.store.specs.Release
use Rattle.store.proofs.StoreLaws.{own-add}
use Rattle.store.proofs.NumberLaws.{Outside, numbered-fresh, same-released, live-outside, released-last}
use Rattle.store.proofs.NumberLaws as outside
use Rattle.store.proofs.PlaceLaws.{Distinct, found-entry, distinct-excluding}
use Rattle.store.proofs.PlaceLaws as entries
use Rattle.internal_methods.specs.declared.Failure.TheVariants.{Refused}
use Rattle.internal_methods.specs.Monad.{State, state, Out}
use Rattle.internal_methods.proofs.StoreClosed.{Made, MadeValue, MadeProperty, Closed}
use Rattle.record.specs.Sheet.{sheet_of}
use Rattle.record.specs.Tests.{first_failing}
use Rattle.steps.specs.Operation.{Operation, makes_object, release, asked}
use Rattle.steps.specs.Sequence.{Ran}
use Rattle.steps.specs.Perform.{Result, value, boolean, maximum_calls}
use Rattle.steps.specs.Response.{Effect, result}
use Rattle.steps.specs.Step.{context_of, record_tests, ran}
use Rattle.steps.specs.Run.{Call, Event, At, effect, run, world_at}
use Rattle.steps.specs.Run as call
use Rattle.steps.proofs.Made.{MadeOperation, names-made}
use Rattle.steps.proofs.Steps.{Ends, ends, EntryEnds, entry-ends}
use Rattle.steps.proofs.Pages.{page-leaves}
use Rattle.steps.proofs.Performed.{Moves, result_of}
use Rattle.steps.proofs.Lifted.{MakesOut, perform-makes}
use Rattle.steps.proofs.Places.{ran-said, Gives, gives, coherent-at, kept_at, Next, next-from}
use Rattle.demands.specs.Lasting.{Tells}
use Rattle.demands.specs.Releases.{Holds, by_value, by-getter, by-setter, Named, by-prototype, by-target, by-property, Makes, ReleasesHold}
use Rattle.demands.proofs.Carrying.{told_is, told_at, made_at}
use Rattle.demands.proofs.ReleasesHold.{done-is, release-gives}
use Rattle.property.specs.declared.Property.{Property}

-- What is named is live ---------------------------------------------------------------------

distinct-moves : {σ τ : Store} {asks : Operation} {r : Option Result} → Distinct σ.properties → Moves σ asks r τ → Distinct τ.properties
unfolding add Release.release
distinct-moves d (Moves.remains g) = g.distinct d
distinct-moves d (Moves.makes x b _ _ _ _ e) = subst (λ (υ : Store). Distinct υ.properties) (sym e) d
distinct-moves {σ} d (Moves.releases o _ _ e) = subst (λ (υ : Store). Distinct υ.properties) (sym e) (distinct-excluding _ σ.properties d)

distinct-at : (calls : List Call) (i : ℕ) → Distinct (world_at calls i).store.properties
distinct-at calls i = kept_at (λ σ. Distinct σ.properties) entries.nil (λ ω c d σ g. go ω d σ g) calls i
  where
    go : (ω : World) → Distinct ω.store.properties → (σ : Store) → Gives ω σ → Distinct σ.properties
    go ω d _ (gives bytes sheet p) = distinct-moves d (ran-said ω bytes sheet).moves

held-made : (σ : Store) (e : Entry) (v : Value) → MadeProperty σ e.property → Holds e v → MadeValue σ v
held-made σ e v m (by_value h) = subst (MadeProperty σ) h m
held-made σ e v m (by-getter h) = (subst (MadeProperty σ) h m).0
held-made σ e v m (by-setter h) = (subst (MadeProperty σ) h m).1

named_live : (σ : Store) (o : ℕ) → Closed σ → Distinct σ.properties → Named σ o → Made σ o
unfolding own
named_live σ o c d (by-prototype q r e h) = (c.ordinary q r e).made o h
named_live σ o c d (by-target q p e f h) = subst (Made σ) h (c.proxy q p e f)
named_live σ o c d (by-property i e v f h g) = (held-made σ e v (c.named e.owner e.key e.property (found-entry σ.properties d i e f)) h).made o g

unowned : (σ : Store) → Closed σ → (o : ℕ) (k : PropertyKey) → lookup σ o ≡ None → own σ o k ≡ None
unowned σ c o k e = go (own σ o k) refl
  where
    go : (x : Option Property) → own σ o k ≡ x → own σ o k ≡ None
    go None f = f
    go (Some p) f = let (x, g) = c.owned o k p f in absurd (false≢true cc)

-- Events --------------------------------------------------------------------------------------

object_of_lem : (b : Bool) (o : ℕ) → object_of (named b o) ≡ Some o
object_of_lem true o = refl
object_of_lem false o = refl

same_object : (v : Value) (b : Bool) (o q : ℕ) → value v ≡ value (named b q) → object_of v ≡ Some o → q ≡ o
same_object v b o q e f =
    let g : v ≡ named b q = cc in
    let h : Some q ≡ Some o = sym (object_of_lem b q) ∙ (ap object_of (sym g) ∙ f) in
    cc

module _ (calls : List Call) where
  abbrev σ : ℕ → Store
  σ i = (world_at calls i).store

  -- the numbers that are free again, where the call at place i finds them
  abbrev queue : ℕ → List ℕ
  queue i = (σ i).released

  -- a release puts the number of a live object at the end
  release-adds : (i : ℕ) (e : Event) (o : ℕ) → At (run calls) i e → Tells e (release o) (boolean true) → Made (σ i) o × (queue (suc i) ≡ queue i ++ (o ∷ []))
  release-adds i e o h t =
      let (a, w) = told_is calls i e h t in
      let ((x, f), _) = made_at calls i e _ _ h t in
      let s : σ (suc i) ≡ Release.release (σ i) o = ap (λ (υ : World). υ.store) w ∙ (release-gives (world_at calls i) t.bytes t.sheet t.output o t.operation (boolean true) a).1 in
      ((x, f), ap (λ (υ : Store). υ.released) s ∙ released-last (σ i) (coherent-at calls i).numbered o x f)

  -- what an event that makes o did
  record Adds (i : ℕ) (o : ℕ) : Type 0 where
    object : Object
    callable : Bool
    next : next_number (σ i) ≡ o
    room : live_count (σ i) < maximum_objects
    store : σ (suc i) ≡ add (σ i) object callable

  makes-adds : (i : ℕ) (e : Event) (o : ℕ) → At (run calls) i e → Makes e o → Adds i o
  unfolding ran
  makes-adds i e o h m =
      let t = m.told in
      let d = told_at calls i e h t in
      go (perform-makes (context_of (world_at calls i)) maximum_calls maximum_properties (asked t.bytes) (ap makes_object t.operation ∙ m.makes) (state (sheet_of t.sheet) maximum_calls)) d.runs (ap (λ (υ : World). υ.store) ((told_is calls i e h t).1 ∙ d.world))
    where
      go : {s u : State} {x : Ran Result} {τ : Store} → MakesOut (context_of (world_at calls i)) maximum_calls s x → x ≡ (Out.done (value m.name) u, τ) → σ (suc i) ≡ τ → Adds i o
      go (MakesOut.made y b l) f g = let (p, q) = done-is f in record {
        object = y;
        callable = b;
        next = same_object m.name b o (next_number (σ i)) (sym p) m.names;
        room = ltb-true _ _ l;
        store = g ∙ sym q;
      }
      go {s} {u} (MakesOut.crowded l) f g = let z : Out.failed (Refused 7) s ≡ Out.done (value m.name) u = ap (λ (y : Ran Result). y.0) f in absurd (false≢true cc)

  -- The queue from place to place -------------------------------------------------------------

  data Turn (i : ℕ) : Type 0 where
    keeps : queue (suc i) ≡ queue i → Turn i
    takes : (d : Event) → At (run calls) i d → Makes d (next_number (σ i)) → queue (suc i) ≡ rest (queue i) → Turn i
    gains : (o : ℕ) → queue (suc i) ≡ queue i ++ (o ∷ []) → Turn i

  module _ (i : ℕ) (bytes sheet output : List ℕ) where
    abbrev ω : World
    ω = world_at calls i

    abbrev c : Call
    c = call.step bytes sheet output

    abbrev event : Event
    event = record { call = c; response = (effect ω c).response }

    ran-moves : {x : Out Result} {τ : Store} → ran ω bytes sheet ≡ (x, τ) → Moves (σ i) (asked bytes) (result_of x) τ
    ran-moves e = subst (λ (y : Ran Result). Moves (σ i) (asked bytes) (result_of y.0) y.1) e (ran-said ω bytes sheet).moves

    -- an end without a result
    failed-turn : {τ : Store} → σ (suc i) ≡ τ → Moves (σ i) (asked bytes) None τ → Turn i
    failed-turn w (Moves.remains g) = keeps (ap (λ (υ : Store). υ.released) w ∙ same-released g.numbers)
    failed-turn w (Moves.makes x b _ e _ _ _) = absurd (false≢true cc)
    failed-turn w (Moves.releases o _ e _) = absurd (false≢true cc)

    done-turn : {r : Result} {τ : Store} → At (run calls) i event → (effect ω c).response.ending ≡ result r → first_failing (record_tests ω bytes sheet) ≡ None → σ (suc i) ≡ τ → Moves (σ i) (asked bytes) (Some r) τ → Turn i
    unfolding add
    done-turn h a p w (Moves.remains g) = keeps (ap (λ (υ : Store). υ.released) w ∙ same-released g.numbers)
    done-turn {r} h a p w (Moves.makes x b m e _ _ f) =
        let q : r ≡ value (named b (next_number (σ i))) = cc in
        takes event h (record {
          asks = asked bytes;
          name = named b (next_number (σ i));
          makes = m;
          told = record { bytes = bytes; sheet = sheet; output = output; call = refl; operation = refl; ending = a ∙ ap result q };
          names = object_of_lem b (next_number (σ i));
        }) (ap (λ (υ : Store). υ.released) (w ∙ f))
    done-turn h a p w (Moves.releases o k _ f) =
        let ((x, g), _) = subst (MadeOperation (σ i)) k (names-made ω bytes sheet p).operation in
        gains o (ap (λ (υ : Store). υ.released) (w ∙ f) ∙ released-last (σ i) (coherent-at calls i).numbered o x g)

    step-turn : {x : Effect} → At (run calls) i event → effect ω c ≡ x → world_at calls (suc i) ≡ x.world → Ends ω bytes sheet output x → Turn i
    step-turn h q w (Ends.inadmissible e) = keeps (ap (λ (υ : World). υ.store.released) w)
    step-turn h q w (Ends.refuses e f) = keeps (ap (λ (υ : World). υ.store.released) w)
    step-turn h q w (Ends.errs e f g) = failed-turn (ap (λ (υ : World). υ.store) w) (ran-moves f)
    step-turn h q w (Ends.throws e f g) = failed-turn (ap (λ (υ : World). υ.store) w) (ran-moves f)
    step-turn h q w (Ends.leaves e f) = keeps (ap (λ (υ : World). υ.store.released) w)
    step-turn h q w (Ends.short e f g k) = keeps (ap (λ (υ : World). υ.store.released) w)
    step-turn h q w (Ends.results e f g k) = done-turn h (ap (λ (y : Effect). y.response.ending) q) e (ap (λ (υ : World). υ.store) w) (ran-moves f)

  turn : (i : ℕ) → Turn i
  unfolding run effect
  turn i = go (next-from empty calls i)
    where
      entered : (units : List ℕ) {x : Effect} → EntryEnds (world_at calls i) units x → world_at calls (suc i) ≡ x.world → Turn i
      entered units (EntryEnds.refuses e) w = keeps (ap (λ (υ : World). υ.store.released) w)
      entered units (EntryEnds.enters e) w = keeps (ap (λ (υ : World). υ.store.released) w)

      go : Next empty calls i → Turn i
      go (Next.ended w) = keeps (ap (λ (υ : World). υ.store.released) w)
      go (Next.called (call.step bytes sheet output) h w) = step-turn i bytes sheet output h refl w (ends (world_at calls i) bytes sheet output)
      go (Next.called (call.enter units) h w) = entered units (entry-ends (world_at calls i) units) w
      go (Next.called (call.page o output) h w) = keeps (ap (λ (υ : World). υ.store.released) (w ∙ page-leaves (world_at calls i) o output))

-- Waiting numbers -------------------------------------------------------------------------------

-- o stands in the queue, and all before it and itself pass the test
data Waits (test : ℕ → Bool) (o : ℕ) : List ℕ → Type 0 where
  first : {os : List ℕ} → test o ≡ true → Waits test o (o ∷ os)
  later : {p : ℕ} {os : List ℕ} → test p ≡ true → Waits test o os → Waits test o (p ∷ os)

module _ {test : ℕ → Bool} {o : ℕ} where
  waits-still : {os : List ℕ} (q : ℕ) → Waits test o os → Waits test o (os ++ (q ∷ []))
  waits-still q (first e) = first e
  waits-still q (later e w) = later e (waits-still q w)

  waits-next : {C : Type 0} {os : List ℕ} (made : ℕ) → Waits test o os → (first_or made os ≡ o → C) → (Waits test o (rest os) → C) → C
  waits-next made (first e) f g = f refl
  waits-next made (later e w) f g = g w

  waits-passes : {os : List ℕ} (made : ℕ) → Waits test o os → test (first_or made os) ≡ true
  waits-passes made (first e) = e
  waits-passes made (later e w) = e

last-waits : (o : ℕ) (os : List ℕ) → Waits (λ p. true) o (os ++ (o ∷ []))
last-waits o [] = first refl
last-waits o (p ∷ os) = later refl (last-waits o os)

-- no q is before o
waits-ahead : {o q : ℕ} {os : List ℕ} → Waits (λ p. true) o os → Outside q os → Waits (λ p. not (eqb q p)) o os
waits-ahead (first _) (outside.cons e _) = first (ap not e)
waits-ahead (later _ w) (outside.cons e a) = later (ap not e) (waits-ahead w a)

module _ (calls : List Call) where
  -- o is made from place a on and before b, or waits at b
  data Followed (test : ℕ → Bool) (o a b : ℕ) : Type 0 where
    taken : (m : ℕ) (d : Event) → a ≤ m → m < b → At (run calls) m d → Makes d o → Followed test o a b
    waits : Waits test o (queue calls b) → Followed test o a b

  follow_one : {test : ℕ → Bool} {o a b : ℕ} → a ≤ b → Turn calls b → Waits test o (queue calls b) → Followed test o a (suc b)
  follow_one {test} {o} l (Turn.keeps e) w = waits (subst (Waits test o) (sym e) w)
  follow_one {test} {o} l (Turn.gains q e) w = waits (subst (Waits test o) (sym e) (waits-still q w))
  follow_one {test} {o} {a} {b} l (Turn.takes d h m e) w = waits-next (world_at calls b).store.made w
      (λ f. taken b d l (omega arith) h (subst (Makes d) f m))
      (λ v. waits (subst (Waits test o) (sym e) v))

  follow : {test : ℕ → Bool} {o : ℕ} (a b : ℕ) → a ≤ b → Waits test o (queue calls a) → Followed test o a b
  follow {test} {o} a zero l w = let e : a ≡ 0 = omega (arith, l) in waits (subst (λ (c : ℕ). Waits test o (queue calls c)) e w)
  follow {test} {o} a (suc b) l w = go (leb a b) refl (λ k. follow a b k w)
    where
      one : a ≤ b → Followed test o a b → Followed test o a (suc b)
      one k (taken m d f g h t) = taken m d f (omega (arith, g)) h t
      one k (waits v) = follow_one k (turn calls b) v

      go : (t : Bool) → leb a b ≡ t → (a ≤ b → Followed test o a b) → Followed test o a (suc b)
      go true e f = let k = leb-true a b e in one k (f k)
      go false e f = let k : a ≡ suc b = omega (arith, l, leb-false a b e) in waits (subst (λ (c : ℕ). Waits test o (queue calls c)) k w)

  in_order : (i j l : ℕ) (e f g : Event) (o q : ℕ) → i < j → j < l → At (run calls) i e → At (run calls) j f → At (run calls) l g
      → Tells e (release o) (boolean true) → Tells f (release q) (boolean true) → Makes g q
      → (m : ℕ) × (d : Event) × (i < m) × (m < l) × At (run calls) m d × Makes d o
  in_order i j l e f g o q ij jl he hf hg te tf mg = go (follow (suc i) j ij (subst (Waits (λ p. true) o) (sym (release-adds calls i e o he te).1) (last-waits o (queue calls i))))
    where
      end : Followed (λ p. not (eqb q p)) o j l → (m : ℕ) × (d : Event) × (i < m) × (m < l) × At (run calls) m d × Makes d o
      end (taken m d a b h t) = (m, d, omega (arith, ij, a), b, h, t)
      end (waits w) =
          let n = (makes-adds calls l g q hg mg).next in
          let x : not (eqb q q) ≡ true = subst (λ (p : ℕ). not (eqb q p) ≡ true) n (waits-passes (world_at calls l).store.made w) in
          absurd (true≢false (sym x ∙ ap not (eq-eqb q q refl)))

      go : Followed (λ p. true) o (suc i) j → (m : ℕ) × (d : Event) × (i < m) × (m < l) × At (run calls) m d × Makes d o
      go (taken m d a b h t) = (m, d, a, omega (arith, b, jl), h, t)
      go (waits w) =
          let ((x, live), _) = release-adds calls j f q hf tf in
          end (follow j l (omega (arith, jl)) (waits-ahead w (live-outside (world_at calls j).store (coherent-at calls j).numbered q x live)))

  new-made : (i : ℕ) (e : Event) (o : ℕ) → At (run calls) i e → Makes e o
      → (lookup (world_at calls i).store o ≡ None) × ((k : PropertyKey) → own (world_at calls (suc i)).store o k ≡ None)
  new-made i e o h m =
      let a = makes-adds calls i e o h m in
      let c = coherent-at calls i in
      let n = subst (λ (p : ℕ). lookup (world_at calls i).store p ≡ None) a.next (numbered-fresh (world_at calls i).store c.numbered a.room).free in
      (n, λ k. ap (λ (τ : Store). own τ o k) a.store ∙ (own-add (world_at calls i).store a.object a.callable o k ∙ unowned (world_at calls i).store c.closed o k n))

  pub releases-hold : ReleasesHold calls
  releases-hold = record {
    closed = λ i o n. named_live (world_at calls i).store o (coherent-at calls i).closed (distinct-at calls i) n;
    owned = λ i o k e. unowned (world_at calls i).store (coherent-at calls i).closed o k e;
    made = new-made;
    order = in_order;
  }
