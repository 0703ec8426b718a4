-- Demand 1 holds of every call of every list of calls. Assumes nothing.
use Rattle.std.specs.Prelude.{Option, None, Some}
use Prim.Native.Nat.{ℕ, suc, ◌-◌, ◌≤◌}
use native.Mathlib.Nat.{le_refl, le-suc, le_trans}
use native.Mathlib.Omega.{arith}
use mathlib.Core.Path.{◌≡◌, refl, sym, ap, ◌∙◌, subst}
use mathlib.Core.Bool.{Bool, true, false, cond, false≢true}
use mathlib.Core.List.{List, [], ◌∷◌, ◌++◌, map}
use lib.Dec.{leb, ltb}
use lib.ListN.{length}
use borrow.Author.Tests.{ltb-false, leb-true, leb-false, le-leb, lt-leb, le-ltb}
use Rattle.text.specs.Strings.{Entry, entering, number_of, enter, maximum_length, maximum_strings}
use Rattle.text.specs.Strings as entry
use Rattle.store.specs.declared.Object.{Object}
use Rattle.store.specs.Store.{Store, World, is_live, live_count, maximum_objects, maximum_properties}
use Rattle.store.proofs.NumberLaws.{count, numbered-fresh, live-counted}
use Rattle.internal_methods.specs.declared.Failure.{Failure}
use Rattle.internal_methods.specs.declared.Failure.TheVariants.{Refused, TypeError, Thrown}
use Rattle.internal_methods.specs.Monad.{Answer, State, state, Out, failed, done}
use Rattle.internal_methods.proofs.Budget as met
use Rattle.internal_methods.proofs.Longer.{Suffix, spent-reads-all, unread-free}
use Rattle.internal_methods.proofs.Longer as longer
use Rattle.record.specs.Bytes.{byte_at}
use Rattle.record.specs.Sheet.{sheet_of}
use Rattle.record.specs.Tests.{first_failing}
use Rattle.steps.specs.Operation.{Level, set_integrity_level, asked}
use Rattle.steps.specs.Sequence.{Ran}
use Rattle.steps.specs.Perform.{Result, maximum_calls, perform}
use Rattle.steps.specs.Response.{Ending, refused, result, type_error, thrown, Effect}
use Rattle.steps.specs.Step.{context_of, record_tests, refusing, output_holds, with_store, responding, unread, ended, ran, run_with, step, calls_made}
use Rattle.steps.specs.StringEntry.{enter_string}
use Rattle.steps.specs.Run.{Call, world_at}
use Rattle.demands.specs.Refusals.{Accepted, by_result, by-type_error, by-throw, ending_of, left_in, leaving, occupied, Refusal, inadmissible, full, spent, unreadable, exhausted, short, MayWrite, Unless, otherwise, LeftOf, StepDecided, EntryRefusal, long, EntryDecided}
use Rattle.demands.specs.Refusals as refusal
use Rattle.steps.proofs.Made.{names-made, sheet-counted}
use Rattle.steps.proofs.Sequences.{joined, settled, Once, performs-once}
use Rattle.steps.proofs.Performs.{Fails, Performs, crowded, method, rejected, performs}
use Rattle.steps.proofs.Lifted.{perform-longer}
use Rattle.steps.proofs.Runs.{Crowded, by-objects, by-properties, crowded-ran, full-ran, exhausted-ran, seven, nine, ten}
use Rattle.steps.proofs.Places.{Coherent, coherent-at}
use Rattle.steps.proofs.Steps.{Ends, step_is, ends, EntryEnds, entry-ends}
use Rattle.steps.proofs.Steps as how

refused-is : (m n : ℕ) → refused m ≡ refused n → m ≡ n
refused-is m n h = cc

not-accepted : (n : ℕ) (e : Ending) → e ≡ refused n → Accepted e → ⊥
not-accepted n e h (by_result r) = false≢true cc
not-accepted n e h (by-type_error m i j) = false≢true cc
not-accepted n e h (by-throw v) = false≢true cc

-- Runs --------------------------------------------------------------------------------------

-- how many numbers have a live object, by their marks
pub occupied-counted : (xs : List (Option Object)) → occupied xs ≡ count (map is_live xs)
unfolding occupied count
occupied-counted [] = refl
occupied-counted (None ∷ xs) = occupied-counted xs ∙ omega arith
occupied-counted (Some x ∷ xs) = ap suc (occupied-counted xs) ∙ omega arith

-- what is known of the run once the records passed
module _ (ω : World) (bytes sheet : List ℕ) (coherent : Coherent ω.store) (passes : first_failing (record_tests ω bytes sheet) ≡ None) where
  abbrev runs : Performs (context_of ω) maximum_calls (asked bytes)
  runs = performs (context_of ω) maximum_calls coherent.closed (numbered-fresh ω.store coherent.numbered) (asked bytes) (names-made ω bytes sheet passes).operation

  pub ran-fails : (f : Failure) (s : State) → (ran ω bytes sheet).0 ≡ failed f s → Fails (context_of ω) f s
  unfolding ran
  ran-fails f s e = runs.fails _ s f (le_refl _) (names-made ω bytes sheet passes).answers e

  ran-depth : (n : ℕ) → maximum_calls ≤ n → (perform n (context_of ω) (asked bytes)).run (state (sheet_of sheet) maximum_calls) ≡ ran ω bytes sheet
  unfolding ran
  ran-depth n h = runs.alike n maximum_calls h (le_refl _) _ (le_refl _) (names-made ω bytes sheet passes).answers

-- A step --------------------------------------------------------------------------------

suffix-left : {rest answers : List Answer} → Suffix rest answers → LeftOf rest answers
suffix-left longer.same = record { taken = []; splits = refl }
suffix-left (longer.more {x = x} h) = let t = suffix-left h in record { taken = x ∷ t.taken; splits = ap (λ (l : List Answer). x ∷ l) t.splits }

left_is : (σ : Store) (x : Out Result) → longer.left (joined σ x) ≡ left_in x
left_is σ (failed f s) = refl
left_is σ (done r s) = refl

-- the same end of a run, with and without the store
left-unjoined : (others : List Answer) (σ τ : Store) (x y : Out Result) → joined σ x ≡ longer.leaving others (joined τ y) → x ≡ leaving others y
left-unjoined others σ τ (failed f s) (failed g t) e =
    let i : ◌≡◌ {A = Out (Result × Store)} (failed f s) (failed g (state others t.calls)) = e in
    let p : f ≡ g = cc in
    let q : s ≡ state others t.calls = cc in
    rw (p, q)
left-unjoined others σ τ (failed f s) (done r t) e = absurd (false≢true cc)
left-unjoined others σ τ (done r s) (failed g t) e = absurd (false≢true cc)
left-unjoined others σ τ (done r s) (done l t) e =
    let i : ◌≡◌ {A = Out (Result × Store)} (done (r, σ) s) (done (l, τ) (state others t.calls)) = e in
    let p : ◌≡◌ {A = Result × Store} (r, σ) (l, τ) = cc in
    let q : s ≡ state others t.calls = cc in
    rw (ap (λ (x : Result × Store). x.0) p, q)

not-spent : (σ : Store) (x : Out Result) (t : State) → Accepted (ending_of x) → joined σ x ≡ failed (Refused 8) t → ⊥
not-spent σ (failed (Refused _) s) t a e = elim a [ ]
not-spent σ (failed (TypeError n) s) t a e = false≢true cc
not-spent σ (failed (Thrown v) s) t a e = false≢true cc
not-spent σ (done r s) t a e = false≢true cc

-- where a run ended, the answers left are unread
unread-left : (x : Out Result) → Accepted (ending_of x) → unread x ≡ left_in x
unread-left (failed (Refused _) s) a = elim a [ ]
unread-left (failed (TypeError n) s) a = refl
unread-left (failed (Thrown v) s) a = refl
unread-left (done r s) a = refl

left-leaving : (others : List Answer) (x : Out Result) → left_in (leaving others x) ≡ others
left-leaving others (failed f s) = refl
left-leaving others (done r s) = refl

spent-met : (ω : World) (s : State) → Fails (context_of ω) (Refused 8) s → s.answers ≡ []
spent-met ω s (method τ (met.spent e)) = e

module _ (ω : World) (bytes sheet output : List ℕ) (coherent : Coherent ω.store) where
  -- as many objects are live as numbers have one
  occupied-live : occupied ω.store.objects ≡ live_count ω.store
  occupied-live = occupied-counted ω.store.objects ∙ sym (live-counted ω.store coherent.numbered)

  no_room : first_failing (record_tests ω bytes sheet) ≡ None → Crowded ω bytes sheet → Refusal ω bytes sheet output 7
  no_room p (by-objects m h) = refusal.crowded p m (subst (λ (n : ℕ). maximum_objects ≤ n) (sym occupied-live) h)
  no_room p (by-properties l r h) = full p l r h

  -- a failure of the run is a refusal by its number, or is accepted
  met-refusal : (n : ℕ) (s : State) → first_failing (record_tests ω bytes sheet) ≡ None → (ran ω bytes sheet).0 ≡ failed (Refused n) s → Fails (context_of ω) (Refused n) s → Refusal ω bytes sheet output n
  met-refusal n s p e (crowded h) = no_room p (seven ω bytes sheet s e)
  met-refusal n s p e (method τ (met.full h)) = no_room p (seven ω bytes sheet s e)
  met-refusal n s p e (method τ (met.spent h)) = spent p e h
  met-refusal n s p e (method τ met.unreadable) = let u = nine ω bytes sheet s e in unreadable u.used u.last u.asked-for p u.splits u.unreadable e u.throws
  met-refusal n s p e (method τ (met.exhausted h)) = exhausted p (ap (calls_made maximum_calls) e ∙ ap (λ (i : ℕ). maximum_calls - i) h) (ten ω bytes sheet s e)

  errs : (n : ℕ) (s : State) → Fails (context_of ω) (TypeError n) s → Accepted (type_error n)
  errs n s (method τ (met.error m i j)) = by-type_error n i (le_trans j (le-suc 31))
  errs n s rejected = by-type_error 32 (omega arith) (le_refl 32)

  -- an end with unread answers
  unread-refusal : (a : Answer) (rest : List Answer) → first_failing (record_tests ω bytes sheet) ≡ None → Accepted (ending_of (ran ω bytes sheet).0) → left_in (ran ω bytes sheet).0 ≡ a ∷ rest
      → Refusal ω bytes sheet output 13
  unfolding ran
  unread-refusal a rest p accepted e =
      let m = settled (perform maximum_calls (context_of ω) (asked bytes)) in
      let x = (perform maximum_calls (context_of ω) (asked bytes)).run (state (sheet_of sheet) maximum_calls) in
      let left : longer.left (joined x.1 x.0) ≡ a ∷ rest = left_is x.1 x.0 ∙ e in
      let split = suffix-left (subst (λ (l : List Answer). Suffix l (sheet_of sheet)) left ((perform-longer maximum_calls (context_of ω) (asked bytes)).shrinks (state (sheet_of sheet) maximum_calls))) in
      refusal.unread split.taken a rest p (sym split.splits) accepted (λ others. left-unjoined others (run_with ω bytes maximum_properties (split.taken ++ others) maximum_calls).1 x.1 (run_with ω bytes maximum_properties (split.taken ++ others) maximum_calls).0 x.0
      (unread-free m (perform-longer maximum_calls (context_of ω) (asked bytes)) split.taken maximum_calls a rest (joined x.1 x.0) (ap (λ (l : List Answer). m.run (state l maximum_calls)) split.splits) left
      (λ t q. not-spent x.1 x.0 t accepted q) others))

  abbrev ending : Ending
  ending = (step ω bytes sheet output).response.ending

  -- the end of a run, without the store
  ends-in : {x : Out Result} {σ : Store} → ran ω bytes sheet ≡ (x, σ) → (ran ω bytes sheet).0 ≡ x
  ends-in e = ap (λ (y : Ran Result). y.0) e

  -- every answer was read
  abbrev Consumed : Effect → Type 0
  Consumed e = (left_in (ran ω bytes sheet).0 ≡ []) × (e.response.answers ≡ byte_at sheet 0)

  consumed : (s : State) (e : Ending) → first_failing (record_tests ω bytes sheet) ≡ None → left_in (ran ω bytes sheet).0 ≡ s.answers → s.answers ≡ []
      → (left_in (ran ω bytes sheet).0 ≡ []) × ((responding e (sheet_of sheet) s).answers ≡ byte_at sheet 0)
  consumed s e p l u = (l ∙ u, rw u (omega (arith, sheet-counted ω bytes sheet p)))

  -- how a run ended that left answers unread
  ended-unread : (x : Out Result) (a : Answer) (rest : List Answer) → first_failing (record_tests ω bytes sheet) ≡ None → (ran ω bytes sheet).0 ≡ x → unread x ≡ a ∷ rest
      → Accepted (ending_of x) × (left_in x ≡ a ∷ rest)
  ended-unread (failed (Refused n) s) a rest p e u = absurd (false≢true cc)
  ended-unread (failed (TypeError n) s) a rest p e u = (errs n s (ran-fails ω bytes sheet coherent p _ s e), u)
  ended-unread (failed (Thrown v) s) a rest p e u = (by-throw v, u)
  ended-unread (done r s) a rest p e u = (by_result r, u)

  -- how the step ended, by demand 1's conditions
  data Shape : Effect → Type 0 where
    refuses : {n : ℕ} → Refusal ω bytes sheet output n → Shape (refusing n ω output)
    accepts : {e : Effect} → Accepted e.response.ending → Consumed e → Unless (MayWrite (asked bytes) e.response.ending) (e.world ≡ ω)
        → Unless ((r : Result) × (e.response.ending ≡ result r)) (e.output ≡ output) → e.world.strings ≡ ω.strings → Shape e

  -- the store that a failure leaves is the one before, but for step 18
  failing : (f : Failure) (s : State) (σ : Store) (e : Ending) → ran ω bytes sheet ≡ (failed f s, σ) → ((o : ℕ) (level : Level) → asked bytes ≡ set_integrity_level o level → MayWrite (asked bytes) e)
      → Unless (MayWrite (asked bytes) e) (with_store ω σ ≡ ω)
  unfolding ran
  failing f s σ end e may = go (performs-once maximum_calls (context_of ω) (asked bytes) (state (sheet_of sheet) maximum_calls))
    where
      go : Once (context_of ω) (asked bytes) ((perform maximum_calls (context_of ω) (asked bytes)).run (state (sheet_of sheet) maximum_calls)) → Unless (MayWrite (asked bytes) end) (with_store ω σ ≡ ω)
      go (Once.by-turns q) = Unless.is (may _ _ q)
      go (Once.at_once h) = otherwise (ap (with_store ω) (sym (ap (λ (x : Ran Result). x.1) e) ∙ h f s (ap (λ (x : Ran Result). x.0) e)))

  shaped : {x : Effect} → Ends ω bytes sheet output x → Shape x
  shaped (how.inadmissible p) = refuses (inadmissible p)
  shaped (how.refuses {n = n} {s = s} p e) = refuses (met-refusal n s p (ends-in e) (ran-fails ω bytes sheet coherent p _ s (ends-in e)))
  shaped (how.errs {n = n} {s = s} {σ = σ} p e u) = accepts (errs n s (ran-fails ω bytes sheet coherent p _ s (ends-in e))) (consumed s (type_error n) p (ap left_in (ends-in e)) u) (failing _ s σ _ e (λ _ _ q. refusal.MayWrite.by-type_error n q)) (otherwise refl) refl
  shaped (how.throws {v = v} {s = s} {σ = σ} p e u) = accepts (by-throw v) (consumed s (thrown v) p (ap left_in (ends-in e)) u) (failing _ s σ _ e (λ _ _ q. refusal.MayWrite.by-throw v q)) (otherwise refl) refl
  shaped (how.leaves {a = a} {rest = rest} p e) = let (accepted, l) = ended-unread _ a rest p refl e in refuses (unread-refusal a rest p accepted l)
  shaped (how.short p e u h) = refuses (short p (ends-in e) u h)
  shaped (how.results {r = r} {s = s} p e u h) = accepts (by_result r) (consumed s (result r) p (ap left_in (ends-in e)) u) (Unless.is (refusal.MayWrite.by_result r)) (Unless.is (r, refl)) refl

  shape : Shape (step ω bytes sheet output)
  shape = shaped (ends ω bytes sheet output)

  ended-in : {e : Effect} → step ω bytes sheet output ≡ e → ending ≡ e.response.ending
  ended-in q = ap (λ (x : Effect). x.response.ending) q

  -- a run by its end
  run_ends : (x : Out Result) → first_failing (record_tests ω bytes sheet) ≡ None → (ran ω bytes sheet).0 ≡ x → step ω bytes sheet output ≡ ended ω (sheet_of sheet) output (x, (ran ω bytes sheet).1)
  run_ends x p e = step_is ω bytes sheet output None _ p refl ∙ ap (λ (y : Out Result). ended ω (sheet_of sheet) output (y, (ran ω bytes sheet).1)) e

  unread-ended : (x : Out Result) (σ : Store) (a : Answer) (rest : List Answer) → unread x ≡ a ∷ rest → (ended ω (sheet_of sheet) output (x, σ)).response.ending ≡ refused 13
  unread-ended x σ a rest e = rw e

  short-ended : (r : Result) (s : State) (σ : Store) → s.answers ≡ [] → output_holds r output ≡ false → (ended ω (sheet_of sheet) output (done r s, σ)).response.ending ≡ refused 11
  short-ended r s σ e h = rw (e, h)

  -- the answers that were not used remain
  remain : {a : Answer} {rest : List Answer} (used : List Answer) → sheet_of sheet ≡ used ++ (a ∷ rest)
      → (run_with ω bytes maximum_properties (used ++ (a ∷ rest)) maximum_calls).0 ≡ leaving (a ∷ rest) (ran ω bytes sheet).0 → left_in (ran ω bytes sheet).0 ≡ a ∷ rest
  unfolding ran
  remain {a} {rest} used q h = ap (λ (l : List Answer). left_in (run_with ω bytes maximum_properties l maximum_calls).0) q ∙ (ap left_in h ∙ left-leaving (a ∷ rest) (ran ω bytes sheet).0)

  -- a condition that holds refuses the step
  refused-by : (n : ℕ) → Refusal ω bytes sheet output n → ending ≡ refused n
  refused-by n (inadmissible e) = ended-in (step_is ω bytes sheet output _ _ e refl)
  refused-by n (refusal.crowded p m h) = ended-in (run_ends _ p (crowded-ran ω bytes sheet m (subst (λ (n : ℕ). maximum_objects ≤ n) occupied-live h)))
  refused-by n (full {τ = τ} {s = s} p l r h) = let (t, e) = full-ran ω bytes sheet τ s l r h in ended-in (run_ends _ p e)
  refused-by n (spent p e h) = ended-in (run_ends _ p e)
  refused-by n (unreadable used a r p q u e h) = ended-in (run_ends _ p e)
  refused-by n (exhausted p z h) = let (t, e) = exhausted-ran ω bytes sheet (h 1 (omega arith)) in ended-in (run_ends _ p e)
  refused-by n (refusal.unread used a rest p q accepted h) =
      ended-in (run_ends _ p refl) ∙ unread-ended (ran ω bytes sheet).0 (ran ω bytes sheet).1 a rest (unread-left (ran ω bytes sheet).0 accepted ∙ remain used q (h (a ∷ rest)))
  refused-by n (short {r = r} {s = s} p e u h) = ended-in (run_ends _ p e) ∙ short-ended r s (ran ω bytes sheet).1 u h

  only-by : (n : ℕ) (x : Effect) → Shape x → x.response.ending ≡ refused n → Refusal ω bytes sheet output n × (x ≡ refusing n ω output)
  only-by n x (refuses {n = m} r) h = let q : m ≡ n = refused-is m n h in (subst (Refusal ω bytes sheet output) q r, ap (λ (i : ℕ). refusing i ω output) q)
  only-by n x (accepts a c u o s) h = absurd (not-accepted n _ h a)

  accepted-else : (x : Effect) → Shape x → ((n : ℕ) → Refusal ω bytes sheet output n → ⊥) → Accepted x.response.ending
  accepted-else x (refuses {n = m} r) none-holds = absurd (none-holds m r)
  accepted-else x (accepts a c u o s) none-holds = a

  unchanged-in : (x : Effect) → Shape x → Unless (MayWrite (asked bytes) x.response.ending) (x.world ≡ ω)
  unchanged-in x (refuses r) = otherwise refl
  unchanged-in x (accepts a c u o s) = u

  unwritten-in : (x : Effect) → Shape x → Unless ((r : Result) × (x.response.ending ≡ result r)) (x.output ≡ output)
  unwritten-in x (refuses r) = otherwise refl
  unwritten-in x (accepts a c u o s) = o

  strings-in : (x : Effect) → Shape x → x.world.strings ≡ ω.strings
  strings-in x (refuses r) = refl
  strings-in x (accepts a c u o s) = s

  consumed-in : (x : Effect) → Shape x → Accepted x.response.ending → Consumed x
  consumed-in x (refuses {n = n} r) a = absurd (not-accepted n _ refl a)
  consumed-in x (accepts a c u o s) _ = c

  abbrev later : List Answer → Ran Result
  later more = (perform maximum_calls (context_of ω) (asked bytes)).run (state (sheet_of sheet ++ more) maximum_calls)

  all_read : {s : State} → (ran ω bytes sheet).0 ≡ failed (Refused 8) s → first_failing (record_tests ω bytes sheet) ≡ None → (more : List Answer)
      → LeftOf (left_in ((perform maximum_calls (context_of ω) (asked bytes)).run (state (sheet_of sheet ++ more) maximum_calls)).0) more
  unfolding ran
  all_read {s} e p more = subst (λ (l : List Answer). LeftOf l more) (left_is (later more).1 (later more).0) (suffix-left (spent-reads-all (settled (perform maximum_calls (context_of ω) (asked bytes))) (perform-longer maximum_calls (context_of ω) (asked bytes)) _ s (ap (joined (ran ω bytes sheet).1) e)
      (spent-met ω s (ran-fails ω bytes sheet coherent p _ s e)) more))

  decided : StepDecided ω bytes sheet output
  decided = record {
    refuses = λ n. (λ h. (only-by n _ shape h).0, λ r. refused-by n r);
    accepts = λ h. accepted-else _ shape h;
    untouched = λ n h. (only-by n _ shape h).1;
    unchanged = unchanged-in _ shape;
    unwritten = unwritten-in _ shape;
    strings = strings-in _ shape;
    consumes = consumed-in _ shape;
    reads = λ e p more. all_read e p more;
    depth = λ p n h. ran-depth ω bytes sheet coherent p n h;
  }

-- Demand 1 for steps: at every place of every list of calls, whatever the bytes of the step, the sheet and the output
pub step-decided : (calls : List Call) (i : ℕ) (bytes sheet output : List ℕ) → StepDecided (world_at calls i) bytes sheet output
step-decided calls i bytes sheet output = decided (world_at calls i) bytes sheet output (coherent-at calls i)

-- A string --------------------------------------------------------------------------------

module _ (ω : World) (units : List ℕ) where
  data EntryShape : Effect → Type 0 where
    refuses : {n : ℕ} → EntryRefusal ω units n → EntryShape (refusing n ω [])
    accepts : {e : Effect} → Accepted e.response.ending → e.world.store ≡ ω.store → EntryShape e

  abbrev added : Bool → Entry
  added b = cond b (entry.entered (length ω.strings) (ω.strings ++ (units ∷ []))) (entry.refused 7)

  -- a string is refused by one of the two conditions
  refusal-of : (n : ℕ) → enter ω.strings units ≡ entry.refused n → EntryRefusal ω units n
  unfolding enter
  refusal-of n h = by_length (leb (length units) maximum_length) refl h
    where
      refused-entry : {i j : ℕ} → entry.refused i ≡ entry.refused j → i ≡ j
      refused-entry q = cc

      by-room : (b : Bool) → ltb (length ω.strings) maximum_strings ≡ b → length units ≤ maximum_length → number_of ω.strings units ≡ None → added b ≡ entry.refused n → EntryRefusal ω units n
      by-room true e l q g = absurd (false≢true cc)
      by-room false e l q g = subst (EntryRefusal ω units) (refused-entry g) (refusal.EntryRefusal.full l q (ltb-false _ _ e))

      by_number : (x : Option ℕ) → number_of ω.strings units ≡ x → length units ≤ maximum_length → entering ω.strings units x ≡ entry.refused n → EntryRefusal ω units n
      by_number (Some m) e l g = absurd (false≢true cc)
      by_number None e l g = by-room (ltb (length ω.strings) maximum_strings) refl l e g

      by_length : (b : Bool) → leb (length units) maximum_length ≡ b → cond b (entering ω.strings units (number_of ω.strings units)) (entry.refused 3) ≡ entry.refused n → EntryRefusal ω units n
      by_length true e g = by_number (number_of ω.strings units) refl (leb-true _ _ e) g
      by_length false e g = subst (EntryRefusal ω units) (refused-entry g) (long (leb-false _ _ e))

  entry-shaped : {x : Effect} → EntryEnds ω units x → EntryShape x
  entry-shaped (how.EntryEnds.refuses {n = n} e) = refuses (refusal-of n e)
  entry-shaped (how.EntryEnds.enters e) = accepts (by_result _) refl

  entry-shape : EntryShape (enter_string ω units)
  entry-shape = entry-shaped (entry-ends ω units)

  entry-refused-by : (n : ℕ) → EntryRefusal ω units n → (enter_string ω units).response.ending ≡ refused n
  unfolding enter_string enter
  entry-refused-by n (long h) = rw (lt-leb (length units) maximum_length h)
  entry-refused-by n (refusal.EntryRefusal.full h q r) = rw (le-leb (length units) maximum_length h, q) (rw (le-ltb (length ω.strings) maximum_strings r))

  entry-only-by : (n : ℕ) (x : Effect) → EntryShape x → x.response.ending ≡ refused n → EntryRefusal ω units n × (x ≡ refusing n ω [])
  entry-only-by n x (refuses {n = m} r) h = let q : m ≡ n = refused-is m n h in (subst (EntryRefusal ω units) q r, ap (λ (i : ℕ). refusing i ω []) q)
  entry-only-by n x (accepts a s) h = absurd (not-accepted n _ h a)

  entry-accepted : (x : Effect) → EntryShape x → ((n : ℕ) → EntryRefusal ω units n → ⊥) → Accepted x.response.ending
  entry-accepted x (refuses {n = m} r) none-holds = absurd (none-holds m r)
  entry-accepted x (accepts a s) none-holds = a

  entry-store : (x : Effect) → EntryShape x → x.world.store ≡ ω.store
  entry-store x (refuses r) = refl
  entry-store x (accepts a s) = s

  -- Demand 1 for entering a string, in any world
  pub entry-decided : EntryDecided ω units
  entry-decided = record {
    refuses = λ n. (λ h. (entry-only-by n _ entry-shape h).0, λ r. entry-refused-by n r);
    accepts = λ h. entry-accepted _ entry-shape h;
    untouched = λ n h. (entry-only-by n _ entry-shape h).1;
    store = entry-store _ entry-shape;
  }
