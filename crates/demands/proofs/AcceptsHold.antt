-- The steps of the proved rows are accepted, and those by every method over an ordinary object with room. Assumes nothing.
use Rattle.std.specs.Prelude.{Option, None, Some}
use Prim.Native.Nat.{ℕ, ◌*◌, ◌≤◌}
use mathlib.Core.Path.{◌≡◌, refl, ap, subst}
use mathlib.Core.Bool.{true, false, not}
use mathlib.Core.List.{List, []}
use lib.ListN.{length}
use borrow.Author.Tests.{lt-ltb, le-leb}
use Rattle.value.specs.declared.PropertyKey.{PropertyKey}
use Rattle.store.specs.Store.{Store, World, own}
use Rattle.store.specs.OwnKeys.{ordinary_own_property_keys}
use Rattle.internal_methods.specs.Monad.{Answer, State, state, Out, done, M, pure, next, ◌>>=◌}
use Rattle.internal_methods.specs.Methods.{Written}
use Rattle.internal_methods.specs.Ordinary.{is_full}
use Rattle.internal_methods.proofs.OrdinaryRuns.{Completes, own-run, prototype-run, extensible-run, keys-run, set_prototype_of-completes, prevent_extensions-completes, delete-completes, define_own_property-completes, has_property-completes, get-completes, set-completes}
use Rattle.internal_methods.proofs.Longer.{Suffix, same, left}
use Rattle.record.specs.Bytes.{value_size}
use Rattle.record.specs.Sheet.{sheet_of}
use Rattle.steps.specs.Operation.{Operation, asked}
use Rattle.steps.specs.Sequence.{Ran, written}
use Rattle.steps.specs.Perform.{Result, own_result, boolean, maximum_calls, Run, once, reading, writing, perform}
use Rattle.steps.specs.Step.{context_of, output_holds, ran}
use Rattle.demands.specs.Accepts.{row_runs, accepted_all, Plain, OnPlain, by-get_prototype_of, by-set_prototype_of, by-is_extensible, by-prevent_extensions, by-get_own_property, by-define_own_property, by-has_property, by-get, by-set, by-delete, by-own_property_keys, PlainAccepted}
use Rattle.steps.proofs.Sequences.{joined}
use Rattle.steps.proofs.Lifted.{perform-longer}
use Rattle.steps.proofs.Steps.{step-done}
use Rattle.property.specs.declared.Property.{Property}

-- The proved rows ---------------------------------------------------------------------------

-- of the lists of calls of the rows, no call is refused
pub rows-accepted : accepted_all row_runs ≡ true
unfolding Rattle.internal_methods.specs.Answers.as_value Rattle.internal_methods.specs.Answers.ask_value Rattle.internal_methods.specs.Answers.ask_boolean Rattle.internal_methods.specs.Answers.as_prototype Rattle.internal_methods.specs.Answers.ask_prototype Rattle.internal_methods.specs.Answers.as_descriptor Rattle.internal_methods.specs.Answers.ask_descriptor Rattle.internal_methods.specs.Answers.keys_of Rattle.internal_methods.specs.Answers.as_keys Rattle.internal_methods.specs.Answers.ask_keys Rattle.internal_methods.specs.Internal.methods Rattle.internal_methods.specs.KeyList.has_key Rattle.internal_methods.specs.KeyList.without_key Rattle.internal_methods.specs.KeyList.duplicate Rattle.internal_methods.specs.KeyList.checked_off Rattle.internal_methods.specs.KeyList.rejected Rattle.internal_methods.specs.Messages.codes Rattle.internal_methods.specs.Monad.pure Rattle.internal_methods.specs.Monad.fails Rattle.internal_methods.specs.Monad.next Rattle.internal_methods.specs.Monad.◌>>=◌ Rattle.internal_methods.specs.Monad.throw_if Rattle.internal_methods.specs.Monad.throw_any Rattle.internal_methods.specs.Monad.ask Rattle.internal_methods.specs.Monad.tick Rattle.internal_methods.specs.Monad.when◌then◌else◌ Rattle.internal_methods.specs.Monad.dispatched Rattle.internal_methods.specs.Monad.dispatch Rattle.internal_methods.specs.Ordinary.reaches Rattle.internal_methods.specs.Ordinary.ordinary_set_prototype_of Rattle.internal_methods.specs.Ordinary.apply_validation Rattle.internal_methods.specs.Ordinary.ordinary_define_own_property Rattle.internal_methods.specs.Ordinary.ordinary_has_property Rattle.internal_methods.specs.Ordinary.ordinary_get Rattle.internal_methods.specs.Ordinary.set_on_receiver Rattle.internal_methods.specs.Ordinary.set_data Rattle.internal_methods.specs.Ordinary.ordinary_set Rattle.internal_methods.specs.Ordinary.ordinary_delete Rattle.internal_methods.specs.Proxy.has_trap Rattle.internal_methods.specs.Proxy.proxy_get_prototype_of Rattle.internal_methods.specs.Proxy.proxy_set_prototype_of Rattle.internal_methods.specs.Proxy.proxy_is_extensible Rattle.internal_methods.specs.Proxy.proxy_prevent_extensions Rattle.internal_methods.specs.Proxy.proxy_get_own_property Rattle.internal_methods.specs.Proxy.proxy_define_own_property Rattle.internal_methods.specs.Proxy.proxy_has_property Rattle.internal_methods.specs.Proxy.proxy_get Rattle.internal_methods.specs.Proxy.proxy_set Rattle.internal_methods.specs.Proxy.proxy_delete Rattle.internal_methods.specs.Proxy.sorted Rattle.internal_methods.specs.Proxy.proxy_own_property_keys Rattle.steps.specs.Operation.operation_of Rattle.steps.specs.Operation.asked Rattle.steps.specs.Perform.once Rattle.steps.specs.Perform.make Rattle.steps.specs.Perform.perform Rattle.demands.specs.Rows.last_of Rattle.steps.specs.Run.effect Rattle.steps.specs.Run.run_from Rattle.steps.specs.Run.run Rattle.steps.specs.Run.world_from Rattle.steps.specs.Step.keys_bytes Rattle.steps.specs.Step.ran Rattle.steps.specs.Step.step Rattle.steps.specs.StringEntry.enter_string Rattle.property.specs.Answers.conversion_message Rattle.property.specs.Answers.fill_with Rattle.property.specs.ArrayIndex.decimal Rattle.property.specs.ArrayIndex.array_index Rattle.property.specs.Descriptor.is_accessor_descriptor Rattle.property.specs.Descriptor.is_data_descriptor Rattle.property.specs.Descriptor.is_generic_descriptor Rattle.property.specs.Descriptor.to_property_descriptor Rattle.property.specs.Descriptor.complete Rattle.property.specs.Validate.applied Rattle.property.specs.Validate.validate Rattle.property.specs.Validate.reject_if Rattle.property.specs.Validate.is_compatible Rattle.property.specs.Validate.property_of Rattle.record.specs.Bytes.number_at Rattle.record.specs.Bytes.bytes_of Rattle.record.specs.Bytes.are_zero Rattle.record.specs.Bytes.value_at Rattle.record.specs.Bytes.is_value_at Rattle.record.specs.Bytes.value_bytes Rattle.record.specs.Bytes.is_part_at Rattle.record.specs.Descriptor.descriptor_at Rattle.record.specs.Descriptor.is_descriptor_at Rattle.record.specs.Descriptor.descriptor_bytes Rattle.record.specs.Sheet.values_at Rattle.record.specs.Sheet.are_values_at Rattle.record.specs.Sheet.answer_at Rattle.record.specs.Sheet.answer_end Rattle.record.specs.Sheet.is_answer_at Rattle.record.specs.Sheet.answers_at Rattle.record.specs.Sheet.are_answers_at Rattle.record.specs.Sheet.sheet_of Rattle.record.specs.Sheet.is_sheet Rattle.record.specs.Sheet.values_pass Rattle.record.specs.Sheet.sheet_passes Rattle.record.specs.Sheet.values_bytes Rattle.record.specs.Sheet.answer_bytes Rattle.record.specs.Sheet.answers_bytes Rattle.record.specs.Sheet.sheet_bytes Rattle.record.specs.Step.step_of Rattle.record.specs.Step.is_at_most_if_integer32 Rattle.record.specs.Step.is_step Rattle.record.specs.Step.are_objects_made Rattle.record.specs.Step.are_kinds_usable Rattle.record.specs.Step.step_bytes Rattle.record.specs.Tests.is_made Rattle.record.specs.Tests.is_known Rattle.record.specs.Tests.is_descriptor Rattle.record.specs.Tests.first_failing Rattle.store.specs.OwnKeys.keys_in Rattle.store.specs.OwnKeys.class_of Rattle.store.specs.OwnKeys.of_class Rattle.store.specs.OwnKeys.insert_index Rattle.store.specs.OwnKeys.ascending Rattle.store.specs.OwnKeys.ordered Rattle.store.specs.OwnKeys.ordinary_own_property_keys Rattle.store.specs.Store.lookup Rattle.store.specs.Store.put Rattle.value.specs.Bits.with_bit Rattle.store.specs.Store.excluding Rattle.store.specs.Store.live_marks Rattle.store.specs.Release.objects_name Rattle.store.specs.Release.properties_name Rattle.store.specs.Release.is_named Rattle.store.specs.Release.release Rattle.store.specs.Store.add Rattle.store.specs.Store.is_at Rattle.store.specs.Store.find Rattle.store.specs.Store.insert Rattle.store.specs.Store.remove Rattle.store.specs.Store.own Rattle.store.specs.Store.with_property Rattle.store.specs.Store.without_property Rattle.store.specs.Store.replace_at Rattle.store.specs.Store.with_change Rattle.text.specs.Strings.same_text Rattle.text.specs.Strings.number_of Rattle.text.specs.Strings.index_of Rattle.text.specs.Strings.enter Rattle.value.specs.PropertyKey.same_key Rattle.value.specs.Value.same_number Rattle.value.specs.Value.same_value Rattle.value.specs.Value.to_boolean Rattle.value.specs.Words.payload_of Rattle.value.specs.Words.value_of Rattle.value.specs.Words.is_formed lib.Ieee.of_int lib.Ieee.of_bits Rattle.demands.specs.Accepts.none_refused Rattle.demands.specs.Accepts.accepted_all
rows-accepted = refl

-- Ordinary objects --------------------------------------------------------------------------

-- a run that is done, with a result that the output holds
record Fits (output : List ℕ) (m : Run) (s : State) : Type 0 where
  given : Result
  store : Store
  rest : State
  is : m.run s ≡ (done given rest, store)
  holds : output_holds given output ≡ true

pub reads-run : {A : Type 0} (σ : Store) (f : A → Result) (m : M A) {s t : State} {x : A} → m.run s ≡ done x t → (once σ (reading σ f m)).run s ≡ (done (f x) t, σ)
unfolding once ◌>>=◌ next pure
reads-run {A} σ f m e = ap (λ (o : Out A). written σ (next (λ y. pure (f y, σ)) o)) e

module _ (output : List ℕ) where
  reads : {A : Type 0} (σ : Store) (f : A → Result) (m : M A) {s t : State} {x : A} → m.run s ≡ done x t → output_holds (f x) output ≡ true → Fits output (once σ (reading σ f m)) s
  reads σ f m {s} {t} {x} e h = record { given = f x; store = σ; rest = t; is = reads-run σ f m e; holds = h }

  writes : (σ : Store) (m : M Written) {s : State} → Completes m s → Fits output (once σ (writing m)) s
  unfolding once ◌>>=◌ next pure
  writes σ m h = record {
    given = boolean h.result.0;
    store = h.result.1;
    rest = h.rest;
    is = ap (λ (o : Out Written). written σ (next (λ (a : Written). pure (boolean a.0, a.1)) o)) h.is;
    holds = refl;
  }

  own-holds : (d : Option Property) → output_holds (own_result d) output ≡ true
  own-holds None = refl
  own-holds (Some p) = refl

module _ (ω : World) (o : ℕ) (k : PropertyKey) (plain : Plain ω o k) (output : List ℕ) (a : List Answer)
    (large : value_size * length (ordinary_own_property_keys ω.strings ω.store o) ≤ length output) where
  room : is_full (context_of ω) ≡ false
  room = ap not (lt-ltb _ _ plain.room)

  -- what is left of the 2,048 calls does not matter: [[Set]] makes at most 7
  fits : {asks : Operation} → OnPlain o k asks → Fits output (perform maximum_calls (context_of ω) asks) (state a maximum_calls)
  unfolding perform
  fits by-get_prototype_of = reads output _ _ _ (prototype-run (context_of ω) o plain.object plain.found a 2047 2047 _ refl) refl
  fits (by-set_prototype_of v) = writes output _ _ (set_prototype_of-completes (context_of ω) o plain.object plain.found a 2047 2047 v)
  fits by-is_extensible = reads output _ _ _ (extensible-run (context_of ω) o plain.object plain.found a 2047 2047) refl
  fits by-prevent_extensions = writes output _ _ (prevent_extensions-completes (context_of ω) o plain.object plain.found a 2047 2047)
  fits by-get_own_property = reads output _ _ _ (own-run (context_of ω) o plain.object plain.found a 2047 2047 k _ refl) (own-holds output (own ω.store o k))
  fits (by-define_own_property d) = writes output _ _ (define_own_property-completes (context_of ω) o plain.object plain.found a 2046 2045 k room d)
  fits by-has_property = reads output _ _ _ (has_property-completes (context_of ω) o plain.object plain.found a 2046 2045 k plain.alone).is refl
  fits (by-get receiver) = reads output _ _ _ (get-completes (context_of ω) o plain.object plain.found a 2046 k plain.alone plain.is_data 2045 receiver).is refl
  fits (by-set v receiver itself) = writes output _ _ (set-completes (context_of ω) o plain.object plain.found a 2045 k plain.alone plain.is_data room v receiver itself 2041)
  fits by-delete = writes output _ _ (delete-completes (context_of ω) o plain.object plain.found a 2046 2046 k)
  fits by-own_property_keys = reads output _ _ _ (keys-run (context_of ω) o plain.object plain.found a 2047 2047) (le-leb _ _ large)

-- of no answers none are left
empty_left : {l : List Answer} → Suffix l [] → l ≡ []
empty_left same = refl

-- every method over an ordinary object with room ends in a result, in any world
pub plain-accepted : (ω : World) (bytes sheet output : List ℕ) → PlainAccepted ω bytes sheet output
unfolding ran
plain-accepted ω bytes sheet output = record {
  accepts = λ o k passes empty plain on large.
      let f = fits ω o k plain output (sheet_of sheet) large on in
      let rest = subst (λ (x : Ran Result). Suffix (left (joined x.1 x.0)) (sheet_of sheet)) f.is ((perform-longer maximum_calls (context_of ω) (asked bytes)).shrinks (state (sheet_of sheet) maximum_calls)) in
      (f.given, step-done ω bytes sheet output _ _ _ passes f.is (empty_left (subst (Suffix f.rest.answers) empty rest)) f.holds);
}
