use mathlib.Core.Path.{sym}
use Rattle.record.specs.Step.{step_of}
use Rattle.calls.specs.Outs.{state_of}
use Rattle.steps.specs.Operation.{operation_of}
use Rattle.steps.specs.Perform.{perform}
use Rattle.performing.proofs.ResultLaws.{write_told, write_taken}
use Rattle.performing.proofs.WritingLaws.{last_writing}
use Rattle.performing.proofs.writes.perform_writing.Goals as goal

pub returns-in-5 : goal.returns-in-5
unfolding step_of operation_of perform
returns-in-5 c = record { result_value = rw (c.write_result.ensures, c.in-5.is, sym c.from-o.ensures, sym c.value_at-prototype.ensures) (write_told c.args.run.now.store.words.now c.args.run.now.sheet.now (state_of c.args.run.now.sheet.now c.args.progress.now) _ _ c.set_prototype_of-set.result c.set_prototype_of-set.ensures.result_value); taken = rw c.write_result.ensures (write_taken c.args.run.now.store.words.now c.set_prototype_of-set.result c.set_prototype_of-set.ensures.fitting) }

pub returns-in-7 : goal.returns-in-7
unfolding step_of operation_of perform
returns-in-7 c = record { result_value = rw (c.write_result-in-7.ensures, c.in-7.is, sym c.from-o.ensures) (write_told c.args.run.now.store.words.now c.args.run.now.sheet.now (state_of c.args.run.now.sheet.now c.args.progress.now) _ _ c.prevent_extensions.result c.prevent_extensions.ensures.result_value); taken = rw c.write_result-in-7.ensures (write_taken c.args.run.now.store.words.now c.prevent_extensions.result c.prevent_extensions.ensures.fitting) }

pub returns-in-9 : goal.returns-in-9
unfolding step_of operation_of perform
returns-in-9 c = record { result_value = rw (c.write_result-in-9.ensures, c.in-9.is, sym c.from-o.ensures, sym c.key_at-key.ensures, sym c.descriptor_at-object.ensures, sym c.to_property_descriptor-d.ensures) (write_told c.args.run.now.store.words.now c.args.run.now.sheet.now (state_of c.args.run.now.sheet.now c.args.progress.now) _ _ c.define_own_property-defined.result c.define_own_property-defined.ensures.result_value); taken = rw c.write_result-in-9.ensures (write_taken c.args.run.now.store.words.now c.define_own_property-defined.result c.define_own_property-defined.ensures.fitting) }

pub returns-in-12 : goal.returns-in-12
unfolding step_of operation_of perform
returns-in-12 c = record { result_value = rw (c.write_result-in-12.ensures, c.in-12.is, sym c.from-o.ensures, sym c.key_at-key-in-12.ensures, sym c.value_at-v.ensures, sym c.value_at-receiver.ensures) (write_told c.args.run.now.store.words.now c.args.run.now.sheet.now (state_of c.args.run.now.sheet.now c.args.progress.now) _ _ c.set-set.result c.set-set.ensures.result_value); taken = rw c.write_result-in-12.ensures (write_taken c.args.run.now.store.words.now c.set-set.result c.set-set.ensures.fitting) }

pub returns-in_default : goal.returns-in_default
unfolding step_of operation_of perform
returns-in_default c = record { result_value = rw (c.write_result-in_default.ensures, last_writing _ c.requires.1.0 c.requires.1.1.0 c.requires.1.1.1 c.in_default.in_default-own.rest.0.0.0.1 c.in_default.in_default-own.rest.0.0.1 c.in_default.in_default-own.rest.0.1 c.in_default.in_default-own.rest.1, sym c.from-o.ensures, sym c.key_at-key-in_default.ensures) (write_told c.args.run.now.store.words.now c.args.run.now.sheet.now (state_of c.args.run.now.sheet.now c.args.progress.now) _ _ c.delete.result c.delete.ensures.result_value); taken = rw c.write_result-in_default.ensures (write_taken c.args.run.now.store.words.now c.delete.result c.delete.ensures.fitting) }
