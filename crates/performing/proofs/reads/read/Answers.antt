use mathlib.Core.Path.{sym}
use Rattle.record.specs.Step.{step_of}
use Rattle.store.specs.Words.{store_of}
use Rattle.calls.specs.Outs.{state_of}
use Rattle.steps.specs.Operation.{operation_of}
use Rattle.steps.specs.Perform.{perform}
use Rattle.performing.proofs.ResultLaws.{value_told, boolean_told, own_told, last_reading}
use Rattle.performing.proofs.reads.read.Goals as goal

pub returns-in-4-clause-result_value : goal.returns-in-4-clause-result_value
unfolding step_of operation_of perform
returns-in-4-clause-result_value c = rw (c.value_result.ensures.told, c.in-4.is, sym c.from-o.ensures) (value_told c.args.run.now.sheet.now (store_of c.args.run.now.store.words.now) (state_of c.args.run.now.sheet.now c.args.progress.now) _ _ c.get_prototype_of.result c.get_prototype_of.ensures)

pub returns-in-6-clause-result_value : goal.returns-in-6-clause-result_value
unfolding step_of operation_of perform
returns-in-6-clause-result_value c = rw (c.boolean_result.ensures.told, c.in-6.is, sym c.from-o.ensures) (boolean_told c.args.run.now.sheet.now (store_of c.args.run.now.store.words.now) (state_of c.args.run.now.sheet.now c.args.progress.now) _ _ c.is_extensible.result c.is_extensible.ensures)

pub returns-in-8-clause-result_value : goal.returns-in-8-clause-result_value
unfolding step_of operation_of perform
returns-in-8-clause-result_value c = rw (c.own_property_result.ensures.told, c.in-8.is, sym c.from-o.ensures, sym c.key_at-key.ensures) (own_told c.args.run.now.sheet.now (store_of c.args.run.now.store.words.now) (state_of c.args.run.now.sheet.now c.args.progress.now) _ _ c.get_own_property-own.result c.get_own_property-own.ensures)

pub returns-in-10-clause-result_value : goal.returns-in-10-clause-result_value
unfolding step_of operation_of perform
returns-in-10-clause-result_value c = rw (c.boolean_result-in-10.ensures.told, c.in-10.is, sym c.from-o.ensures, sym c.key_at-key-in-10.ensures) (boolean_told c.args.run.now.sheet.now (store_of c.args.run.now.store.words.now) (state_of c.args.run.now.sheet.now c.args.progress.now) _ _ c.has_property.result c.has_property.ensures)

pub returns-in_default-clause-result_value : goal.returns-in_default-clause-result_value
unfolding step_of operation_of perform
returns-in_default-clause-result_value c = rw (c.value_result-in_default.ensures.told, last_reading _ c.requires.1 c.in_default.in_default-own.rest.0.0.0.1 c.in_default.in_default-own.rest.0.0.1 c.in_default.in_default-own.rest.0.1 c.in_default.in_default-own.rest.1, sym c.from-o.ensures, sym c.key_at-key-in_default.ensures, sym c.value_at-receiver.ensures) (value_told c.args.run.now.sheet.now (store_of c.args.run.now.store.words.now) (state_of c.args.run.now.sheet.now c.args.progress.now) _ _ c.get.result c.get.ensures)
