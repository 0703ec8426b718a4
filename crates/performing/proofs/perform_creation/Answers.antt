use mathlib.Core.Path.{sym}
use Rattle.record.specs.Step.{step_of}
use Rattle.calls.specs.Outs.{context_of}
use Rattle.steps.specs.Operation.{operation_of}
use Rattle.steps.specs.Perform.{maximum_calls}
use Rattle.performing.proofs.CreationLaws.{object_made, function_made, proxy_made, proxy_revoked, object_released, last_creation}
use Rattle.performing.proofs.perform_creation.Goals as goal

pub returns-in-1-clause-result_value : goal.returns-in-1-clause-result_value
unfolding step_of operation_of
returns-in-1-clause-result_value c s = rw (c.make_object.ensures.value, c.in-1.is, sym c.value_at-v.ensures) (object_made c.args.run.now.sheet.now s maximum_calls (context_of c.args.run.now) _)

pub returns-in-2-clause-result_value : goal.returns-in-2-clause-result_value
unfolding step_of operation_of
returns-in-2-clause-result_value c s = rw (c.make_proxy.ensures.value, c.from-o.ensures, c.in-2.is, sym c.value_at-v.ensures) (proxy_made c.args.run.now.sheet.now s maximum_calls (context_of c.args.run.now) _ c.value_at-v.result)

pub returns-in-3-clause-result_value : goal.returns-in-3-clause-result_value
unfolding step_of operation_of
returns-in-3-clause-result_value c s = rw (c.revoke.ensures.value, c.from-o.ensures, c.in-3.is) (proxy_revoked c.args.run.now.sheet.now s maximum_calls (context_of c.args.run.now) _)

pub returns-in-17-clause-result_value : goal.returns-in-17-clause-result_value
unfolding step_of operation_of
returns-in-17-clause-result_value c s = rw (c.release.ensures.value, c.from-o.ensures, c.in-17.is) (object_released c.args.run.now.sheet.now s maximum_calls (context_of c.args.run.now) _)

pub returns-in_default-clause-result_value : goal.returns-in_default-clause-result_value
unfolding step_of operation_of
returns-in_default-clause-result_value c s = let last = last_creation _ c.requires.1.1 c.requires.1.0 c.in_default.in_default-own.rest.0.0.0.1 c.in_default.in_default-own.rest.0.0.1 c.in_default.in_default-own.rest.0.1 c.in_default.in_default-own.rest.1 in rw (c.make_object-in_default.ensures.value, last, sym c.value_at-v.ensures) (function_made c.args.run.now.sheet.now s maximum_calls (context_of c.args.run.now) _)
