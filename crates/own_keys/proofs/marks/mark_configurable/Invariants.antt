use mathlib.Core.Path.{◌≡◌}
use mathlib.Core.List.{map}
use Rattle.store_read.specs.Answers.{key_from_word}
use Rattle.internal_methods.specs.Proxy.{sorted}
use Rattle.internal_methods.specs.Internal.{methods}
use Rattle.calls.specs.Outs.{context_of, state_of}
use Rattle.own_keys.proofs.MarkLaws.{sorted_onto}
use Rattle.own_keys.proofs.marks.mark_configurable.Given as goal

abbrev pub invariant-loop-i : goal.invariant-loop-i
invariant-loop-i l = sorted_onto ((methods l.depth (context_of l.run)).get_own_property l.target) l.keys l.marks l.i (state_of l.run.sheet.now l.progress) ≡ (sorted ((methods l.depth (context_of l.run)).get_own_property l.target) (map key_from_word l.keys)).run (state_of l.run.sheet.now l.initial.progress)
