use mathlib.Core.Path.{◌≡◌}
use mathlib.Core.List.{map}
use lib.ListN.{drop}
use Rattle.store_read.specs.Answers.{key_from_word}
use Rattle.internal_methods.specs.Internal.{methods}
use Rattle.calls.specs.Outs.{context_of, state_of}
use Rattle.steps.specs.TestIntegrityLevel.{test_properties}
use Rattle.integrity.specs.Levels.{integrity_level}
use Rattle.integrity.proofs.levels.test_properties.Given as goal

-- the keys from the index on are still to be looked at
abbrev pub invariant-loop-word : goal.invariant-loop-word
invariant-loop-word l =
    (test_properties (methods l.depth (context_of l.run)) l.o (integrity_level l.level) (map key_from_word l.keys)).run (state_of l.run.sheet.now l.initial.progress)
    ≡ (test_properties (methods l.depth (context_of l.run)) l.o (integrity_level l.level) (map key_from_word (drop l.word-index l.keys))).run (state_of l.run.sheet.now l.progress)
