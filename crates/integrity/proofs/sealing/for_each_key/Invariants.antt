use mathlib.Core.Path.{◌≡◌}
use mathlib.Core.List.{map}
use lib.ListN.{drop}
use Rattle.store.specs.Words.{store_of}
use Rattle.store_read.specs.Answers.{key_from_word}
use Rattle.store_write.specs.Write.{Committed}
use Rattle.calls.specs.Outs.{state_of}
use Rattle.steps.specs.Sequence.{for_each}
use Rattle.steps.specs.SetIntegrityLevel.{turn}
use Rattle.integrity.specs.Levels.{integrity_level}
use Rattle.integrity.specs.Over.{methods_over}
use Rattle.integrity.proofs.sealing.for_each_key.Given as goal

-- the keys from the index on still have their turns
abbrev pub invariant-loop-word : goal.invariant-loop-word
invariant-loop-word l = record {
  committed : Committed l.initial.words l.words;
  turns : (for_each (turn (methods_over l.depth l.inputs) l.o (integrity_level l.level)) (map key_from_word l.keys)).run (store_of l.initial.words) (state_of l.inputs.sheet.now l.initial.progress)
      ≡ (for_each (turn (methods_over l.depth l.inputs) l.o (integrity_level l.level)) (map key_from_word (drop l.word-index l.keys))).run (store_of l.words) (state_of l.inputs.sheet.now l.progress);
}
