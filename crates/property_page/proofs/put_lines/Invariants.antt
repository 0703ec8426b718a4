use Prim.Native.Nat.{◌+◌, ◌*◌, ◌≤◌}
use mathlib.Core.Path.{◌≡◌}
use mathlib.Core.List.{map}
use lib.ListN.{length, drop}
use lib.Seq.{sets}
use Rattle.store.specs.Words.{store_of}
use Rattle.store_read.specs.Answers.{key_from_word}
use Rattle.steps.specs.Page.{own_of, lines}
use Rattle.property_page.proofs.put_lines.Given as goal

-- the lines of the keys from the index on are still to be put
abbrev pub invariant-loop-word : goal.invariant-loop-word
invariant-loop-word l = (l.at ≤ 47 + 47 * l.word-index) × ((length l.out ≡ length l.initial.out)
    × (sets l.initial.out 47 (lines (own_of (store_of l.store.words.now) l.o (map key_from_word l.keys))) ≡ sets l.out l.at (lines (own_of (store_of l.store.words.now) l.o (map key_from_word (drop l.word-index l.keys))))))
