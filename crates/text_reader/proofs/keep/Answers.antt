use Prim.Native.Nat.{◌+◌, ◌-◌}
use mathlib.Core.Path.{refl}
use lib.ListN.{length}
use Rattle.std.proofs.lemmas.Slice.{put_mid-paste}
use native.Mathlib.Omega.{arith}
use Rattle.text_reader.proofs.StateLaws.{added-fits, added-long, added-past}
use Rattle.text_reader.proofs.keep.Goals as goal

pub returns-then-count-at : goal.returns-then-count-at
returns-then-count-at c = rw (put_mid-paste c.args.size (c.args.size + length c.args.piece.now - c.args.size) c.args.line.now _ c.args.piece.now (length c.args.piece.now) c.copy.ensures (omega arith) refl) (added-fits c.args.line.now c.args.piece.now c.args.size c.requires (omega arith))

pub returns-else-count-at : goal.returns-else-count-at
returns-else-count-at c = added-long c.args.line.now c.args.piece.now c.args.size c.requires (omega arith) (omega arith)

pub returns-else-size-le-MAXIMUM_LINE : goal.returns-else-size-le-MAXIMUM_LINE
returns-else-size-le-MAXIMUM_LINE c = added-past c.args.line.now c.args.piece.now c.args.size (omega arith)
