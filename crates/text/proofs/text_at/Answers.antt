use mathlib.Core.Path.{refl}
use native.Mathlib.Omega.{arith}
use Rattle.text.proofs.TableLaws.{length_most, text-part}
use Rattle.text.proofs.text_at.Goals as goal

pub overflow_add-end : goal.overflow_add-end
overflow_add-end c = omega (arith, length_most c.args.cells.now c.args.n)

pub slice_bounds-result-end : goal.slice_bounds-result-end
slice_bounds-result-end c = omega (arith, length_most c.args.cells.now c.args.n)

pub returns : goal.returns
returns c = text-part _ _ _ _ c.requires.0 c.requires.1 refl c.length_at.ensures
