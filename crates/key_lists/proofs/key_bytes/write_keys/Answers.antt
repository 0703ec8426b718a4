use native.Mathlib.Omega.{arith}
use mathlib.Core.Path.{refl, ap, ◌∙◌}
use lib.ListN.{length}
use lib.Seq.{length-sets}
use Prim.Native.Nat.{◌<◌}
use Rattle.std.proofs.lemmas.List.{length-take-le, get_or-take}
use Rattle.key_lists.proofs.KeyLaws.{write-start, write_step}
use Rattle.key_lists.proofs.key_bytes.write_keys.Goals as goal

pub loop-i-init : goal.loop-i-init
loop-i-init c = (refl, write-start c.args.list.now _)

pub loop-i-preserved : goal.loop-i-preserved
loop-i-preserved c =
    let e = length-take-le c.args.n c.args.list.now c.requires.0 in
    let g : c.loop-i.i < c.args.n = omega arith in (
      ap length c.put_value.ensures ∙ simp length-sets c.loop-i.invariant.0,
      c.put_value.ensures
          ∙ rw (c.key_value.ensures, c.key_from_word-key.ensures)
          (rw (get_or-take c.args.n c.args.list.now c.loop-i.i 0 g) (write_step _ _ c.loop-i.i (omega (arith, c.requires.0)) (omega (arith, c.requires.1)) _ c.loop-i.invariant.1)),
    )
