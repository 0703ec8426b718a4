use mathlib.Core.Path.{◌∙◌}
use native.Mathlib.Omega.{arith}
use Rattle.std.proofs.lemmas.List.{length-take-le}
use Rattle.key_lists.proofs.KeyLaws.{key-in, known-in, loaded}
use Rattle.key_lists.proofs.key_bytes.load_keys.Goals as goal

pub key_word_at-requires : goal.key_word_at-requires
key_word_at-requires c =
    let e = length-take-le c.args.n c.args.out.now c.requires.1.0 in
    (omega arith, (key-in _ c.args.first c.args.n c.loop-i.i c.requires.1.1.0 (omega arith), known-in _ c.args.first c.args.n c.loop-i.i c.requires.1.1.1 (omega arith)))

pub returns : goal.returns
returns c =
    let e = length-take-le c.args.n c.args.out.now c.requires.1.0 in
    loaded c.args.sheet.now c.args.out.now c.loop-i.word-items c.args.first c.args.n c.requires.1.0 (c.loop-i.auto.word-items ∙ e) c.requires.1.1.0 (λ k h. c.loop-i.invariant k (omega arith))
