use mathlib.Core.Path.{sym, ◌∙◌}
use mathlib.Core.Bool.{false≢true}
use borrow.Author.Tests.{eq-eqb}
use Rattle.text_reader.proofs.StateLaws.{begun, right-lengths}
use Rattle.text_reader.proofs.start.Goals as goal

pub returns-then-state-eq10 : goal.returns-then-state-eq10
returns-then-state-eq10 c = record {
  answers = right-lengths c.args.words.now c.args.strings.now c.args.state.now c.if-words-eq1670.true c.if-strings-eq8449.true c.if-state-eq10.true;
  refused = λ e. absurd (false≢true (sym e));
  begins = λ e line l.
      let s = c.make_empty.ensures.words_after_2 (c.make_empty.ensures.value ∙ eq-eqb _ _ c.if-words-eq1670.true) in
      let t = c.make_empty-then-state-eq10.ensures.answer ∙ eq-eqb _ _ c.if-strings-eq8449.true in
      begun _ _ _ line _ s.0 s.1 (c.make_empty-then-state-eq10.ensures.empty t) (c.make_empty-then-state-eq10.ensures.table t) c.if-state-eq10.true (c.fill.ensures.after (λ y h. h)) l;
}
