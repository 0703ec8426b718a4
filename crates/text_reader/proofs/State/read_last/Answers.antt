use native.Mathlib.Omega.{arith}
use mathlib.Core.Path.{refl, ◌∙◌}
use Rattle.text_reader.proofs.ReadLaws.{last-first, last-nothing, last-later, begun-line}
use Rattle.text_reader.proofs.State.read_last.Goals as goal

pub returns-in-First : goal.returns-in-First
returns-in-First c = let p = c.end_first.ensures in
    record {
      same = p.same;
      reads = p.reads c.args.line.now ∙ last-first c.args.memory.now.words.now c.args.memory.now.strings.now c.args.line.now c.args.self.now.words.now c.in-First.ensures c.begun.ensures.0;
      rest = p.rest;
      fits = p.fits;
    }

pub returns-then-size-eq0 : goal.returns-then-size-eq0
returns-then-size-eq0 c = record {
  same = record { same_state = refl; same_words = refl; same_strings = refl; same_rows = refl };
  reads = last-nothing _ _ c.args.line.now c.args.self.now.words.now c.in-Later.ensures c.if-size-eq0.true;
  rest = refl;
  fits = omega arith;
}

pub returns-else-size-eq0 : goal.returns-else-size-eq0
returns-else-size-eq0 c = let p = c.end_later.ensures in
    record {
      same = p.same;
      reads = p.reads c.args.line.now ∙ last-later c.args.memory.now.words.now c.args.memory.now.strings.now c.args.line.now c.args.self.now.words.now c.in-Later.ensures c.begun-in-Later.ensures.0 (rw c.begun-in-Later.ensures.0 (begun-line _ c.args.line.now c.requires.1 c.if-size-eq0.false));
      rest = p.rest;
      fits = p.fits;
    }
