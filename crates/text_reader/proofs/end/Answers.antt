use mathlib.Core.Path.{refl, sym, ◌∙◌}
use mathlib.Core.Bool.{false≢true}
use lib.ListN.{set}
use borrow.Author.Rules.{rules}
use Rattle.text_reader.proofs.ReadLaws.{state-parts, reader-parts, reader-joined, state-closed, ends-input, ended-as}
use Rattle.text_reader.proofs.end.Goals as goal

pub invariant_of-state : goal.invariant_of-state
invariant_of-state c =
    let p = reader-parts c.args.words.now c.args.strings.now c.args.state.now c.args.line.now c.args.rows.now (sym c.is_accepted.ensures ∙ c.if-not-is_accepted.false) in
    let q = state-parts c.args.state.now p.1.0 in
    record { ten = q.0; below = q.1.0 }

pub invariant_of-memory : goal.invariant_of-memory
invariant_of-memory c =
    let p = reader-parts c.args.words.now c.args.strings.now c.args.state.now c.args.line.now c.args.rows.now (sym c.is_accepted.ensures ∙ c.if-not-is_accepted.false) in
    record { memory = p.0; room = p.1.1.1 }

pub read_last-written-requires : goal.read_last-written-requires
read_last-written-requires c =
    let p = reader-parts c.args.words.now c.args.strings.now c.args.state.now c.args.line.now c.args.rows.now (sym c.is_accepted.ensures ∙ c.if-not-is_accepted.false) in
    ((state-parts c.args.state.now p.1.0).1.1, p.1.1.0)

pub returns : goal.returns
returns c =
    let p = reader-parts c.args.words.now c.args.strings.now c.args.state.now c.args.line.now c.args.rows.now (sym c.is_accepted.ensures ∙ c.if-not-is_accepted.false) in
    let l = c.read_last-written.ensures in
    let memory = c.read_last-written.new.memory in
    let state = c.read_last-written.new.self in
    ended-as memory.words.now memory.strings.now (set (set state.words.now 0 2) 2 0) memory.rows.now (search rules) (search rules) (search rules) (search rules)
    (record {
      accepts = sym (sym c.is_accepted.ensures ∙ c.if-not-is_accepted.false);
      refused = λ e. absurd (false≢true (sym e));
      takes = refl;
      does = λ e. record {
        reads = ends-input c.args.words.now c.args.strings.now c.args.state.now c.args.line.now _ _ state.words.now _ state.ten l.reads;
        rest = l.rest;
        fits = l.fits;
        still = λ h. reader-joined _ _ _ _ memory.memory (state-closed state.words.now state.ten state.below h) p.1.1.0;
      };
      within = l.fits;
    })
