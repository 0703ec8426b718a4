use native.Mathlib.Omega.{arith}
use mathlib.Core.Path.{◌≡◌, refl, sym, ap, ◌∙◌}
use mathlib.Core.Bool.{true, false≢true}
use Rattle.text_form.specs.Reader.{is_ended, read_bytes}
use Rattle.text_reader.specs.Memory.{phase_in}
use Rattle.text_reader.proofs.ReadLaws.{state-parts, reader-parts, reader-joined, phase-open}
use Rattle.text_reader.proofs.feed.Goals as goal

pub invariant_of-state : goal.invariant_of-state
invariant_of-state c =
    let p = reader-parts c.args.words.now c.args.strings.now c.args.state.now c.args.line.now c.args.rows.now (sym c.is_accepted.ensures ∙ c.if-not-is_accepted.false) in
    let q = state-parts c.args.state.now p.1.0 in
    record { ten = q.0; below = q.1.0 }

pub invariant_of-memory : goal.invariant_of-memory
invariant_of-memory c =
    let p = reader-parts c.args.words.now c.args.strings.now c.args.state.now c.args.line.now c.args.rows.now (sym c.is_accepted.ensures ∙ c.if-not-is_accepted.false) in
    record { memory = p.0; room = p.1.1.1 }

pub invariant_of-memory-in-Ended : goal.invariant_of-memory-in-Ended
invariant_of-memory-in-Ended c =
    let p = reader-parts c.args.words.now c.args.strings.now c.args.state.now c.args.line.now c.args.rows.now (sym c.is_accepted.ensures ∙ c.if-not-is_accepted.false) in
    record { memory = p.0; room = p.1.1.1 }

pub read_piece-requires : goal.read_piece-requires
read_piece-requires c =
    let p = reader-parts c.args.words.now c.args.strings.now c.args.state.now c.args.line.now c.args.rows.now (sym c.is_accepted.ensures ∙ c.if-not-is_accepted.false) in
    (record { unended = phase-open c.phase.result c.args.state.now c.phase.ensures c.in-First.is; counts = (state-parts c.args.state.now p.1.0).1.1 }, p.1.1.0)

pub returns-in-Ended : goal.returns-in-Ended
unfolding read_bytes
returns-in-Ended c =
    let p = reader-parts c.args.words.now c.args.strings.now c.args.state.now c.args.line.now c.args.rows.now (sym c.is_accepted.ensures ∙ c.if-not-is_accepted.false) in
    let e : is_ended (phase_in c.args.state.now) ≡ true = ap is_ended c.in-Ended.ensures in
    record {
      accepts = sym (sym c.is_accepted.ensures ∙ c.if-not-is_accepted.false);
      refused = λ f. absurd (false≢true (sym f));
      takes = λ f. rw e;
      does = λ f. record { reads = refl; rest = refl; fits = omega arith; still = λ h. reader-joined c.args.words.now c.args.strings.now c.args.state.now c.args.line.now p.0 p.1.0 p.1.1.0 };
      within = (omega arith, omega arith);
    }
