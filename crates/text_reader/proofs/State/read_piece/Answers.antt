use Prim.Native.Nat.{◌<◌}
use native.Mathlib.Omega.{arith}
use mathlib.Core.Path.{◌≡◌, refl, ◌∙◌}
use lib.ListN.{length, length-set}
use lib.Seq.{drop-set-lt}
use Rattle.text_form.specs.Cells.{until}
use Rattle.text_reader.proofs.ReadLaws.{state-joined, reader-joined, taken-all, taken-line, reads_kept, reads-line}
use Rattle.record.specs.Characters.{line_feed}
use Rattle.text_reader.proofs.State.read_piece.Goals as goal

pub returns-then-end-piece : goal.returns-then-end-piece
returns-then-end-piece c =
    let state = c.args.self.now.words.now in
    let e : c.next_separator-end.result ≡ until line_feed c.args.piece.now = omega (arith, c.next_separator-end.ensures.0) in
    record {
      same = record { same_state = refl; same_words = refl; same_strings = refl; same_rows = refl };
      accepted = refl;
      takes = taken-all c.args.piece.now _ e c.if-end-piece.true;
      does = record {
        reads = reads_kept _ _ state c.args.line.now c.args.piece.now _ _ c.requires.1 c.args.self.now.ten c.requires.0.unended e _ c.if-end-piece.true c.keep-size.ensures;
        rest = refl;
        fits = omega arith;
        still = λ h. reader-joined _ _ _ _ c.args.memory.now.memory (state-joined _ (length-set state 2 _ ∙ c.args.self.now.ten) (rw (drop-set-lt 3 state 2 c.keep-size.result (omega arith)) c.args.self.now.below) h) (c.keep-size.auto.line ∙ c.requires.1);
      };
    }

pub returns : goal.returns
returns c =
    let p = c.end_line-written.ensures in
    let e : c.next_separator-end.result ≡ until line_feed c.args.piece.now = omega (arith, c.next_separator-end.ensures.0) in
    let k : c.next_separator-end.result < length c.args.piece.now = omega (arith, c.next_separator-end.ensures.1, c.if-end-piece.false) in
    record {
      same = p.same;
      accepted = refl;
      takes = taken-line c.args.piece.now _ e k;
      does = record {
        reads = reads-line _ _ c.args.self.now.words.now c.args.line.now c.args.piece.now c.next_separator-end.result c.keep-size.result c.requires.1 c.args.self.now.ten c.requires.0.unended e c.keep-size.new.line k c.keep-size.ensures c.begun.ensures.0 (p.reads c.keep-size.new.line);
        rest = p.rest;
        fits = p.fits;
        still = λ h. reader-joined _ _ _ _ c.end_line-written.new.memory.memory (state-joined _ c.end_line-written.new.self.ten c.end_line-written.new.self.below h) (c.keep-size.auto.line ∙ c.requires.1);
      };
    }
