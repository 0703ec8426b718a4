use mathlib.Core.Path.{refl}
use Rattle.text_reader.proofs.ReadLaws.{later-ended, later-rest, later-columns, later-call}
use Rattle.text_reader.proofs.State.end_later.Goals as goal

pub perform_line-requires : goal.perform_line-requires
perform_line-requires c = (later-columns c.args.self.now.words.now _ _ c.args.self.now.ten c.args.self.now.below c.columns.ensures, rw c.in-Some.is at c.requires.1.1)

pub returns-in-Some : goal.returns-in-Some
returns-in-Some c = let p = c.perform_line.ensures in
    record {
      same = record { same_state = refl; same_words = p.same_words; same_strings = p.same_strings; same_rows = p.same_rows };
      reads = λ bytes. later-ended _ _ c.args.self.now.words.now _ _ _ _ bytes _ _ c.args.self.now.ten c.requires.0 (rw c.in-Some.is (later-call c.args.self.now.words.now _ _ _ c.columns.ensures)) p.done;
      rest = later-rest _ _ _ _ _ _ _ _ p.done;
      fits = p.done.fits;
    }

pub returns-in-None : goal.returns-in-None
returns-in-None c = let p = c.refuse.ensures.done in
    record {
      same = record { same_state = refl; same_words = p.same_words; same_strings = p.same_strings; same_rows = p.same_rows };
      reads = λ bytes. later-ended _ _ c.args.self.now.words.now _ _ _ _ bytes _ _ c.args.self.now.ten c.requires.0 (rw c.in-None.is refl) p.done;
      rest = later-rest _ _ _ _ _ _ _ _ p.done;
      fits = p.done.fits;
    }
