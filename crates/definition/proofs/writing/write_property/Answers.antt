use native.Mathlib.Omega.{arith}
use mathlib.Core.Path.{sym, ◌∙◌}
use lib.ListN.{length}
use borrow.Author.Tests.{ltb-true}
use Rattle.store.specs.Words.{store_of}
use Rattle.store.proofs.WordLaws.{property-length}
use Rattle.store_read.proofs.ReadLaws.{own-found, own-missed, place-below}
use Rattle.internal_methods.specs.Monad.{pure, fails, when◌then◌else◌}
use Rattle.internal_methods.specs.Ordinary.{apply_validation}
use Rattle.definition.proofs.PlaceLaws.{place_changed}
use Rattle.definition.proofs.writing.write_property.Goals as goal

pub returns-in-Some-clause-result_value : goal.returns-in-Some-clause-result_value
unfolding pure apply_validation
returns-in-Some-clause-result_value c =
    let found = sym c.find.ensures ∙ c.in-Some.is in
    λ bytes cells s. rw (own-found _ _ _ _ found, place_changed (store_of c.args.store.words.now) c.args.o c.args.key c.in-Some.i c.args.p found)

pub returns-in-Some-clause-fitting : goal.returns-in-Some-clause-fitting
returns-in-Some-clause-fitting c = record { store = c.args.store.valid; bounds = place-below c.args.store.words.now c.args.o c.args.key _ (sym c.find.ensures ∙ c.in-Some.is) }

pub returns-then-room-clause-fitting : goal.returns-then-room-clause-fitting
returns-then-room-clause-fitting c =
    let words = c.args.store.words.now in
    record {
      store = c.args.store.valid;
      bounds = record {
        room = omega (arith, property-length words, ltb-true (length (store_of words).properties) c.args.allowance (sym c.room.ensures ∙ c.if-room.true), c.requires.1);
        joins = c.requires.0;
        absent = own-missed words c.args.o c.args.key (sym c.find.ensures ∙ c.in-None.is);
      };
    }

pub returns-else-room-clause-result_value : goal.returns-else-room-clause-result_value
unfolding pure fails when◌then◌else◌ apply_validation
returns-else-room-clause-result_value c = λ bytes cells s. rw (own-missed _ _ _ (sym c.find.ensures ∙ c.in-None.is), sym c.room.ensures ∙ c.if-room.false)
