use Rattle.std.proofs.Common.{rules}
use Rattle.internal_methods.proofs.Longer.{methods-longer}
use Rattle.own_keys.proofs.FitLaws.{still_fit}
use Rattle.integrity.proofs.KeyLaws.{list_definable}
use Rattle.integrity.proofs.sealing.set_integrity_level.Goals as goal

pub own_property_keys-requires : goal.own_property_keys-requires
own_property_keys-requires c = rw (c.over-run-2.ensures.sheet, ← c.over-run.ensures.sheet) (still_fit ((methods-longer _ _).prevent_extensions _ tt) c.in_ok-prevented.ensures.result_value (rw c.over-run.ensures.sheet c.requires.fit))

pub for_each_key-requires : goal.for_each_key-requires
for_each_key-requires c = record {
  store = c.commit.ensures.kept;
  definable = list_definable c.over-run-2.result.store.words.now _ _ (λ i. search rules) c.in_ok-list.list c.in_ok-list.ensures.loadable _ _ _ c.load_list-count.ensures.listed;
}
