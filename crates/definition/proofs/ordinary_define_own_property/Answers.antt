use Rattle.std.specs.Prelude.{Option}
use mathlib.Core.Path.{sym, ap, ◌∙◌}
use Rattle.property.specs.declared.Validation.{Validation}
use Rattle.property.specs.Validate.{validate}
use Rattle.store.specs.Store.{own}
use Rattle.store.specs.Words.{store_of}
use Rattle.internal_methods.specs.Monad.{next, ◌>>=◌}
use Rattle.internal_methods.specs.Ordinary.{apply_validation, ordinary_define_own_property}
use Rattle.calls.specs.Outs.{context_of, state_of}
use Rattle.definition.proofs.DefineLaws.{ordinary_own}
use Rattle.definition.proofs.ordinary_define_own_property.Goals as goal
use Rattle.property.specs.declared.Property.{Property}

pub returns-clause-result_value : goal.returns-clause-result_value
unfolding ordinary_define_own_property ◌>>=◌ next
returns-clause-result_value c =
    let a = c.args in
    let read = context_of a.run.now in
    let current = c.in_ok-current.current in
    let s = state_of a.run.now.sheet.now c.is_extensible.new.progress in
    let told = ordinary_own read a.o a.key c.requires.found current _ a.depth _ (rw c.in_ok-current.was at c.get_own_property.ensures) in
    rw (sym c.get_own_property.ensures, c.in_ok-current.was, sym c.is_extensible.ensures, c.in_ok-extensible.was)
    (c.apply_validation.ensures.result_value _ _ _
    ∙ ap (λ (v : Validation). (apply_validation read a.o a.key (own (store_of a.run.now.store.words.now) a.o a.key) v).run s) c.validate-v.ensures
    ∙ ap (λ (p : Option Property). (apply_validation read a.o a.key p (validate c.in_ok-extensible.extensible a.d current)).run s) told)
