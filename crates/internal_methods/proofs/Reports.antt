-- What each internal method reports of an object is so of its base: all that `Reading`, `Writing` and `Keys` prove. Assumes nothing.
pub use Rattle.internal_methods.proofs.Tied.{Tied, tied-refl, tied-trans}
pub use Rattle.internal_methods.proofs.Reading.{is_extensible-report, is_extensible-exact, Faithful, get_own_property-report, get_own_property-exact, frozen-learnt, frozen-told, lacking-learnt, lacking-told, GetFrozen, get-report, SamePrototype, get_prototype_of-report, rooted-learnt, rooted-told, HasTied, has_property-report}
pub use Rattle.internal_methods.proofs.Writing.{Changed, prevent_extensions-report, Defined, define_own_property-report, Gone, delete-report, set_prototype_of-report, Settable, set-report}
pub use Rattle.internal_methods.proofs.Keys.{KeysTied, own_property_keys-report}
pub use Rattle.property.proofs.ValidateLaws.{AsksFrozen}
