-- The methods that objects have over each store, where the rest of what methods read stays. Assumes nothing.
use Rattle.std.specs.Prelude.{ℕ}
use Rattle.text.specs.Table.{strings_of}
use Rattle.store.specs.Store.{Store}
use Rattle.internal_methods.specs.Methods.{Methods}
use Rattle.internal_methods.specs.Internal.{methods}
use Rattle.integrity.specs.declared.Inputs.{Inputs}

abbrev pub methods_over : ℕ → Inputs → Store → Methods
methods_over depth i σ = methods depth (record { store = σ; strings = strings_of i.strings.now; allowance = i.allowance })
