-- What a page is read from. Assumes nothing.
use Rattle.std.specs.Prelude.{ℕ, ◌≡◌, true, List, Some}
use Rattle.text.specs.Table.{is_table}
use Rattle.store.specs.declared.OrdinaryObject.{OrdinaryObject}
use Rattle.store.specs.declared.Object.TheVariants.{Ordinary}
use Rattle.store.specs.Store.{lookup}
use Rattle.store.specs.Words.{store_of}

-- a table, and in the store an ordinary object of this number
pub record OrdinaryIn (words cells : List ℕ) (o : ℕ) : Type 0 where
  pub table : is_table cells ≡ true
  pub object : OrdinaryObject
  pub found : lookup (store_of words) o ≡ Some (Ordinary object)
