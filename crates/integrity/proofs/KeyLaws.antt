-- The keys that an object lists have numbers that a store's words can hold. Assumes nothing.
use Rattle.std.specs.Prelude.{Option, None, Some}
use Prim.Native.Nat.{ℕ, zero, suc, ◌/◌, ◌%◌, ◌^◌, ◌<◌}
use native.Mathlib.Omega.{arith}
use mathlib.Core.Path.{◌≡◌, refl, sym}
use mathlib.Core.Bool.{Bool, true, false, cond}
use mathlib.Core.List.{List, [], ◌∷◌, ◌++◌, map}
use lib.Dec.{eqb, ltb}
use lib.ListN.{get_or, take}
use borrow.Author.Tests.{ltb-true}
use Rattle.value.proofs.Bools.{and-true}
use Rattle.value.specs.declared.Value.{Value}
use Rattle.value.specs.declared.Value.TheVariants as value
use Rattle.value.specs.declared.PropertyKey.{PropertyKey}
use Rattle.value.specs.declared.PropertyKey.TheVariants.{String, Symbol}
use Rattle.value.specs.PropertyKey.{key_of, key_number}
use Rattle.value.specs.Words.{pick}
use Rattle.text.specs.Strings.{Strings}
use Rattle.text.specs.Table.{tabulate}
use Rattle.store.specs.OwnKeys.{KeyClass, is_index, is_string, is_symbol, index_value, class_of, keys_in, of_class, insert_index, ascending, ordered, ordinary_own_property_keys}
use Rattle.store.specs.Words.{store_of, entry_in, word_at, key_at}
use Rattle.store.specs.Words as words
use Rattle.store_read.specs.Answers.{key_from_word, Listed}
use Rattle.internal_methods.specs.Answers.{cons_key, keys_of}
use Rattle.record.specs.Sheet.{values_pass}
use Rattle.key_lists.specs.Keys.{keys_held, is_bounded_key}
use Rattle.own_keys.specs.Loading.{listed_keys, Loadable}
use Rattle.own_keys.specs.declared.loading.KeyList.{KeyList}
use Rattle.own_keys.specs.declared.loading.KeyList.TheVariants.{Answered, Own}
use Rattle.integrity.specs.Definable.{AreDefinable}

unfoldable AllFit : List PropertyKey → Type 0
AllFit [] = Unit {0}
AllFit (k ∷ ks) = (key_number k < 2 ^ 58) × AllFit ks

all_append : (ks ls : List PropertyKey) → AllFit ks → AllFit ls → AllFit (ks ++ ls)
unfolding AllFit
all_append [] ls a b = b
all_append (k ∷ ks) ls a b = (a.0, all_append ks ls a.1 b)

-- Of an ordinary object ------------------------------------------------------------------

module _ (strings : Strings) where
  all-of : (test : KeyClass → Bool) (ks : List PropertyKey) → AllFit ks → AllFit (of_class test strings ks)
  unfolding AllFit of_class
  all-of test [] a = tt
  all-of test (k ∷ ks) a = go (test (class_of strings k)) (all-of test ks a.1)
    where
      go : (b : Bool) → AllFit (of_class test strings ks) → AllFit (cond b (k ∷ of_class test strings ks) (of_class test strings ks))
      go true r = (a.0, r)
      go false r = r

  all_insert : (k : PropertyKey) (ks : List PropertyKey) → key_number k < 2 ^ 58 → AllFit ks → AllFit (insert_index strings k ks)
  unfolding AllFit insert_index
  all_insert k [] h a = (h, tt)
  all_insert k (l ∷ ls) h a = go (ltb (index_value (class_of strings k)) (index_value (class_of strings l))) (all_insert k ls h a.1)
    where
      go : (b : Bool) → AllFit (insert_index strings k ls) → AllFit (cond b (k ∷ l ∷ ls) (l ∷ insert_index strings k ls))
      go true r = (h, a)
      go false r = (a.0, r)

  all-ascending : (ks : List PropertyKey) → AllFit ks → AllFit (ascending strings ks)
  unfolding AllFit ascending
  all-ascending [] a = tt
  all-ascending (k ∷ ks) a = all_insert k (ascending strings ks) a.0 (all-ascending ks a.1)

  all-ordered : (ks : List PropertyKey) → AllFit ks → AllFit (ordered strings ks)
  unfolding ordered
  all-ordered ks a =
      all_append (ascending strings (of_class is_index strings ks)) _ (all-ascending _ (all-of is_index ks a))
      (all_append (of_class is_string strings ks) _ (all-of is_string ks a) (all-of is_symbol ks a))

-- a key word is of 64 bits
word_fits : (w : ℕ) → w < 2 ^ 64 → key_number (words.key_of w) < 2 ^ 58
unfolding words.key_of
word_fits w h = go (eqb (w / 32 % 2) 0)
  where
    go : (b : Bool) → key_number (pick b (String (w / 64)) (Symbol (w / 64))) < 2 ^ 58
    go true = omega (arith, h)
    go false = omega (arith, h)

module _ (ws : List ℕ) (fits : (i : ℕ) → get_or ws i 0 < 2 ^ 64) (o : ℕ) where
  all_in : (n i : ℕ) → AllFit (keys_in (tabulate (entry_in ws) i n) o)
  unfolding AllFit keys_in tabulate entry_in
  all_in zero i = tt
  all_in (suc n) i = go (eqb (entry_in ws i).owner o) (all_in n (suc i))
    where
      go : (b : Bool) → AllFit (keys_in (tabulate (entry_in ws) (suc i) n) o)
          → AllFit (cond b ((entry_in ws i).key ∷ keys_in (tabulate (entry_in ws) (suc i) n) o) (keys_in (tabulate (entry_in ws) (suc i) n) o))
      go true r = (word_fits (word_at ws (key_at i)) (fits (key_at i)), r)
      go false r = r

  own-fit : (strings : Strings) → AllFit (ordinary_own_property_keys strings (store_of ws) o)
  unfolding ordinary_own_property_keys store_of
  own-fit strings = all-ordered strings _ (all_in (word_at ws 1) 0)

-- Of a sheet -----------------------------------------------------------------------------

known-fits : (v : Value) (k : PropertyKey) → is_bounded_key v ≡ true → key_of v ≡ Some k → key_number k < 2 ^ 58
unfolding is_bounded_key
known-fits value.Undefined k h e = let z : ◌≡◌ {A = ℕ} 0 1 = cc in absurd (omega arith)
known-fits value.Null k h e = let z : ◌≡◌ {A = ℕ} 0 1 = cc in absurd (omega arith)
known-fits (value.Boolean b) k h e = let z : ◌≡◌ {A = ℕ} 0 1 = cc in absurd (omega arith)
known-fits (value.Integer32 n) k h e = let z : ◌≡◌ {A = ℕ} 0 1 = cc in absurd (omega arith)
known-fits (value.Float64 x) k h e = let z : ◌≡◌ {A = ℕ} 0 1 = cc in absurd (omega arith)
known-fits (value.String s) k h e = let p : String s ≡ k = cc in rw (sym p) (omega (arith, ltb-true s 256 h))
known-fits (value.Symbol s) k h e = let p : Symbol s ≡ k = cc in rw (sym p) (omega (arith, ltb-true s 256 h))
known-fits (value.Object o) k h e = let z : ◌≡◌ {A = ℕ} 0 1 = cc in absurd (omega arith)
known-fits (value.Function f) k h e = let z : ◌≡◌ {A = ℕ} 0 1 = cc in absurd (omega arith)

values-fit : (vs : List Value) → values_pass is_bounded_key vs ≡ true → AllFit (keys_held (keys_of vs))
unfolding AllFit values_pass keys_of
values-fit [] h = tt
values-fit (v ∷ vs) h =
    let p = and-true (is_bounded_key v) (values_pass is_bounded_key vs) h in
    go (key_of v) (keys_of vs) (λ k e. known-fits v k p.0 e) (values-fit vs p.1)
  where
    go : (x : Option PropertyKey) (y : Option (List PropertyKey)) → ((k : PropertyKey) → x ≡ Some k → key_number k < 2 ^ 58) → AllFit (keys_held y) → AllFit (keys_held (cons_key x y))
    go None None a b = tt
    go None (Some ks) a b = tt
    go (Some k) None a b = tt
    go (Some k) (Some ks) a b = (a k refl, b)

-- Of each list ---------------------------------------------------------------------------

list-fits : (ws sheet : List ℕ) (strings : Strings) → ((i : ℕ) → get_or ws i 0 < 2 ^ 64) → (list : KeyList) → Loadable sheet list → AllFit (listed_keys sheet strings (store_of ws) list)
list-fits ws sheet strings fits (Answered a) l = values-fit _ l.known
list-fits ws sheet strings fits (Own o) l = own-fit ws fits o strings

all-definable : (keys : List ℕ) → AllFit (map key_from_word keys) → AreDefinable keys
unfolding AllFit
all-definable [] a i l = absurd (omega arith)
all-definable (w ∷ ws) a zero l = a.0
all-definable (w ∷ ws) a (suc i) l = all-definable ws a.1 i (omega arith)

pub list_definable : (ws sheet : List ℕ) (strings : Strings) → ((i : ℕ) → get_or ws i 0 < 2 ^ 64) → (list : KeyList) → Loadable sheet list
    → (before after : List ℕ) (n : ℕ) → Listed before after n (listed_keys sheet strings (store_of ws) list) → AreDefinable (take n after)
list_definable ws sheet strings fits list l before after n h = all-definable (take n after) (rw h.listed (list-fits ws sheet strings fits list l))
