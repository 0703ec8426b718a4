-- The lines of a page are read back. Assumes nothing.
use Rattle.std.specs.Prelude.{Some, slice_get}
use Prim.Native.Nat.{ℕ, suc, ◌+◌, ◌-◌, ◌*◌, ◌/◌, ◌%◌, ◌<◌}
use native.Mathlib.Omega.{arith}
use mathlib.Core.Path.{◌≡◌, refl, sym, ap, ◌∙◌}
use mathlib.Core.Bool.{Bool, true, false}
use mathlib.Core.List.{List, [], ◌∷◌, ◌++◌, map}
use lib.Dec.{eqb}
use lib.ListN.{length, take, drop, length-append}
use Rattle.value.specs.declared.Value.{Value}
use Rattle.value.specs.declared.PropertyKey.{PropertyKey}
use Rattle.value.specs.declared.PropertyKey.TheVariants.{String, Symbol}
use Rattle.value.specs.PropertyKey.{key_number}
use Rattle.property.specs.declared.Property.{Property}
use Rattle.property.specs.declared.Property.TheVariants.{Data, Accessor}
use Rattle.store.specs.Store.{World}
use Rattle.record.specs.Characters.{space, line_feed}
use Rattle.record.proofs.CharacterLaws.{value-digits-back}
use Rattle.steps.specs.Page.{columns, names, key_column, mark, attributes_column, first_column, second_column, line, shown_on, lines, page}
use Rattle.steps.specs.Run.{Call, world_at}
use Rattle.steps.proofs.Outputs.{front, behind}
use Rattle.steps.proofs.Pages.{length-key, length-attributes, length-first, length-second, length-line, length-names, length-lines}
use Rattle.steps.proofs.KnownKeys.{known_at}
use Rattle.demands.specs.Pages.{key_read, value_read, property_read, lines_read, page_read, shown_value, shown_property, as_shown, LinesTell, PagesRead}
use Rattle.demands.proofs.PagesHold.{digits_sum, shown-own}

-- Columns -----------------------------------------------------------------------------------

module _ (a b c d : List ℕ) (x : length a ≡ 4) (y : length b ≡ 3) where
  after-attributes : drop 9 (columns a b c d) ≡ c ++ (space ∷ (d ++ (line_feed ∷ [])))
  unfolding columns
  after-attributes = behind 4 5 a _ x ∙ behind 3 1 b _ y

  first-at : length c ≡ 18 → take 18 (drop 9 (columns a b c d)) ≡ c
  first-at z = ap (take 18) after-attributes ∙ front 18 c _ z

  second_at : length c ≡ 18 → length d ≡ 18 → take 18 (drop 28 (columns a b c d)) ≡ d
  unfolding columns
  second_at z w = ap (take 18) (behind 4 24 a _ x ∙ (behind 3 20 b _ y ∙ behind 18 1 c _ z)) ∙ front 18 d _ w

module _ (k : PropertyKey) (p : Property) where
  first_read : (v : Value) → first_column p ≡ first_column (Data v false false false) → value_read (line k p) 9 ≡ shown_value v
  unfolding value_read
  first_read v e = rw (first-at (key_column k) (attributes_column p) (first_column p) (second_column p) (length-key k) (length-attributes p) (length-first p), e, value-digits-back v)

  second-read : (v : Value) → second_column p ≡ first_column (Data v false false false) → value_read (line k p) 28 ≡ shown_value v
  unfolding value_read
  second-read v e = rw (second_at (key_column k) (attributes_column p) (first_column p) (second_column p) (length-key k) (length-attributes p) (length-first p) (length-second p), e, value-digits-back v)

-- Lines -------------------------------------------------------------------------------------

digits-read : (a : ℕ) → a < 1000 → 100 * (48 + a / 100 % 10 - 48) + (10 * (48 + a / 10 % 10 - 48) + (48 + a % 10 - 48)) ≡ a
digits-read a h = let e : (i : ℕ) → 48 + i - 48 ≡ i = λ i. omega arith in rw (e (a / 100 % 10), e (a / 10 % 10), e (a % 10)) (sym (digits_sum a h))

key-read : (k : PropertyKey) (p : Property) → key_number k < 1000 → key_read (line k p) ≡ k
unfolding key_read columns key_column
key-read (String s) p h = ap String (digits-read s h)
key-read (Symbol s) p h = ap Symbol (digits-read s h)

is-e : (b : Bool) → eqb (mark b 101) 101 ≡ b
is-e true = refl
is-e false = refl

is_c : (b : Bool) → eqb (mark b 99) 99 ≡ b
is_c true = refl
is_c false = refl

is-w : (b : Bool) → eqb (mark b 119) 119 ≡ b
is-w true = refl
is-w false = refl

no-dash : (b : Bool) → eqb (mark b 119) 45 ≡ false
no-dash true = refl
no-dash false = refl

property-read : (k : PropertyKey) (p : Property) → property_read (line k p) ≡ shown_property p
unfolding property_read columns key_column
property-read k (Data v w e c) = rw (no-dash w, is-e e, is_c c, is-w w, first_read k (Data v w e c) v refl)
property-read k (Accessor g s e c) = rw (is-e e, is_c c, first_read k (Accessor g s e c) g refl, second-read k (Accessor g s e c) s refl)

pub lines-tell : (k l : PropertyKey) (p q : Property) → LinesTell k l p q
lines-tell k l p q = record {
  apart = λ x y e. (sym (key-read k p x) ∙ (ap key_read e ∙ key-read l q y), sym (property-read k p) ∙ (ap property_read e ∙ property-read l q));
}

-- Pages -------------------------------------------------------------------------------------

lines-read : (xs : List (PropertyKey × Property)) → ((n : ℕ) (k : PropertyKey) (p : Property) → slice_get xs n ≡ Some (k, p) → key_number k < 1000) → lines_read (length xs) (lines xs) ≡ map as_shown xs
unfolding lines_read lines
lines-read [] h = refl
lines-read ((k, p) ∷ xs) h =
    rw (front 47 (line k p) (lines xs) (length-line k p), behind 47 0 (line k p) (lines xs) (length-line k p), key-read k p (h 0 k p refl), property-read k p, lines-read xs (λ n l q e. h (suc n) l q e))

page-read : (ω : World) (o : ℕ) → ((n : ℕ) (k : PropertyKey) (p : Property) → slice_get (shown_on ω o) n ≡ Some (k, p) → key_number k < 1000) → page_read (page ω o) ≡ map as_shown (shown_on ω o)
unfolding page
page-read ω o h =
    let n : length (names ++ lines (shown_on ω o)) / 47 - 1 ≡ length (shown_on ω o) = omega (arith, length-names, length-append names (lines (shown_on ω o)), length-lines (shown_on ω o)) in
    rw (n, behind 47 0 names (lines (shown_on ω o)) length-names) (lines-read (shown_on ω o) h)

pub pages-read : (calls : List Call) → PagesRead calls
pages-read calls = record {
  reads = λ i o. page-read (world_at calls i) o (λ n k p e. omega (arith, (known_at calls i).keys o k p (shown-own (world_at calls i).store o _ n k p e)));
}
