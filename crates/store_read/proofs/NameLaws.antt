-- Whether words name an object. Assumes nothing.
use Rattle.std.specs.Prelude.{Some}
use Prim.Native.Nat.{ℕ, zero, suc, ◌+◌, ◌<◌, ◌≤◌}
use native.Mathlib.Omega.{arith}
use native.Mathlib.Numerals.{add-one}
use mathlib.Core.Path.{◌≡◌, refl, ap}
use mathlib.Core.Bool.{Bool, true, false, not, ◌||◌}
use mathlib.Core.List.{List}
use Rattle.std.specs.List.{list_any, range_with_len}
use lib.Dec.{eqb, ltb}
use lib.Ieee.{binary64, of_bits}
use mir.Syntax.{w32}
use mir.Val.{to_z}
use borrow.Author.Tests.{ne_eqb}
use Rattle.value.specs.Bits.{bit}
use Rattle.value.specs.declared.Value.{Value}
use Rattle.value.specs.declared.Value.TheVariants.{Undefined, Null, Boolean, Integer32, Float64, String, Symbol}
use Rattle.value.specs.Words.{pick, value_of}
use Rattle.property.specs.declared.Property.TheVariants.{Data, Accessor}
use Rattle.text.specs.Table.{tabulate}
use Rattle.store.specs.Release.{value_names, object_names, property_names, objects_name, properties_name}
use Rattle.store_read.proofs.ReadLaws.{odd-flag, even-flag}
use Rattle.store.proofs.WordLaws.{sized}
use Rattle.store.specs.Words.{row_at, word_at, object_of, slot_in, property_of, property_in, entry_in}

-- A value -----------------------------------------------------------------------------------

module _ (p o : ℕ) where
  pub none_named : (k : ℕ) → (k ≡ 7 → ⊥) → (k ≡ 8 → ⊥) → false ≡ value_names (value_of k p) o
  unfolding value_of
  none_named k a b = rw (ne_eqb k 7 a, ne_eqb k 8 b) (go (eqb k 1) (eqb k 2) (eqb k 3) (eqb k 4) (eqb k 5) (eqb k 6) (ltb p 4294967296))
    where
      go : (t u v w x y z : Bool)
          → false ≡ value_names (pick t Null (pick u (Boolean (not (eqb p 0))) (pick v (pick z (Integer32 (to_z w32 p)) Undefined) (pick w (Float64 (of_bits binary64 p)) (pick x (String p) (pick y (Symbol p) Undefined)))))) o
      go true u v w x y z = refl
      go false true v w x y z = refl
      go false false true w x y true = refl
      go false false true w x y false = refl
      go false false false true x y z = refl
      go false false false false true y z = refl
      go false false false false false true z = refl
      go false false false false false false z = refl

-- An object ---------------------------------------------------------------------------------

module _ (a b o : ℕ) where
  pub ordinary-names : (head : ℕ) → head < 2 → value_names (value_of a b) o ≡ object_names (Some (object_of head a b)) o
  unfolding object_of
  ordinary-names zero h = refl
  ordinary-names (suc zero) h = refl
  ordinary-names (suc (suc n)) h = absurd (omega arith)

  pub proxy-names : (head : ℕ) → head ≡ 2 → eqb a o ≡ object_names (Some (object_of head a b)) o
  unfolding object_of
  proxy-names head e = rw e

  pub revoked-names : (head : ℕ) → 2 ≤ head → (head ≡ 2 → ⊥) → false ≡ object_names (Some (object_of head a b)) o
  unfolding object_of
  revoked-names head h e = rw (ne_eqb head 0 (λ (z : head ≡ 0). omega arith), ne_eqb head 1 (λ (z : head ≡ 1). omega arith), ne_eqb head 2 e)

-- A property --------------------------------------------------------------------------------

module _ (w : List ℕ) (i o : ℕ) where
  abbrev first : Value
  first = value_of (word_at w (row_at i + 1)) (word_at w (row_at i + 2))

  abbrev second : Value
  second = value_of (word_at w (row_at i + 3)) (word_at w (row_at i + 4))

  pub first-names : true ≡ value_names (value_of (word_at w (row_at i + 1)) (word_at w (row_at i + 2))) o → true ≡ property_names (property_in w i) o
  unfolding property_in property_of
  first-names e = go (bit (word_at w (row_at i)) 0) (bit (word_at w (row_at i)) 1) (bit (word_at w (row_at i)) 2) (bit (word_at w (row_at i)) 3)
    where
      go : (t x y z : Bool) → true ≡ property_names (pick t (Accessor first second y z) (Data first x y z)) o
      go true x y z = ap (λ (b : Bool). b || value_names second o) e
      go false x y z = e

  module _ (e : false ≡ value_names (value_of (word_at w (row_at i + 1)) (word_at w (row_at i + 2))) o) where
    pub second-names : bit (word_at w (row_at i)) 0 ≡ true → value_names (value_of (word_at w (row_at i + 3)) (word_at w (row_at i + 4))) o ≡ property_names (property_in w i) o
    unfolding property_in property_of
    second-names h = rw (h, ← e)

    pub neither-names : bit (word_at w (row_at i)) 0 ≡ false → false ≡ property_names (property_in w i) o
    unfolding property_in property_of
    neither-names h = rw h e

-- All of them, from i on --------------------------------------------------------------------

module _ (w : List ℕ) (o : ℕ) where
  pub objects-any : (i n : ℕ) → list_any (λ (j : ℕ). object_names (slot_in w j) o) (range_with_len i n) ≡ objects_name (tabulate (slot_in w) i n) o
  unfolding tabulate objects_name
  objects-any i zero = refl
  objects-any i (suc n) = rw (add-one i) (ap (λ (b : Bool). object_names (slot_in w i) o || b) (objects-any (suc i) n))

  pub properties-any : (i n : ℕ) → list_any (λ (j : ℕ). property_names (property_in w j) o) (range_with_len i n) ≡ properties_name (tabulate (entry_in w) i n) o
  unfolding tabulate properties_name entry_in
  properties-any i zero = refl
  properties-any i (suc n) = rw (add-one i) (ap (λ (b : Bool). property_names (property_in w i) o || b) (properties-any (suc i) n))

pub ruleset object_laws = (sized, ordinary-names, proxy-names, revoked-names)

pub ruleset property_laws = (sized, first-names, second-names, neither-names, odd-flag, even-flag)
