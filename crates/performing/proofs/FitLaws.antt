-- A sheet that passes its tests has key lists that can be loaded. Assumes nothing.
use Prim.Native.Nat.{ℕ, zero, suc, ◌+◌, ◌≤◌}
use native.Mathlib.Omega.{arith}
use mathlib.Core.Path.{◌≡◌, refl, ap}
use mathlib.Core.Bool.{Bool, true, false, ◌&&◌}
use mathlib.Core.List.{List, [], ◌∷◌}
use lib.Dec.{eqb, leb, ltb}
use lib.ListN.{length}
use borrow.Author.Tests.{ltb-true, lt-ltb}
use Rattle.value.proofs.Bools.{and-true, and_both}
use Rattle.value.specs.declared.Value.{Value}
use Rattle.value.specs.declared.Value.TheVariants.{Undefined, Null, Boolean, Integer32, Float64, String, Symbol, Object, Function}
use Rattle.record.specs.Bytes.{byte_at}
use Rattle.record.specs.Tests.{Counts, is_known}
use Rattle.record.specs.Sheet.{values_at, are_values_at, key_count_at, answer_at, answer_end, answers_at, is_body_at, is_answer_at, are_answers_at, sheet_of, is_sheet, values_pass, answer_passes, sheet_passes}
use Rattle.key_lists.specs.Keys.{is_bounded_key}
use Rattle.own_keys.specs.Lists.{is_list_fit, are_lists_fit}

module _ (n : Counts) (h : n.strings ≤ 256) where
  known-widens : (v : Value) → is_known n v ≡ true → is_bounded_key v ≡ true
  unfolding is_known is_bounded_key
  known-widens Undefined e = refl
  known-widens Null e = refl
  known-widens (Boolean b) e = refl
  known-widens (Integer32 i) e = refl
  known-widens (Float64 x) e = refl
  known-widens (String s) e = lt-ltb s 256 (omega (arith, ltb-true s n.strings e))
  known-widens (Symbol s) e = e
  known-widens (Object o) e = refl
  known-widens (Function f) e = refl

  values-widen : (vs : List Value) → values_pass (is_known n) vs ≡ true → values_pass is_bounded_key vs ≡ true
  unfolding values_pass
  values-widen [] e = refl
  values-widen (v ∷ vs) e = let p = and-true (is_known n v) (values_pass (is_known n) vs) e in and_both _ _ (known-widens v p.0) (values-widen vs p.1)

  length-values : (b : List ℕ) (i m : ℕ) → length (values_at b i m) ≡ m
  unfolding values_at
  length-values b i zero = refl
  length-values b i (suc m) = ap suc (length-values b (i + 9) m)

  -- by its tag
  tagged : (b : List ℕ) (i : ℕ) (one two three : Bool) → eqb (byte_at b i) 1 ≡ one → eqb (byte_at b i) 2 ≡ two → eqb (byte_at b i) 3 ≡ three
      → is_body_at b i ≡ true → answer_passes (is_known n) (answer_at b i) ≡ true → is_list_fit (answer_at b i) ≡ true
  unfolding answer_at
  tagged b i true two three p q r e f = rw p
  tagged b i false true three p q r e f = rw (p, q)
  tagged b i false false true p q r e f =
      let body : (leb (key_count_at b i) 256 && are_values_at b (i + 3) (key_count_at b i)) ≡ true = rw (p, q, r) at e in
      let pass : values_pass (is_known n) (values_at b (i + 3) (key_count_at b i)) ≡ true = rw (p, q, r) at f in
      let few : leb (length (values_at b (i + 3) (key_count_at b i))) 256 ≡ true = rw (length-values b (i + 3) (key_count_at b i)) (and-true (leb (key_count_at b i) 256) _ body).0 in
      rw (p, q, r) (and_both (leb (length (values_at b (i + 3) (key_count_at b i))) 256) (values_pass is_bounded_key (values_at b (i + 3) (key_count_at b i))) few (values-widen (values_at b (i + 3) (key_count_at b i)) pass))
  tagged b i false false false p q r e f = rw (p, q, r)

  lists-fit : (b : List ℕ) (i m : ℕ) → are_answers_at b i m ≡ true → sheet_passes (is_known n) (answers_at b i m) ≡ true → are_lists_fit (answers_at b i m) ≡ true
  unfolding answers_at are_answers_at is_answer_at sheet_passes are_lists_fit
  lists-fit b i zero e f = refl
  lists-fit b i (suc m) e f =
      let a = and-true (is_answer_at b i) (are_answers_at b (answer_end b i) m) e in
      let w = and-true (leb (answer_end b i) (length b)) (is_body_at b i) a.0 in
      let g : (answer_passes (is_known n) (answer_at b i) && sheet_passes (is_known n) (answers_at b (answer_end b i) m)) ≡ true = rw w.0 at f in
      let k = and-true (answer_passes (is_known n) (answer_at b i)) (sheet_passes (is_known n) (answers_at b (answer_end b i) m)) g in
      rw w.0 (and_both (is_list_fit (answer_at b i)) (are_lists_fit (answers_at b (answer_end b i) m)) (tagged b i (eqb (byte_at b i) 1) (eqb (byte_at b i) 2) (eqb (byte_at b i) 3) refl refl refl w.1 k.0) (lists-fit b (answer_end b i) m a.1 k.1))

  pub sheet-fits : (sheet : List ℕ) → is_sheet sheet ≡ true → sheet_passes (is_known n) (sheet_of sheet) ≡ true → are_lists_fit (sheet_of sheet) ≡ true
  unfolding sheet_of is_sheet
  sheet-fits sheet e f =
      let a = and-true (ltb 0 (length sheet)) _ e in
      lists-fit sheet 1 (byte_at sheet 0) (and-true (leb (byte_at sheet 0) 64) _ a.1).1 f
