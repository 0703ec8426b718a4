-- Keys of an answered list, checked off one by one. Assumes nothing.
use Prim.Native.Nat.{ℕ, suc, ◌<◌, ◌≤◌}
use native.Mathlib.Omega.{arith}
use mathlib.Core.Path.{◌≡◌, refl, sym, ap, ◌∙◌}
use mathlib.Core.Bool.{Bool, true, false, not, ◌||◌, cond}
use mathlib.Core.List.{List, [], ◌∷◌}
use lib.Dec.{eqb, ltb}
use lib.ListN.{length, set}
use borrow.Author.Tests.{eqb-true, lt-ltb, le-ltb}
use Rattle.value.specs.declared.PropertyKey.{PropertyKey}
use Rattle.store_read.specs.Answers.{key_from_word, first_where}
use Rattle.store_read.proofs.ListLaws.{first-position}
use Rattle.internal_methods.specs.KeyList.{has_key, without_key, is_empty, checked_off}
use Rattle.std.proofs.Common.{Some, None}
use Rattle.std.specs.List.{list_any, position}
use Rattle.std.proofs.lemmas.List.Quantifiers.{position-Some}
use Rattle.key_lists.proofs.KeyWordLaws.{key-word, ltb-suc}
use Rattle.key_lists.specs.Unchecked.{checked_mark, unchecked}

-- where a word stands first, or the length if it is missing
abbrev place_of_word : ℕ → List ℕ → ℕ
place_of_word word ws = first_where (λ (w : ℕ). eqb w word) ws

-- Steps 19.b and 21.b: one key is checked off -----------------------------------------------------

module _ (word : ℕ) (other : word ≡ checked_mark → ⊥) where
  unchecked-has : (ws : List ℕ) → has_key (key_from_word word) (unchecked ws) ≡ ltb (place_of_word word ws) (length ws)
  unfolding has_key unchecked first_where
  unchecked-has [] = sym (le-ltb 0 0 (omega arith))
  unchecked-has (w ∷ ws) = go (eqb w checked_mark) refl (eqb w word) refl (unchecked-has ws)
    where
      go : (b : Bool) → eqb w checked_mark ≡ b → (d : Bool) → eqb w word ≡ d → has_key (key_from_word word) (unchecked ws) ≡ ltb (place_of_word word ws) (length ws)
          → has_key (key_from_word word) (cond b (unchecked ws) (key_from_word w ∷ unchecked ws)) ≡ ltb (cond d 0 (suc (place_of_word word ws))) (suc (length ws))
      go true e true f ih = absurd (other (sym (eqb-true w word f) ∙ eqb-true w checked_mark e))
      go true e false f ih = ih ∙ ltb-suc (place_of_word word ws) (length ws)
      go false e true f ih = rw (key-word w word ∙ f) (sym (lt-ltb 0 (suc (length ws)) (omega arith)))
      go false e false f ih = rw (key-word w word ∙ f) (ih ∙ ltb-suc (place_of_word word ws) (length ws))

  unchecked-set : (ws : List ℕ) → place_of_word word ws < length ws → unchecked (set ws (place_of_word word ws) checked_mark) ≡ without_key (key_from_word word) (unchecked ws)
  unfolding without_key unchecked first_where
  unchecked-set [] l = absurd (omega arith)
  unchecked-set (w ∷ ws) l = go (eqb w checked_mark) refl (eqb w word) refl (unchecked-set ws) l
    where
      go : (b : Bool) → eqb w checked_mark ≡ b → (d : Bool) → eqb w word ≡ d
          → (place_of_word word ws < length ws → unchecked (set ws (place_of_word word ws) checked_mark) ≡ without_key (key_from_word word) (unchecked ws))
          → cond d 0 (suc (place_of_word word ws)) < suc (length ws)
          → unchecked (set (w ∷ ws) (cond d 0 (suc (place_of_word word ws))) checked_mark) ≡ without_key (key_from_word word) (cond b (unchecked ws) (key_from_word w ∷ unchecked ws))
      go true e true f ih l = absurd (other (sym (eqb-true w word f) ∙ eqb-true w checked_mark e))
      go true e false f ih l = rw e (ih (omega arith))
      go false e true f ih l = rw (key-word w word ∙ f)
      go false e false f ih l = rw (e, key-word w word ∙ f) (ap (λ (ks : List PropertyKey). key_from_word w ∷ ks) (ih (omega arith)))

  module _ (ws : List ℕ) where
    has_first : has_key (key_from_word word) (unchecked ws) ≡ ltb (place_of_word word ws) (length ws)
    has_first = unchecked-has ws

    pub check-hit : (i : ℕ) → position (λ (w : ℕ). eqb w word) ws ≡ Some i → Some (unchecked (set ws i checked_mark)) ≡ checked_off (key_from_word word ∷ []) (unchecked ws)
    unfolding checked_off
    check-hit i e =
        let p : i ≡ place_of_word word ws = rw e at (first-position (λ (w : ℕ). eqb w word) ws) in
        let l = (position-Some (λ (w : ℕ). eqb w word) ws i 0 e).0 in
        let g : place_of_word word ws < length ws = rw p at l in
        rw (has_first, lt-ltb _ _ g, p) (ap Some (unchecked-set ws g))

    pub check-miss : position (λ (w : ℕ). eqb w word) ws ≡ None → None ≡ checked_off (key_from_word word ∷ []) (unchecked ws)
    unfolding checked_off
    check-miss e =
        let p : length ws ≡ place_of_word word ws = rw e at (first-position (λ (w : ℕ). eqb w word) ws) in
        let g : length ws ≤ place_of_word word ws = omega arith in
        rw (has_first, le-ltb _ _ g)

-- the word that stands for a key checked off is no key's
marked-has : (ws : List ℕ) → has_key (key_from_word checked_mark) (unchecked ws) ≡ false
unfolding has_key unchecked
marked-has [] = refl
marked-has (w ∷ ws) = go (eqb w checked_mark) refl (marked-has ws)
  where
    go : (b : Bool) → eqb w checked_mark ≡ b → has_key (key_from_word checked_mark) (unchecked ws) ≡ false → has_key (key_from_word checked_mark) (cond b (unchecked ws) (key_from_word w ∷ unchecked ws)) ≡ false
    go true e ih = ih
    go false e ih = rw (key-word w checked_mark ∙ e) ih

pub check-marked : (word : ℕ) (ws : List ℕ) → word ≡ checked_mark → None ≡ checked_off (key_from_word word ∷ []) (unchecked ws)
unfolding checked_off
check-marked word ws e = rw (e, marked-has ws)

-- Step 22 ------------------------------------------------------------------------------------------

pub any-left : (ws : List ℕ) → list_any (λ (w : ℕ). not (eqb w checked_mark)) ws ≡ not (is_empty (unchecked ws))
unfolding unchecked
any-left [] = refl
any-left (w ∷ ws) = go (eqb w checked_mark) (any-left ws)
  where
    go : (b : Bool) → list_any (λ (w : ℕ). not (eqb w checked_mark)) ws ≡ not (is_empty (unchecked ws))
        → (not b || list_any (λ (w : ℕ). not (eqb w checked_mark)) ws) ≡ not (is_empty (cond b (unchecked ws) (key_from_word w ∷ unchecked ws)))
    go true ih = ih
    go false ih = refl
