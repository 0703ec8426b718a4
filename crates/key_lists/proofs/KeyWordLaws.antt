-- Laws of key lists in words. Assumes nothing.
use Rattle.std.specs.Prelude.{Option, None, Some}
use Prim.Native.Nat.{ℕ, suc, ◌+◌, ◌/◌, ◌%◌, ◌<◌, ◌≤◌}
use native.Mathlib.Omega.{arith}
use mathlib.Core.Path.{◌≡◌, refl, sym, ap, ◌∙◌}
use mathlib.Core.Bool.{Bool, true, false, ◌||◌}
use mathlib.Core.List.{List, [], ◌∷◌, ◌++◌, map}
use lib.Dec.{eqb, ltb}
use lib.ListN.{length, get_or, take, drop}
use borrow.Author.Tests.{eqb-true, eqb-false, eq-eqb, ltb-true, lt-ltb}
use Rattle.value.specs.declared.PropertyKey.{PropertyKey}
use Rattle.value.specs.declared.PropertyKey.TheVariants.{String, Symbol}
use Rattle.value.specs.PropertyKey.{same_key}
use Rattle.value.specs.Words.{pick}
use Rattle.value.proofs.Bools.{bool-ext, or_swap}
use Rattle.value.proofs.SameKey.{key-refl, key-eq}
use Rattle.store_read.specs.Answers.{key_from_word, key_to_word}
use Rattle.internal_methods.specs.KeyList.{has_key, duplicate, duplicate_message}
use Rattle.std.specs.List.{list_any}
use Rattle.std.proofs.lemmas.List.{drop_more, drop_all, map_more}

-- One key in a word ---------------------------------------------------------------------------

word-again : (a : ℕ) → key_to_word (key_from_word a) ≡ a
unfolding key_from_word
word-again a = go (eqb (a % 2) 0) refl
  where
    go : (b : Bool) → eqb (a % 2) 0 ≡ b → key_to_word (pick b (String (a / 2)) (Symbol (a / 2))) ≡ a
    go true e = let z = eqb-true (a % 2) 0 e in omega arith
    go false e = let z = eqb-false (a % 2) 0 e in omega arith

pub key-word : (a b : ℕ) → same_key (key_from_word a) (key_from_word b) ≡ eqb a b
key-word a b =
    bool-ext _ _
    (λ h. eq-eqb a b (sym (word-again a) ∙ ap key_to_word (key-eq (key_from_word a) (key_from_word b) h) ∙ word-again b))
    (λ h. rw (eqb-true a b h) (key-refl (key_from_word b)))

message-word : (w : ℕ) → duplicate_message (key_from_word w) ≡ 22 + w % 2
unfolding key_from_word
message-word w = go (eqb (w % 2) 0) refl
  where
    go : (b : Bool) → eqb (w % 2) 0 ≡ b → duplicate_message (pick b (String (w / 2)) (Symbol (w / 2))) ≡ 22 + w % 2
    go true e = let z : w % 2 ≡ 0 = eqb-true _ _ e in omega arith
    go false e = let z : w % 2 ≡ 0 → ⊥ = eqb-false _ _ e in omega arith

pub ltb-suc : (a b : ℕ) → ltb a b ≡ ltb (suc a) (suc b)
ltb-suc a b = bool-ext _ _ (λ h. lt-ltb (suc a) (suc b) (omega (arith, ltb-true a b h))) (λ h. lt-ltb a b (omega (arith, ltb-true (suc a) (suc b) h)))

-- Step 9 --------------------------------------------------------------------------------------

-- a word stands among others where its key does
any-has : (word : ℕ) (ws : List ℕ) → has_key (key_from_word word) (map key_from_word ws) ≡ list_any (λ (w : ℕ). eqb w word) ws
unfolding has_key
any-has word [] = refl
any-has word (w ∷ ws) = rw (key-word w word) (ap (λ (b : Bool). eqb w word || b) (any-has word ws))

snoc-has : (k l : PropertyKey) (ls : List PropertyKey) → has_key k (ls ++ (l ∷ [])) ≡ has_key k (l ∷ ls)
unfolding has_key
snoc-has k l [] = refl
snoc-has k l (m ∷ ms) = ap (λ (x : Bool). same_key m k || x) (snoc-has k l ms) ∙ or_swap (same_key m k) (same_key l k) (has_key k ms)

-- the order of the keys before does not count
duplicate-same : (before others ks : List PropertyKey) → ((k : PropertyKey) → has_key k before ≡ has_key k others) → duplicate before ks ≡ duplicate others ks
unfolding duplicate has_key
duplicate-same before others [] h = refl
duplicate-same before others (k ∷ ks) h =
    rw (h k, duplicate-same (k ∷ before) (k ∷ others) ks (λ l. ap (λ (x : Bool). same_key k l || x) (h l)))

-- of the words from i on, with those before it
abbrev pub duplicate_from : List ℕ → ℕ → Option ℕ
duplicate_from ws i = duplicate (map key_from_word (take i ws)) (map key_from_word (drop i ws))

module _ (ws : List ℕ) (i : ℕ) (l : i < length ws) where
  abbrev stands : Bool
  stands = list_any (λ (w : ℕ). eqb w (get_or ws i 0)) (take i ws)

  pub duplicate-hit : stands ≡ true → duplicate_from ws i ≡ Some (22 + get_or ws i 0 % 2)
  unfolding duplicate
  duplicate-hit g = rw (drop_more ws i 0 l, any-has (get_or ws i 0) (take i ws), g) (ap Some (message-word (get_or ws i 0)))

  -- a new word joins those before it
  grown : duplicate (key_from_word (get_or ws i 0) ∷ map key_from_word (take i ws)) (map key_from_word (drop (i + 1) ws)) ≡ duplicate_from ws (i + 1)
  grown =
      duplicate-same _ _ _ (λ k. sym (snoc-has k (key_from_word (get_or ws i 0)) (map key_from_word (take i ws))))
      ∙ ap (λ (ks : List PropertyKey). duplicate ks (map key_from_word (drop (i + 1) ws))) (sym (map_more key_from_word ws i 0 l))

  pub duplicate-step : stands ≡ false → duplicate_from ws i ≡ duplicate_from ws (i + 1)
  unfolding duplicate
  duplicate-step g = rw (drop_more ws i 0 l, any-has (get_or ws i 0) (take i ws), g) grown

pub duplicate-end : (ws : List ℕ) (i : ℕ) → length ws ≤ i → duplicate_from ws i ≡ None
unfolding duplicate
duplicate-end ws i h = rw (drop_all i ws h)

pub ruleset duplicates = (duplicate-hit, duplicate-step, duplicate-end)
