-- Laws of reading the store's words. Assumes nothing.
use Prim.Native.Nat.{ℕ, zero, suc, ◌+◌, ◌*◌, ◌/◌, ◌%◌, ◌^◌, ◌<◌, ◌≤◌}
use native.Mathlib.Omega.{arith}
use native.Mathlib.Numerals.{add-one}
use mathlib.Core.Path.{◌≡◌, refl, sym, ap, subst, ◌∙◌}
use mathlib.Core.Bool.{Bool, true, false, not, cond, true≢false, false≢true}
use mathlib.Core.List.{List, [], ◌∷◌}
use lib.Dec.{eqb, ltb}
use lib.ListN.{length, get_or, take, drop}
use Rattle.std.proofs.Common.{Some, None}
use Rattle.std.specs.List.{position, position_from}
use Rattle.std.proofs.lemmas.Iterator.Adapters.{position_from-zero}
use Rattle.text.proofs.TableLaws.{part}
use borrow.Author.Tests.{ltb-true, ltb-false, lt-ltb, eq-eqb, ne_eqb}
use Rattle.value.specs.Bits.{bit}
use Rattle.value.specs.declared.PropertyKey.{PropertyKey}
use Rattle.value.specs.declared.PropertyKey.TheVariants.{String, Symbol}
use Rattle.value.specs.PropertyKey.{key_number}
use Rattle.value.specs.Words.{pick, value_of}
use Rattle.value.proofs.BitLaws.{bit-above}
use Rattle.value.proofs.Bools.{bool-ext}
use Rattle.text.specs.Table.{tabulate, strings_of, is_table}
use Rattle.text.specs.Answers.{read_table}
use Rattle.store.specs.declared.Entry.{Entry}
use Rattle.store.specs.declared.OrdinaryObject.{OrdinaryObject}
use Rattle.store.specs.declared.ProxyObject.{ProxyObject}
use Rattle.store.specs.declared.Object.{Object}
use Rattle.store.specs.declared.Object.TheVariants as object
use Rattle.store.specs.Store.{is_at, find, own, lookup, first_or, next_number, live_count}
use Rattle.store.specs.Words.{made_at, live_at, released_at, first_at, queue_at, store_of, object_of, object_in, slot_in, released_in, next_in, property_in, entry_in, key_word, word_at, object_at, key_at}
use Rattle.store.proofs.StoreLaws.{found_below}
use Rattle.store.proofs.WordLaws.{Sized, sized, property-length, live-word, object-length, released-length, lookup-live, at-word}
use Rattle.store_read.specs.Answers.{is_ordinary, first_place, find_place, key_words, class_weight}

-- Objects ------------------------------------------------------------------------------------------

-- an object's words, by whether it is ordinary
pub ordinary-words : (head a b : ℕ) → head < 2 → object.Ordinary (record { prototype = value_of a b; extensible = eqb head 1 }) ≡ object_of head a b
unfolding object_of
ordinary-words zero a b h = refl
ordinary-words (suc zero) a b h = refl
ordinary-words (suc (suc n)) a b h = absurd (omega arith)

pub proxy-words : (head a b : ℕ) → 2 ≤ head → object.Proxy (record { target = a; traps = b; revoked = not (eqb head 2) }) ≡ object_of head a b
unfolding object_of
proxy-words head a b h = rw (ne_eqb head 0 (λ (e : head ≡ 0). omega arith), ne_eqb head 1 (λ (e : head ≡ 1). omega arith))

-- The first that passes a test -----------------------------------------------------------------

module _ {A : Type 0} (test : A → Bool) where
  found_from : (i j : ℕ) (xs : List A) → position_from test i xs ≡ Some j → first_place test i xs ≡ Some j
  unfolding first_place
  found_from i j [] e = cc
  found_from i j (x ∷ xs) e = go (test x) (λ q. found_from (suc i) j xs q) (rw add-one at e)
    where
      go : (b : Bool) → (position_from test (suc i) xs ≡ Some j → first_place test (suc i) xs ≡ Some j)
          → cond b (Some i) (position_from test (suc i) xs) ≡ Some j → pick b (Some i) (first_place test (suc i) xs) ≡ Some j
      go true r q = let z : i ≡ j = cc in ap Some z
      go false r q = r q

  missing_from : (i : ℕ) (xs : List A) → position_from test i xs ≡ None → first_place test i xs ≡ None
  unfolding first_place
  missing_from i [] e = refl
  missing_from i (x ∷ xs) e = go (test x) (λ q. missing_from (suc i) xs q) (rw add-one at e)
    where
      go : (b : Bool) → (position_from test (suc i) xs ≡ None → first_place test (suc i) xs ≡ None)
          → cond b (Some i) (position_from test (suc i) xs) ≡ None → pick b (Some i) (first_place test (suc i) xs) ≡ None
      go true r q = cc
      go false r q = r q

  pub found-place : (j : ℕ) (xs : List A) → position test xs ≡ Some j → first_place test 0 xs ≡ Some j
  found-place j xs e = found_from 0 j xs (sym (position_from-zero test xs) ∙ e)

  pub missing-place : (xs : List A) → position test xs ≡ None → first_place test 0 xs ≡ None
  missing-place xs e = missing_from 0 xs (sym (position_from-zero test xs) ∙ e)

  pub first-none : (f : ℕ → A) (i n : ℕ) → ((j : ℕ) → test (f j) ≡ false) → None ≡ first_place test i (tabulate f i n)
  unfolding tabulate first_place
  first-none f i zero h = refl
  first-none f i (suc n) h = rw (h i) (first-none f (suc i) n h)

-- two tests that agree find one place
pub first-same : {A B : Type 0} (p : A → Bool) (q : B → Bool) (f : ℕ → A) (g : ℕ → B) (i n : ℕ) → ((j : ℕ) → p (f j) ≡ q (g j))
    → first_place p i (tabulate f i n) ≡ first_place q i (tabulate g i n)
unfolding tabulate first_place
first-same p q f g i zero h = refl
first-same p q f g i (suc n) h = rw (h i, first-same p q f g (suc i) n h)

-- Key words ------------------------------------------------------------------------------------

module _ (words : List ℕ) (o : ℕ) where
  -- the place of the key word is that of the property
  pub place-word : (k : PropertyKey) → o < 32
      → first_place (λ (w : ℕ). eqb w (key_word o k)) 0 (key_words words) ≡ find_place (store_of words).properties o k
  unfolding find_place store_of
  place-word k h = sym (first-same _ _ _ _ 0 (word_at words 1) (λ i. at-word words i o k h))

  -- no key word has an owner from 32 on
  pub no-owner : (k : PropertyKey) → 32 ≤ o → None ≡ find_place (store_of words).properties o k
  unfolding find_place store_of is_at entry_in
  no-owner k h = first-none _ _ 0 (word_at words 1) (λ i. let e : eqb (word_at words (key_at i) % 32) o ≡ false = ne_eqb _ _ (λ (z : word_at words (key_at i) % 32 ≡ o). omega arith) in rw e)

pub key-joined : (o : ℕ) (k : PropertyKey) → o + class_weight k + 64 * key_number k ≡ key_word o k
key-joined o (String s) = omega arith
key-joined o (Symbol s) = refl

tabulate-from : (f : ℕ → ℕ) (k n i : ℕ) → tabulate f (k + i) n ≡ tabulate (λ (j : ℕ). f (k + j)) i n
unfolding tabulate
tabulate-from f k zero i = refl
tabulate-from f k (suc n) i = let z : suc (k + i) ≡ k + suc i = omega arith in ap (λ r. f (k + i) ∷ r) (rw z (tabulate-from f k n (suc i)))

-- the key words stand from 134 on
pub key-words : (words : List ℕ) (n : ℕ) → n ≡ word_at words 1 → 134 + n ≤ length words → take n (drop 134 words) ≡ key_words words
key-words words n e h = part words 134 n h ∙ ap (λ m. tabulate (λ k. get_or words k 0) 134 m) e ∙ tabulate-from (λ (i : ℕ). word_at words i) 134 (word_at words 1) 0

-- what finding the key's word says of its place
module _ (words : List ℕ) (o number weight : ℕ) (k : PropertyKey) (owned : o < 32) (numbered : number ≡ key_number k) (weighed : weight ≡ class_weight k) where
  at_place : first_place (λ (w : ℕ). eqb w (o + weight + 64 * number)) 0 (key_words words) ≡ find_place (store_of words).properties o k
  at_place =
      let w : o + weight + 64 * number ≡ key_word o k = rw (numbered, weighed) (key-joined o k) in
      rw w (place-word words o k owned)

  pub word-found : (i : ℕ) → position (λ (w : ℕ). eqb w (o + weight + 64 * number)) (key_words words) ≡ Some i → Some i ≡ find_place (store_of words).properties o k
  word-found i e = sym (found-place _ i _ e) ∙ at_place

  pub word-missing : position (λ (w : ℕ). eqb w (o + weight + 64 * number)) (key_words words) ≡ None → None ≡ find_place (store_of words).properties o k
  word-missing e = sym (missing-place _ _ e) ∙ at_place

-- nor, below 2 ^ 64, a number from 2 ^ 58 on
none_above : (m i : ℕ) (ws : List ℕ) → ((j : ℕ) → get_or ws j 0 < m) → None ≡ first_place (λ (w : ℕ). eqb w m) i ws
unfolding first_place
none_above m i [] fits = refl
none_above m i (w ∷ ws) fits = let e : eqb w m ≡ false = ne_eqb _ _ (λ (z : w ≡ m). omega (arith, fits 0)) in rw e (none_above m (suc i) ws (λ (j : ℕ). fits (suc j)))

pub no_key : (words list : List ℕ) → list ≡ key_words words → ((i : ℕ) → get_or list i 0 < 2 ^ 64) → (o : ℕ) (k : PropertyKey) → o < 32 → 288230376151711744 ≤ key_number k
    → None ≡ find_place (store_of words).properties o k
no_key words list e fits o k owned large =
    rw e at (none_above (key_word o k) 0 list (λ (i : ℕ). omega (arith, fits i, key-joined o k))) ∙ place-word words o k owned

-- What stands at the place ------------------------------------------------------------------------

module _ (f : ℕ → Entry) (o : ℕ) (k : PropertyKey) where
  found-by : (i n j : ℕ) (b : Bool) → is_at (f i) o k ≡ b → first_place (λ (e : Entry). is_at e o k) i (tabulate f i n) ≡ Some j
      → (j < i + n) × (find (tabulate f i n) o k ≡ Some (f j).property)
  unfolding tabulate first_place find
  found-by i zero j b e q = let z : ◌≡◌ {A = ℕ} 0 1 = cc in absurd (omega arith)
  found-by i (suc n) j true e q =
      let p : Some i ≡ Some j = rw e at q in
      let z : i ≡ j = cc in
      (omega arith, rw (e, z))
  found-by i (suc n) j false e q =
      let p : first_place (λ (e : Entry). is_at e o k) (suc i) (tabulate f (suc i) n) ≡ Some j = rw e at q in
      let (l, r) = found-by (suc i) n j _ refl p in
      (omega arith, rw e r)

  missed_by : (i n : ℕ) (b : Bool) → is_at (f i) o k ≡ b → first_place (λ (e : Entry). is_at e o k) i (tabulate f i n) ≡ None
      → find (tabulate f i n) o k ≡ None
  unfolding tabulate first_place find
  missed_by i zero b e q = refl
  missed_by i (suc n) true e q =
      let p : Some i ≡ None = rw e at q in
      let z : ◌≡◌ {A = ℕ} 0 1 = cc in absurd (omega arith)
  missed_by i (suc n) false e q =
      let p : first_place (λ (e : Entry). is_at e o k) (suc i) (tabulate f (suc i) n) ≡ None = rw e at q in
      rw e (missed_by (suc i) n _ refl p)

module _ (words : List ℕ) (o : ℕ) (k : PropertyKey) where
  pub place-below : (j : ℕ) → find_place (store_of words).properties o k ≡ Some j → j < word_at words 1
  unfolding find_place store_of
  place-below j q = let (l, r) = found-by _ o k 0 (word_at words 1) j _ refl q in omega arith

  pub own-found : (j : ℕ) → find_place (store_of words).properties o k ≡ Some j → own (store_of words) o k ≡ Some (property_in words j)
  unfolding find_place store_of own entry_in
  own-found j q = (found-by _ o k 0 (word_at words 1) j _ refl q).1

  pub own-missed : find_place (store_of words).properties o k ≡ None → own (store_of words) o k ≡ None
  unfolding find_place store_of own
  own-missed q = missed_by _ o k 0 (word_at words 1) _ refl q

-- Live objects -------------------------------------------------------------------------------------

module _ (words : List ℕ) (s : Sized words) (o : ℕ) where
  pub live_below : bit (word_at words live_at) o ≡ true → o < 32
  live_below h = go (ltb o 32) refl
    where
      go : (b : Bool) → ltb o 32 ≡ b → o < 32
      go true q = ltb-true _ _ q
      go false q = absurd (true≢false (sym h ∙ bit-above (word_at words live_at) 32 o s.live (ltb-false _ _ q)))

  pub lookup-made : bit (word_at words live_at) o ≡ true → lookup (store_of words) o ≡ Some (object_in words o)
  unfolding slot_in
  lookup-made h = lookup-live words s o ∙ rw h

  pub lookup-missing : bit (word_at words live_at) o ≡ false → lookup (store_of words) o ≡ None
  unfolding slot_in
  lookup-missing h = lookup-live words s o ∙ rw h

  pub lookup-above : 32 ≤ o → lookup (store_of words) o ≡ None
  lookup-above h = lookup-missing (bit-above _ 32 _ s.live h)

  -- whether it is ordinary, by its head
  pub ordinary-marked : word_at words (object_at o) < 2 → bit (word_at words live_at) o ≡ is_ordinary (lookup (store_of words) o)
  unfolding slot_in object_in
  ordinary-marked h = rw (lookup-live words s o, sym (ordinary-words _ (word_at words (object_at o + 1)) (word_at words (object_at o + 2)) h)) (go _ (bit (word_at words live_at) o))
    where
      go : (r : OrdinaryObject) (b : Bool) → b ≡ is_ordinary (pick b (Some (object.Ordinary r)) None)
      go r true = refl
      go r false = refl

  pub proxy-marked : 2 ≤ word_at words (object_at o) → false ≡ is_ordinary (lookup (store_of words) o)
  unfolding slot_in object_in
  proxy-marked h = rw (lookup-live words s o, sym (proxy-words _ (word_at words (object_at o + 1)) (word_at words (object_at o + 2)) h)) (go _ (bit (word_at words live_at) o))
    where
      go : (p : ProxyObject) (b : Bool) → false ≡ is_ordinary (pick b (Some (object.Proxy p)) None)
      go p true = refl
      go p false = refl

  -- an object that is found is live
  pub lookup-marked : (x : Object) → lookup (store_of words) o ≡ Some x → bit (word_at words live_at) o ≡ true
  lookup-marked x e = go (bit (word_at words live_at) o) refl
    where
      go : (b : Bool) → bit (word_at words live_at) o ≡ b → bit (word_at words live_at) o ≡ true
      go true q = q
      go false q = let z : None ≡ Some x = sym (lookup-missing q) ∙ e in absurd (false≢true cc)

pub lookup-below : (words : List ℕ) (o : ℕ) (x : Object) → lookup (store_of words) o ≡ Some x → o < 32
unfolding lookup
lookup-below words o x e = subst (λ (n : ℕ). o < n) (object-length words) (found_below (store_of words).objects o x e)

-- Released numbers ------------------------------------------------------------------------------------

module _ (words : List ℕ) where
  -- the next number, by whether one is released
  pub next-unused : word_at words released_at ≡ 0 → word_at words made_at ≡ next_in words
  unfolding next_in
  next-unused e = rw e

  pub next-released : (word_at words released_at ≡ 0 → ⊥) → word_at words (queue_at (word_at words first_at % 32)) % 32 ≡ next_in words
  unfolding next_in released_in
  next-released h = let z : word_at words first_at + 0 ≡ word_at words first_at = omega arith in rw (ne_eqb _ _ h, z)

  pub next-number : next_in words ≡ next_number (store_of words)
  unfolding next_in store_of tabulate
  next-number = go (word_at words released_at)
    where
      go : (n : ℕ) → pick (eqb n 0) (word_at words made_at) (released_in words 0) ≡ first_or (word_at words made_at) (tabulate (released_in words) 0 n)
      go zero = refl
      go (suc n) = rw (ne_eqb (suc n) 0 (λ (z : suc n ≡ 0). omega arith))

  made_word : (store_of words).made ≡ word_at words made_at
  unfolding store_of
  made_word = refl

  -- one more object may be live
  pub object-room : ltb (word_at words made_at) (32 + word_at words released_at) ≡ ltb (live_count (store_of words)) 32
  object-room =
      let e = released-length words in
      bool-ext _ _
      (λ t. lt-ltb (live_count (store_of words)) 32 (omega (arith, e, made_word, ltb-true (word_at words made_at) (32 + word_at words released_at) t)))
      (λ t. lt-ltb (word_at words made_at) (32 + word_at words released_at) (omega (arith, e, made_word, ltb-true (live_count (store_of words)) 32 t)))

-- Flags ---------------------------------------------------------------------------------------------

pub odd-flag : (n : ℕ) → n % 2 ≡ 1 → bit n 0 ≡ true
odd-flag n e = eq-eqb _ _ (let z : n / 1 % 2 ≡ 1 = omega arith in z)

pub even-flag : (n : ℕ) → (n % 2 ≡ 1 → ⊥) → bit n 0 ≡ false
even-flag n e = ne_eqb _ _ (λ (z : n / 1 % 2 ≡ 1). omega arith)

-- The strings of a table -----------------------------------------------------------------------

pub read_table_lem : (cells : List ℕ) → is_table cells ≡ true → read_table cells ≡ strings_of cells
unfolding read_table
read_table_lem cells h = rw h

-- What the check is to try ------------------------------------------------------------------------

pub ruleset counts = (sized, property-length, live-word, object-room, next-unused, next-released, next-number)

pub ruleset objects = (sized, ordinary-words, proxy-words, lookup-made, lookup-missing, lookup-above, ordinary-marked, proxy-marked)

pub ruleset properties = (sized, odd-flag, even-flag, place-below, own-found, own-missed)
