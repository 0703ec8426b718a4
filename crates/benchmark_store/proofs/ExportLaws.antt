-- Laws of the exported functions. Assumes nothing.
use Rattle.std.specs.Prelude.{Option, None, Some}
use Prim.Native.Nat.{ℕ, ◌/◌, ◌%◌, ◌≤◌}
use native.Mathlib.Omega.{arith}
use mathlib.Core.Path.{◌≡◌, refl, sym, ap, ◌∙◌}
use mathlib.Core.Bool.{Bool, true, false}
use mathlib.Core.List.{List, [], ◌∷◌, map}
use lib.Dec.{eqb}
use lib.ListN.{length, take, take-append-drop}
use lib.Seq.{length-take-le}
use borrow.Author.Tests.{eqb-true, eqb-false, leb-true, ltb-true}
use Rattle.value.specs.declared.PropertyKey.{PropertyKey}
use Rattle.value.specs.declared.PropertyKey.TheVariants.{String, Symbol}
use Rattle.value.specs.Words.{pick}
use Rattle.value.specs.PropertyKey.{key_number}
use Rattle.value.proofs.Bools.{and-true}
use Rattle.property.specs.declared.Property.{Property}
use Rattle.text.specs.Table.{is_table, strings_of}
use Rattle.store.specs.OwnKeys.{ordinary_own_property_keys}
use Rattle.store.specs.Words.{is_store, store_of, word_at, with_new_row, without_row}
use Rattle.store_read.specs.Answers.{Listed, key_from_word, key_to_word}
use Rattle.store_write.specs.Write.{Joins, New}
use Rattle.benchmark_store.specs.Export.{is_listable, is_joined, is_absent, is_new, is_addable, is_removable, row_property, key_words_of, list_answer, listed, added, add_answer, removed, remove_answer}

-- Own keys -------------------------------------------------------------------------------

key-word-by : (w : ℕ) (b : Bool) → eqb (w % 2) 0 ≡ b → key_to_word (pick b (String (w / 2)) (Symbol (w / 2))) ≡ w
key-word-by w true e = omega (arith, eqb-true (w % 2) 0 e)
key-word-by w false e = let z : w % 2 ≡ 0 → ⊥ = eqb-false _ _ e in omega arith

-- a word is that of the key that it stands for
key-word : (w : ℕ) → key_to_word (key_from_word w) ≡ w
unfolding key_from_word
key-word w = key-word-by w (eqb (w % 2) 0) refl

key-words : (ws : List ℕ) → map key_to_word (map key_from_word ws) ≡ ws
key-words [] = refl
key-words (w ∷ ws) = rw (key-word w, key-words ws)

module _ (words cells : List ℕ) (o : ℕ) (before after : List ℕ) (n : ℕ)
    (h : Listed before after n (ordinary_own_property_keys (strings_of cells) (store_of words) o)) where
  first-words : take n after ≡ key_words_of words cells o
  first-words = sym (key-words (take n after)) ∙ ap (map key_to_word) h.listed

  count-words : n ≡ length (key_words_of words cells o)
  count-words = let f : n ≤ length after = omega (arith, h.fits, h.size) in sym (length-take-le n after f) ∙ ap length first-words

  module _ (t : is_listable words cells (length before) ≡ true) where
    pub list_count : n ≡ list_answer words cells o before
    unfolding list_answer
    list_count = rw t count-words

    pub list-words : after ≡ listed words cells o before
    unfolding listed
    list-words =
        let f : n ≤ length after = omega (arith, h.fits, h.size) in
        rw (t, ← first-words, length-take-le n after f, ← h.rest) (sym (take-append-drop n after))

pub record Listable (words cells : List ℕ) (size : ℕ) : Type 0 where
  pub store : is_store words ≡ true
  pub table : is_table cells ≡ true
  pub room : 256 ≤ size

pub listable : (words cells : List ℕ) (size : ℕ) → is_listable words cells size ≡ true → Listable words cells size
unfolding is_listable
listable words cells size h =
    let (a, b) = and-true _ _ h in
    let (p, q) = and-true _ _ b in
    record { store = a; table = p; room = leb-true _ _ q }

-- Writing --------------------------------------------------------------------------------

number_by : (w : ℕ) (b : Bool) → key_number (pick b (String (w / 2)) (Symbol (w / 2))) ≡ w / 2
number_by w true = refl
number_by w false = refl

joined : (o key : ℕ) → is_joined o key ≡ true → Joins o (key_from_word key)
unfolding is_joined key_from_word
joined o key h =
    let (a, b) = and-true _ _ h in
    record { owner = ltb-true _ _ a; number = rw (number_by key (eqb (key % 2) 0)) (ltb-true _ _ b) }

is-absent : (p : Option Property) → is_absent p ≡ true → p ≡ None
is-absent None h = refl
is-absent (Some p) h = let z : ◌≡◌ {A = ℕ} 0 1 = cc in absurd (omega arith)

pub record Addable (words : List ℕ) (o key : ℕ) : Type 0 where
  pub store : is_store words ≡ true
  pub new : New words o (key_from_word key)

pub addable : (words : List ℕ) (o key : ℕ) → is_addable words o key ≡ true → Addable words o key
unfolding is_addable is_new
addable words o key h =
    let (a, b) = and-true _ _ h in
    let (p, q) = and-true _ _ b in
    let (s, t) = and-true (is_joined o key) _ q in
    record { store = a; new = record { room = ltb-true _ _ p; joins = joined o key s; absent = is-absent _ t } }

module _ (words row after : List ℕ) (o key : ℕ) (k : PropertyKey) (p : Property) (t : is_addable words o key ≡ true)
    (a : k ≡ key_from_word key) (b : p ≡ row_property row) (e : after ≡ with_new_row words o k p) where
  pub add_words : after ≡ added words o key row
  unfolding added
  add_words = rw (t, ← a, ← b) e

  pub add-count : word_at after 1 ≡ add_answer words o key row
  unfolding add_answer
  add-count = rw t (ap (λ (ws : List ℕ). word_at ws 1) add_words)

pub record Removable (words : List ℕ) (o key : ℕ) : Type 0 where
  pub store : is_store words ≡ true
  pub joins : Joins o (key_from_word key)

pub removable : (words : List ℕ) (o key : ℕ) → is_removable words o key ≡ true → Removable words o key
unfolding is_removable
removable words o key h = let (a, b) = and-true _ _ h in record { store = a; joins = joined o key b }

module _ (words after : List ℕ) (o key : ℕ) (k : PropertyKey) (t : is_removable words o key ≡ true)
    (a : k ≡ key_from_word key) (e : after ≡ without_row words o k) where
  pub remove-words : after ≡ removed words o key
  unfolding removed
  remove-words = rw (t, ← a) e

  pub remove-count : word_at after 1 ≡ remove_answer words o key
  unfolding remove_answer
  remove-count = rw t (ap (λ (ws : List ℕ). word_at ws 1) remove-words)
