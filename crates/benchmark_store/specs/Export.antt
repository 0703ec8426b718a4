-- What the exported functions answer, and what they leave in the words that they were lent. Assumes nothing.
use Rattle.std.specs.Prelude.{ℕ, ◌/◌, ◌^◌, Bool, true, false, ◌&&◌, List, ◌++◌, map, leb, ltb, length, drop, Option, None, Some}
use Rattle.value.specs.Words.{pick, value_of}
use Rattle.property.specs.declared.Property.{Property}
use Rattle.text.specs.Table.{is_table, strings_of}
use Rattle.store.specs.Store.{own, maximum_objects, maximum_properties}
use Rattle.store.specs.OwnKeys.{ordinary_own_property_keys}
use Rattle.store.specs.Words.{word_at, property_of, store_of, is_store, with_new_row, without_row}
use Rattle.store_read.specs.Answers.{find_place, key_from_word, key_to_word}

-- no place, and a refusal: every other answer is a place or a count
abbrev pub nowhere : ℕ
nowhere = 256

abbrev pub refused : ℕ
refused = 257

-- Finding --------------------------------------------------------------------------------

abbrev pub place_number : Option ℕ → ℕ
place_number (Some i) = i
place_number None = nowhere

unfoldable pub find_answer : List ℕ → ℕ → ℕ → ℕ
find_answer words o key = pick (is_store words) (place_number (find_place (store_of words).properties o (key_from_word key))) refused

-- Own keys -------------------------------------------------------------------------------

unfoldable pub is_listable : List ℕ → List ℕ → ℕ → Bool
is_listable words cells size = is_store words && (is_table cells && leb maximum_properties size)

abbrev pub key_words_of : List ℕ → List ℕ → ℕ → List ℕ
key_words_of words cells o = map key_to_word (ordinary_own_property_keys (strings_of cells) (store_of words) o)

unfoldable pub list_answer : List ℕ → List ℕ → ℕ → List ℕ → ℕ
list_answer words cells o out = pick (is_listable words cells (length out)) (length (key_words_of words cells o)) refused

-- the keys, and after them what stood there
unfoldable pub listed : List ℕ → List ℕ → ℕ → List ℕ → List ℕ
listed words cells o out =
    pick (is_listable words cells (length out)) (key_words_of words cells o ++ drop (length (key_words_of words cells o)) out) out

-- Writing --------------------------------------------------------------------------------

-- an owner and a key that one word can join
unfoldable pub is_joined : ℕ → ℕ → Bool
is_joined o key = ltb o maximum_objects && ltb (key / 2) (2 ^ 58)

abbrev pub is_absent : Option Property → Bool
is_absent None = true
is_absent (Some p) = false

unfoldable pub is_new : List ℕ → ℕ → ℕ → Bool
is_new words o key = is_absent (own (store_of words) o (key_from_word key))

unfoldable pub is_addable : List ℕ → ℕ → ℕ → Bool
is_addable words o key = is_store words && (ltb (word_at words 1) maximum_properties && (is_joined o key && is_new words o key))

unfoldable pub row_property : List ℕ → Property
row_property row = property_of (word_at row 0) (value_of (word_at row 1) (word_at row 2)) (value_of (word_at row 3) (word_at row 4))

unfoldable pub added : List ℕ → ℕ → ℕ → List ℕ → List ℕ
added words o key row = pick (is_addable words o key) (with_new_row words o (key_from_word key) (row_property row)) words

unfoldable pub add_answer : List ℕ → ℕ → ℕ → List ℕ → ℕ
add_answer words o key row = pick (is_addable words o key) (word_at (added words o key row) 1) refused

unfoldable pub is_removable : List ℕ → ℕ → ℕ → Bool
is_removable words o key = is_store words && is_joined o key

unfoldable pub removed : List ℕ → ℕ → ℕ → List ℕ
removed words o key = pick (is_removable words o key) (without_row words o (key_from_word key)) words

unfoldable pub remove_answer : List ℕ → ℕ → ℕ → ℕ
remove_answer words o key = pick (is_removable words o key) (word_at (removed words o key) 1) refused
