-- What reading the store answers, as the code's own enums. Assumes nothing.
use Rattle.std.specs.Prelude.{ℕ, suc, ◌+◌, ◌*◌, ◌/◌, ◌%◌, ◌≤◌, ◌≡◌, Bool, true, false, ◌&&◌, cond, List, [], ◌∷◌, map, eqb, ltb, length, take, drop, Option, None, Some}
use Rattle.value.specs.declared.PropertyKey.{PropertyKey}
use Rattle.value.specs.declared.PropertyKey.TheVariants.{String, Symbol}
use Rattle.value.specs.Words.{pick}
use Rattle.text.specs.Strings.{Strings}
use Rattle.text.specs.Table.{tabulate}
use Rattle.store.specs.declared.Object.{Object}
use Rattle.store.specs.declared.Object.TheVariants.{Ordinary, Proxy}
use Rattle.store.specs.declared.Entry.{Entry}
use Rattle.store.specs.Store.{Store, is_at}
use Rattle.store.specs.OwnKeys.{KeyClass, index, string, symbol, class_of, is_string, is_symbol, keys_in, of_class}
use Rattle.store.specs.Words.{word_at, key_at}

abbrev pub is_ordinary : Option Object → Bool
is_ordinary None = false
is_ordinary (Some (Ordinary r)) = true
is_ordinary (Some (Proxy p)) = false

-- the place, counted from i, of the first that passes the test
unfoldable pub first_place : {A : Type 0} → (A → Bool) → ℕ → List A → Option ℕ
first_place test i [] = None
first_place test i (x ∷ xs) = pick (test x) (Some i) (first_place test (suc i) xs)

-- the place of the first property k of the object o
unfoldable pub find_place : List Entry → ℕ → PropertyKey → Option ℕ
find_place es o k = first_place (λ (e : Entry). is_at e o k) 0 es

abbrev pub key_in : List ℕ → ℕ → ℕ
key_in words i = word_at words (key_at i)

-- the key words in use
abbrev pub key_words : List ℕ → List ℕ
key_words words = tabulate (key_in words) 0 (word_at words 1)

-- a key word is its owner, this weight, and 64 times its number
abbrev pub class_weight : PropertyKey → ℕ
class_weight (String s) = 0
class_weight (Symbol s) = 32

-- Own keys as words ---------------------------------------------------------------------

-- string s is 2 s, and symbol s is 2 s + 1
unfoldable pub key_from_word : ℕ → PropertyKey
key_from_word word = pick (eqb (word % 2) 0) (String (word / 2)) (Symbol (word / 2))

abbrev pub key_to_word : PropertyKey → ℕ
key_to_word (String s) = 2 * s
key_to_word (Symbol s) = 2 * s + 1

-- the first n words stand for the keys, and those after them stay
pub record Listed (before after : List ℕ) (n : ℕ) (keys : List PropertyKey) : Type 0 where
  pub listed : map key_from_word (take n after) ≡ keys
  pub rest : drop n after ≡ drop n before
  pub fits : n ≤ length before
  pub size : length after ≡ length before

-- the class of the keys that are listed by creation: symbols, or strings that are no indices
abbrev pub listed_class : Bool → KeyClass → Bool
listed_class true = is_symbol
listed_class false = is_string

-- is it a key of the object o, and of the class?
abbrev pub is_own : (KeyClass → Bool) → Strings → Entry → ℕ → Bool
is_own test strings e o = eqb e.owner o && test (class_of strings e.key)

-- the object's keys of a class, by creation
abbrev pub own_of : (KeyClass → Bool) → Strings → Store → ℕ → List PropertyKey
own_of test strings σ o = of_class test strings (keys_in σ.properties o)

-- an array index and its key in one word: the key of an index is below 512
abbrev pub joined_by : KeyClass → ℕ → Option ℕ
joined_by (index n) word = Some (n * 512 + word)
joined_by string word = None
joined_by symbol word = None

unfoldable pub index_word : Strings → Entry → ℕ → Option ℕ
index_word strings e o = pick (eqb e.owner o) (joined_by (class_of strings e.key) (key_to_word e.key)) None

-- where the first word stands that passes the test, or the length if none does
unfoldable pub first_where : (ℕ → Bool) → List ℕ → ℕ
first_where test [] = 0
first_where test (w ∷ ws) = cond (test w) 0 (suc (first_where test ws))

-- before which of the words it is to stand: the first of a greater index
abbrev pub place_of : ℕ → List ℕ → ℕ
place_of word ws = first_where (λ (w : ℕ). ltb (word / 512) (w / 512)) ws

unfoldable pub insert_word : ℕ → List ℕ → List ℕ
insert_word word [] = word ∷ []
insert_word word (w ∷ ws) = pick (ltb (word / 512) (w / 512)) (word ∷ w ∷ ws) (w ∷ insert_word word ws)

abbrev pub stripped : ℕ → ℕ
stripped word = word % 512
