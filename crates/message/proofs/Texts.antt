-- The rows and lengths of the table are those of the messages' texts: antt computes them and compares. Assumes nothing.
use Prim.Native.Nat.{ℕ, zero, suc, ◌≤◌, ◌<◌}
use native.Mathlib.Nat.{le_of_suc-le-suc, not-suc-le-zero}
use Prim.Native.String.{String}
use mathlib.Core.Path.{◌≡◌, refl, ap}
use mathlib.Core.Bool.{Bool, true, false, ◌&&◌}
use mathlib.Core.List.{List, [], ◌∷◌}
use lib.Dec.{T, leb, leb→le}
use lib.ListN.{length, take, get_or, get_or-eq_default}
use Rattle.internal_methods.specs.Messages.{codes, texts, message_text}

-- a text in a row of k bytes
abbrev pub padded : ℕ → List ℕ → List ℕ
padded zero l = []
padded (suc k) [] = 0 ∷ padded k []
padded (suc k) (x ∷ l) = x ∷ padded k l

take-padded : (k : ℕ) (l : List ℕ) → length l ≤ k → take (length l) (padded k l) ≡ l
take-padded k [] h = refl
take-padded zero (x ∷ l) h = absurd (not-suc-le-zero h)
take-padded (suc k) (x ∷ l) h = ap (λ (m : List ℕ). x ∷ m) (take-padded k l (le_of_suc-le-suc h))

unfoldable pub rows_of : List String → List (List ℕ)
rows_of [] = []
rows_of (s ∷ ss) = padded 90 (codes s) ∷ rows_of ss

unfoldable pub lengths_of : List String → List ℕ
lengths_of [] = []
lengths_of (s ∷ ss) = length (codes s) ∷ lengths_of ss

row_of : (ss : List String) (n : ℕ) (d : List ℕ) → n < length ss → get_or (rows_of ss) n d ≡ padded 90 (codes (get_or ss n ""))
unfolding rows_of
row_of [] n d h = absurd (not-suc-le-zero h)
row_of (s ∷ ss) zero d h = refl
row_of (s ∷ ss) (suc n) d h = row_of ss n d (le_of_suc-le-suc h)

length-of : (ss : List String) (n : ℕ) → n < length ss → get_or (lengths_of ss) n 0 ≡ length (codes (get_or ss n ""))
unfolding lengths_of
length-of [] n h = absurd (not-suc-le-zero h)
length-of (s ∷ ss) zero h = refl
length-of (s ∷ ss) (suc n) h = length-of ss n (le_of_suc-le-suc h)

-- the numbers of the source
abbrev pub rows : List (List ℕ)
rows = rows_of texts

abbrev pub lengths : List ℕ
lengths = lengths_of texts

-- and none is longer than a row
AreShort : List String → Bool
AreShort [] = true
AreShort (s ∷ ss) = leb (length (codes s)) 90 && AreShort ss

short-left : (a b : Bool) → T (a && b) → T a
short-left true b t = tt
short-left false b t = t

short-right : (a b : Bool) → T (a && b) → T b
short-right true b t = t
short-right false b t = absurd t

short : (ss : List String) → T (AreShort ss) → (n : ℕ) → length (codes (get_or ss n "")) ≤ 90
unfolding AreShort codes
short [] t n = Prim.Native.Nat.zero-le
short (s ∷ ss) t zero = leb→le _ _ (short-left (leb (length (codes s)) 90) (AreShort ss) t)
short (s ∷ ss) t (suc n) = short ss (short-right (leb (length (codes s)) 90) (AreShort ss) t) n

fits : (n : ℕ) → length (message_text n) ≤ 90
unfolding message_text AreShort codes
fits n = short texts tt n

pub size_fits : (n : ℕ) → n < 33 → get_or lengths n 0 ≤ 90
unfolding message_text
size_fits n h = rw (length-of texts n h) (fits n)

pub text-right : (n : ℕ) (d : List ℕ) → n < 33 → take (get_or lengths n 0) (get_or rows n d) ≡ message_text n
unfolding message_text
text-right n d h = rw (length-of texts n h, row_of texts n d h) (take-padded 90 (codes (get_or texts n "")) (fits n))

pub text_short : (n : ℕ) (d : List ℕ) → n < 33 → length (take (get_or lengths n 0) (get_or rows n d)) ≤ 90
text_short n d h = rw (text-right n d h) (fits n)

-- there are no other texts
pub no_text : (n : ℕ) → 33 ≤ n → message_text n ≡ []
unfolding message_text codes
no_text n h = ap codes (get_or-eq_default texts "" h)
