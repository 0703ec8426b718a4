-- Laws of numbers in bytes, of runs of zeros and of runs of stores. Assumes nothing.
use Prim.Native.Nat.{ℕ, zero, suc, ◌+◌, ◌-◌, ◌*◌, ◌<◌, ◌≤◌}
use native.Mathlib.Omega.{arith}
use native.Mathlib.Numerals.{add-one}
use Rattle.std.proofs.Common.{w64}
use Rattle.std.proofs.Math.Nat.{add-zero, zero-add, add-suc, suc-add, div-div-eq-div-mul}
use Rattle.std.proofs.lemmas.List.Edits.{get_or-between}
use Rattle.std.specs.Int.{from_le_bytes, to_le_bytes}
use borrow.Rule.Slice.PartMut.{put_mid}
use Rattle.text.proofs.CopyLaws.{copied}
use mathlib.Core.Path.{◌≡◌, refl, sym, ap, ◌∙◌}
use mathlib.Core.Bool.{Bool, true, false, ◌&&◌, and_assoc}
use mathlib.Core.List.{List, [], ◌∷◌, ◌++◌}
use lib.Dec.{eqb}
use lib.ListN.{length, take, drop, set, length-set}
use lib.Seq.{sets}
use borrow.Author.Tests.{ne_eqb, eqb-true, eqb-false}
use Rattle.value.specs.declared.Value.{Value}
use Rattle.record.specs.Bytes.{byte_at, number_at, bytes_of, are_zero, value_bytes}
use Rattle.record.proofs.RoundTrip.{length-value}

pub short-of : (b : List ℕ) (i : ℕ) → number_at b i 2 ≡ byte_at b i + byte_at b (i + 1) * 256
unfolding number_at
short-of b i = rw add-one (omega arith)

-- the same bytes at another place
number-same : (b w : List ℕ) (i j n : ℕ) → ((k : ℕ) → k < n → byte_at w (j + k) ≡ byte_at b (i + k)) → number_at w j n ≡ number_at b i n
unfolding number_at
number-same b w i j zero h = refl
number-same b w i j (suc n) h =
    let e : byte_at w j ≡ byte_at b i = simp add-zero at (h 0 (omega arith)) in
    let r = number-same b w (suc i) (suc j) n (λ k l. simp suc-add (simp add-suc at (h (suc k) (omega arith)))) in
    rw (e, r)

whole : (w : List ℕ) → from_le_bytes w64 w ≡ number_at w 0 8
unfolding number_at
whole w = omega arith

pub word-of : (b : List ℕ) (i : ℕ) → from_le_bytes w64 (take (i + 8 - i) (drop i b)) ≡ number_at b i 8
word-of b i =
    whole _ ∙ number-same b (take (i + 8 - i) (drop i b)) i 0 8 (λ k h. rw zero-add (get_or-between b i (i + 8) k 0 (omega arith)))

-- bytes are zero exactly if their number is

sum-zero : (a c : ℕ) → (eqb a 0 && eqb c 0) ≡ eqb (a + 256 * c) 0
sum-zero a c = by (eqb a 0) (eqb c 0) refl refl
  where
    by : (s t : Bool) → eqb a 0 ≡ s → eqb c 0 ≡ t → (eqb a 0 && eqb c 0) ≡ eqb (a + 256 * c) 0
    by true true p q = rw (eqb-true a 0 p, eqb-true c 0 q)
    by true false p q = rw (p, q, ne_eqb (a + 256 * c) 0 (λ e. eqb-false c 0 q (omega arith)))
    by false t p q = rw (p, ne_eqb (a + 256 * c) 0 (λ e. eqb-false a 0 p (omega arith)))

pub zero_number : (b : List ℕ) (i n : ℕ) → are_zero b i n ≡ eqb (number_at b i n) 0
unfolding are_zero number_at
zero_number b i zero = refl
zero_number b i (suc n) = ap (λ (t : Bool). eqb (byte_at b i) 0 && t) (zero_number b (suc i) n) ∙ sum-zero (byte_at b i) (number_at b (suc i) n)

pub zero-join : (b : List ℕ) (i m n : ℕ) → are_zero b i (m + n) ≡ (are_zero b i m && are_zero b (i + m) n)
unfolding are_zero
zero-join b i zero n = let e : i + 0 ≡ i = omega arith in let f : 0 + n ≡ n = omega arith in rw (e, f)
zero-join b i (suc m) n =
    let e : i + suc m ≡ suc i + m = omega arith in
    let f : suc m + n ≡ suc (m + n) = omega arith in
    rw (e, f) (ap (λ (t : Bool). eqb (byte_at b i) 0 && t) (zero-join b (suc i) m n) ∙ sym (and_assoc (eqb (byte_at b i) 0) (are_zero b (suc i) m) _))

pub zero_value : (b : List ℕ) (i : ℕ) → are_zero b i 9 ≡ (eqb (byte_at b i) 0 && eqb (number_at b (i + 1) 8) 0)
unfolding are_zero
zero_value b i = rw (add-one i, ← zero_number b (suc i) 8)

low-bytes : (x : ℕ) → to_le_bytes w64 x ≡ bytes_of 8 x
unfolding bytes_of
low-bytes x = simp div-div-eq-div-mul

-- a kind and a payload, of which the bytes were copied
pub store-words : (l now : List ℕ) (i k kind payload : ℕ) → now ≡ to_le_bytes w64 payload → k ≡ 8 → i + 9 ≤ length l
    → put_mid (i + 1) k (set l i kind) now ≡ sets l i (kind ∷ bytes_of 8 payload)
unfolding bytes_of
store-words l now i k kind payload e h s =
    let z : i + 1 + 8 ≤ length (set l i kind) = rw length-set (omega arith) in
    copied (set l i kind) (i + 1) k (bytes_of 8 payload) now (e ∙ low-bytes payload) h z ∙ rw add-one

-- what is stored in two runs
pub sets-append : (a l : List ℕ) (i : ℕ) (b : List ℕ) → sets l i (a ++ b) ≡ sets (sets l i a) (i + length a) b
sets-append [] l i b = let e : i + 0 ≡ i = omega arith in rw e
sets-append (x ∷ a) l i b = let e : i + suc (length a) ≡ suc i + length a = omega arith in rw e (sets-append a (set l i x) (suc i) b)

pub store-value : (v : Value) (l : List ℕ) (i j : ℕ) (b : List ℕ) → i + 9 ≡ j → sets l i (value_bytes v ++ b) ≡ sets (sets l i (value_bytes v)) j b
store-value v l i j b e = sets-append (value_bytes v) l i b ∙ rw (length-value v, e)
