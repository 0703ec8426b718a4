-- The output after a step: the keys of a key list stand at its start, 9 bytes each, and every other byte stays. Assumes nothing.
use Rattle.std.specs.Prelude.{Some, slice_get}
use Prim.Native.Nat.{ℕ, zero, suc, ◌+◌, ◌*◌}
use native.Mathlib.Omega.{arith}
use mathlib.Core.Path.{◌≡◌, refl, ap, ◌∙◌}
use mathlib.Core.Bool.{false≢true}
use mathlib.Core.List.{List, [], ◌∷◌, ◌++◌, append_assoc}
use lib.ListN.{length, take, drop, length-append}
use Rattle.value.specs.declared.PropertyKey.{PropertyKey}
use Rattle.value.specs.PropertyKey.{key_value}
use Rattle.store.specs.Store.{World}
use Rattle.record.specs.Bytes.{value_size, value_bytes}
use Rattle.record.proofs.RoundTrip.{length-value}
use Rattle.steps.specs.Response.{Effect}
use Rattle.steps.specs.Step.{keys_bytes, output_after_ending, step}
use Rattle.steps.proofs.Steps.{Ends, inadmissible, refuses, errs, throws, leaves, short, results, ends}

-- the front of a list, and what is behind it
pub front : {A : Type 0} (n : ℕ) (l m : List A) → length l ≡ n → take n (l ++ m) ≡ l
front zero [] m e = refl
front (suc n) [] m e = absurd (false≢true cc)
front zero (x ∷ l) m e = absurd (false≢true cc)
front (suc n) (x ∷ l) m e = ap (λ r. x ∷ r) (front n l m (let q : length l ≡ n = cc in q))

pub behind : {A : Type 0} (n i : ℕ) (l m : List A) → length l ≡ n → drop (n + i) (l ++ m) ≡ drop i m
behind zero i [] m e = ap (λ (j : ℕ). drop j m) (let q : zero + i ≡ i = omega arith in q)
behind (suc n) i [] m e = absurd (false≢true cc)
behind zero i (x ∷ l) m e = absurd (false≢true cc)
behind (suc n) i (x ∷ l) m e = ap (λ (j : ℕ). drop j (x ∷ (l ++ m))) (let q : suc n + i ≡ suc (n + i) = omega arith in q) ∙ behind n i l m (let q : length l ≡ n = cc in q)

pub length-keys : (ks : List PropertyKey) → length (keys_bytes ks) ≡ value_size * length ks
unfolding keys_bytes
length-keys [] = refl
length-keys (k ∷ ks) = omega (arith, length-append (value_bytes (key_value k)) (keys_bytes ks), length-value (key_value k), length-keys ks)

-- the i-th key stands at the i-th place
pub key-stands : (ks : List PropertyKey) (rest : List ℕ) (i : ℕ) (k : PropertyKey) → slice_get ks i ≡ Some k → take value_size (drop (value_size * i) (keys_bytes ks ++ rest)) ≡ value_bytes (key_value k)
unfolding keys_bytes
key-stands [] rest i k e = absurd (false≢true cc)
key-stands (l ∷ ks) rest zero k e =
    let q : l ≡ k = cc in
    (ap (take value_size) (append_assoc (value_bytes (key_value l)) (keys_bytes ks) rest) ∙ (front value_size (value_bytes (key_value l)) (keys_bytes ks ++ rest) (length-value (key_value l)) ∙ ap (λ (x : PropertyKey). value_bytes (key_value x)) q))
key-stands (l ∷ ks) rest (suc i) k e =
    let z : value_size * suc i ≡ value_size + value_size * i = omega arith in
    rw z (ap (λ (x : List ℕ). take value_size (drop (value_size + value_size * i) x)) (append_assoc (value_bytes (key_value l)) (keys_bytes ks) rest)
    ∙ (ap (take value_size) (behind value_size (value_size * i) (value_bytes (key_value l)) (keys_bytes ks ++ rest) (length-value (key_value l))) ∙ key-stands ks rest i k e))

-- every output byte, by how the step ended
pub output-is : (ω : World) (bytes sheet output : List ℕ) → (step ω bytes sheet output).output ≡ output_after_ending (step ω bytes sheet output).response.ending output
output-is ω bytes sheet output = go (ends ω bytes sheet output)
  where
    go : {x : Effect} → Ends ω bytes sheet output x → x.output ≡ output_after_ending x.response.ending output
    go (inadmissible p) = refl
    go (refuses p e) = refl
    go (errs p e u) = refl
    go (throws p e u) = refl
    go (leaves p e) = refl
    go (short p e u h) = refl
    go (results p e u h) = refl
