-- The keys that bytes tell are those that were written, if their numbers are of 64 bits. Assumes nothing.
use Prim.Native.Nat.{ℕ, ◌+◌, ◌^◌, ◌<◌}
use mathlib.Core.Path.{◌≡◌, refl, sym, ap, ◌∙◌}
use mathlib.Core.List.{List, [], ◌∷◌, ◌++◌, append_assoc}
use lib.ListN.{length, length-append}
use Rattle.value.specs.declared.PropertyKey.{PropertyKey}
use Rattle.value.specs.declared.PropertyKey.TheVariants.{String, Symbol}
use Rattle.value.specs.PropertyKey.{key_value, key_of}
use Rattle.value.specs.declared.Value.{Value}
use Rattle.record.specs.Bytes.{value_size, value_at, value_bytes}
use Rattle.record.proofs.RoundTrip.{Fits, fits-string, fits-symbol, value-back, length-value}
use Rattle.steps.specs.Step.{keys_bytes}
use Rattle.reporting.specs.Seen.{key_told, keys_at}

-- the key's number is of 64 bits
abbrev pub IsShort : PropertyKey → Type 0
IsShort (String s) = s < 2 ^ 64
IsShort (Symbol s) = s < 2 ^ 64

abbrev pub AreShort : List PropertyKey → Type 0
AreShort [] = Unit {0}
AreShort (k ∷ ks) = IsShort k × AreShort ks

fits-key : (k : PropertyKey) → IsShort k → Fits (key_value k)
fits-key (String s) h = fits-string s h
fits-key (Symbol s) h = fits-symbol s h

key-again : (k : PropertyKey) → key_told (key_of (key_value k)) ≡ k
key-again (String s) = refl
key-again (Symbol s) = refl

between : (before rest : List ℕ) (ks : List PropertyKey) → AreShort ks → keys_at (before ++ (keys_bytes ks ++ rest)) (length before) (length ks) ≡ ks
unfolding keys_at keys_bytes
between before rest [] h = refl
between before rest (k ∷ ks) h =
    let bytes = value_bytes (key_value k) in
    let e : before ++ ((bytes ++ keys_bytes ks) ++ rest) ≡ before ++ (bytes ++ (keys_bytes ks ++ rest)) = ap (λ (l : List ℕ). before ++ l) (append_assoc bytes (keys_bytes ks) rest) in
    let f : before ++ (bytes ++ (keys_bytes ks ++ rest)) ≡ (before ++ bytes) ++ (keys_bytes ks ++ rest) = sym (append_assoc before bytes (keys_bytes ks ++ rest)) in
    let l : length before + value_size ≡ length (before ++ bytes) = ap (λ (n : ℕ). length before + n) (sym (length-value (key_value k))) ∙ sym (length-append before bytes) in
    let first : key_told (key_of (value_at (before ++ ((bytes ++ keys_bytes ks) ++ rest)) (length before))) ≡ k =
    ap (λ (b : List ℕ). key_told (key_of (value_at b (length before)))) e ∙ ap (λ (v : Value). key_told (key_of v)) (value-back before (keys_bytes ks ++ rest) (key_value k) (fits-key k h.0)) ∙ key-again k in
    let others : keys_at (before ++ ((bytes ++ keys_bytes ks) ++ rest)) (length before + value_size) (length ks) ≡ ks =
    ap (λ (b : List ℕ). keys_at b (length before + value_size) (length ks)) (e ∙ f) ∙ ap (λ (i : ℕ). keys_at ((before ++ bytes) ++ (keys_bytes ks ++ rest)) i (length ks)) l ∙ between (before ++ bytes) rest ks h.1 in
    ap (λ (x : PropertyKey). x ∷ keys_at (before ++ ((bytes ++ keys_bytes ks) ++ rest)) (length before + value_size) (length ks)) first ∙ ap (λ (x : List PropertyKey). k ∷ x) others

pub keys-seen : (ks : List PropertyKey) (rest : List ℕ) → AreShort ks → keys_at (keys_bytes ks ++ rest) 0 (length ks) ≡ ks
keys-seen ks rest h = between [] rest ks h
