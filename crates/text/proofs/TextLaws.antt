-- Laws of equal strings, of the number of a string and of entering one. Assumes nothing.
use Rattle.std.specs.Prelude.{Option, None, Some}
use Prim.Native.Nat.{ℕ, zero, suc, ◌<◌}
use native.Mathlib.Omega.{arith}
use mathlib.Core.Path.{◌≡◌, refl, sym, ap, ◌∙◌}
use mathlib.Core.Bool.{Bool, true, false, ◌&&◌}
use mathlib.Core.List.{List, [], ◌∷◌}
use lib.Dec.{eqb}
use lib.ListN.{length, get_or}
use Rattle.std.specs.Str.{bytes_eq}
use Rattle.text.specs.Strings.{Strings, same_text, next, number_of}

same-bytes : (a b : List ℕ) → same_text a b ≡ bytes_eq a b
unfolding same_text
same-bytes [] [] = refl
same-bytes [] (d ∷ ds) = refl
same-bytes (c ∷ cs) [] = refl
same-bytes (c ∷ cs) (d ∷ ds) = ap (λ (t : Bool). eqb c d && t) (same-bytes cs ds)

-- what `==` answers of two slices, the first of which is a string's text
pub same-as : (text a b : List ℕ) {r v : Bool} → a ≡ text → r ≡ bytes_eq a b → r ≡ v → same_text text b ≡ v
same-as text a b e p q = ap (λ (t : List ℕ). same_text t b) (sym e) ∙ same-bytes a b ∙ sym p ∙ q

-- a string's number is where it stands first
pub number-at : (strings : Strings) (units : List ℕ) (n : ℕ) → n < length strings → same_text (get_or strings n []) units ≡ true
    → ((k : ℕ) → k < n → same_text (get_or strings k []) units ≡ false) → number_of strings units ≡ Some n
unfolding number_of
number-at [] units n h e before = absurd (omega arith)
number-at (text ∷ strings) units zero h e before = rw e
number-at (text ∷ strings) units (suc n) h e before =
    rw (before 0 (omega arith), number-at strings units n (omega arith) e (λ k l. before (suc k) (omega arith)))

pub number-none : (strings : Strings) (units : List ℕ) → ((k : ℕ) → k < length strings → same_text (get_or strings k []) units ≡ false)
    → number_of strings units ≡ None
unfolding number_of
number-none [] units absent = refl
number-none (text ∷ strings) units absent =
    rw (absent 0 (omega arith), number-none strings units (λ k l. absent (suc k) (omega arith)))

pub found_some : (n : ℕ) (o : Option ℕ) → Some n ≡ o → o ≡ Some n
found_some n None q = let z : ◌≡◌ {A = ℕ} 0 1 = cc in absurd (omega arith)
found_some n (Some k) q = let z : n ≡ k = cc in ap Some (sym z)

pub found_none : (o : Option ℕ) → None ≡ o → o ≡ None
found_none None q = refl
found_none (Some k) q = let z : ◌≡◌ {A = ℕ} 0 1 = cc in absurd (omega arith)

below_next : (strings : Strings) (units : List ℕ) (n : ℕ) → ((k : ℕ) → number_of strings units ≡ Some k → k < length strings)
    → (o : Option ℕ) → number_of strings units ≡ o → next o ≡ Some n → n < suc (length strings)
below_next strings units n h None e p = let z : ◌≡◌ {A = ℕ} 0 1 = cc in absurd (omega arith)
below_next strings units n h (Some k) e p = let z : suc k ≡ n = cc in omega (arith, h k e)

below_by : (text : List ℕ) (strings : Strings) (units : List ℕ) (n : ℕ) → ((k : ℕ) → number_of strings units ≡ Some k → k < length strings)
    → (b : Bool) → same_text text units ≡ b → number_of (text ∷ strings) units ≡ Some n → n < suc (length strings)
unfolding number_of
below_by text strings units n h true e q =
    let p : Some zero ≡ Some n = rw e at q in
    let z : zero ≡ n = cc in
    omega arith
below_by text strings units n h false e q = below_next strings units n h (number_of strings units) refl (rw e at q)

-- what is found was entered
pub number-below : (strings : Strings) (units : List ℕ) (n : ℕ) → number_of strings units ≡ Some n → n < length strings
unfolding number_of
number-below [] units n q = let z : ◌≡◌ {A = ℕ} 0 1 = cc in absurd (omega arith)
number-below (text ∷ strings) units n q =
    below_by text strings units n (λ k. number-below strings units k) (same_text text units) refl q
