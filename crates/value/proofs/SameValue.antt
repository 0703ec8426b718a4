-- SameValue is equality of type, Number and identity, and so an equivalence. Assumes nothing.
use Prim.Native.Nat.{ℕ}
use mathlib.Core.Path.{◌≡◌, refl, sym, ap, ◌∙◌}
use mathlib.Core.Bool.{Bool, true, false, ◌&&◌, beq, cond, false≢true, true≢false}
use lib.Dec.{eqb}
use borrow.Author.Tests.{eqb-true, eq-eqb}
use lib.IntN.{ℤ, pos, negsuc}
use lib.Ieee.{Float, nan, inf, fin, binary64, of_bits}
use Rattle.value.specs.declared.Value.{Value}
use Rattle.value.specs.declared.Value.TheVariants.{Undefined, Null, Boolean, Integer32, Float64, String, Symbol, Object, Function}
use Rattle.value.specs.Value.{same_int, same_number, same_value, type_of, number_of, id_of}
use Rattle.value.proofs.Bools.{beq-refl, beq-eq, and-true, bool-ext}

int-refl : (z : ℤ) → same_int z z ≡ true
int-refl (pos n) = eq-eqb n n refl
int-refl (negsuc n) = eq-eqb n n refl

int_eq : (a b : ℤ) → same_int a b ≡ true → a ≡ b
int_eq (pos a) (pos b) h = ap pos (eqb-true a b h)
int_eq (pos a) (negsuc b) h = absurd (false≢true h)
int_eq (negsuc a) (pos b) h = absurd (false≢true h)
int_eq (negsuc a) (negsuc b) h = ap negsuc (eqb-true a b h)

pub number-refl : (x : Float) → same_number x x ≡ true
unfolding same_number
number-refl nan = refl
number-refl (inf s) = beq-refl s
number-refl (fin s m e) = rw (beq-refl s, eq-eqb m m refl, int-refl e)

-- the same Number is the same as data
pub number-eq : (x y : Float) → same_number x y ≡ true → x ≡ y
unfolding same_number
number-eq nan nan h = refl
number-eq nan (inf t) h = absurd (false≢true h)
number-eq nan (fin t n d) h = absurd (false≢true h)
number-eq (inf s) nan h = absurd (false≢true h)
number-eq (inf s) (inf t) h = ap inf (beq-eq s t h)
number-eq (inf s) (fin t n d) h = absurd (false≢true h)
number-eq (fin s m e) nan h = absurd (false≢true h)
number-eq (fin s m e) (inf t) h = absurd (false≢true h)
number-eq (fin s m e) (fin t n d) h =
    let (a, r) = and-true (beq s t) (eqb m n && same_int e d) h in
    let (b, c) = and-true (eqb m n) (same_int e d) r in
    let p : s ≡ t = beq-eq s t a in
    let q : m ≡ n = eqb-true m n b in
    let g : e ≡ d = int_eq e d c in
    cc

-- a value that is no Number has the Number +0, and a Number has the identity 0
no_number : (v : Value) → eqb (type_of v) 3 ≡ false → number_of v ≡ of_bits binary64 0
no_number Undefined h = refl
no_number Null h = refl
no_number (Boolean b) h = refl
no_number (Integer32 n) h = absurd (true≢false h)
no_number (Float64 x) h = absurd (true≢false h)
no_number (String s) h = refl
no_number (Symbol s) h = refl
no_number (Object o) h = refl
no_number (Function f) h = refl

no-identity : (v : Value) → eqb (type_of v) 3 ≡ true → id_of v ≡ 0
no-identity Undefined h = absurd (false≢true h)
no-identity Null h = absurd (false≢true h)
no-identity (Boolean b) h = absurd (false≢true h)
no-identity (Integer32 n) h = refl
no-identity (Float64 x) h = refl
no-identity (String s) h = absurd (false≢true h)
no-identity (Symbol s) h = absurd (false≢true h)
no-identity (Object o) h = absurd (false≢true h)
no-identity (Function f) h = absurd (false≢true h)

-- the canonical form of two values agrees
pub record Same (a b : Value) : Type 0 where
  pub types : type_of a ≡ type_of b
  pub numbers : number_of a ≡ number_of b
  pub identities : id_of a ≡ id_of b

pub same-canonical : (a b : Value) → same_value a b ≡ true → Same a b
unfolding same_value
same-canonical a b = typed (eqb (type_of a) (type_of b)) refl
  where
    apart : (x : Bool) → eqb (type_of a) 3 ≡ x → type_of a ≡ type_of b → cond x (same_number (number_of a) (number_of b)) (eqb (id_of a) (id_of b)) ≡ true → Same a b
    apart true e t h = record {
      types = t;
      numbers = number-eq (number_of a) (number_of b) h;
      identities = no-identity a e ∙ sym (no-identity b (ap (λ (n : ℕ). eqb n 3) (sym t) ∙ e));
    }
    apart false e t h = record {
      types = t;
      numbers = no_number a e ∙ sym (no_number b (ap (λ (n : ℕ). eqb n 3) (sym t) ∙ e));
      identities = eqb-true (id_of a) (id_of b) h;
    }

    typed : (x : Bool) → eqb (type_of a) (type_of b) ≡ x
        → cond x (cond (eqb (type_of a) 3) (same_number (number_of a) (number_of b)) (eqb (id_of a) (id_of b))) false ≡ true → Same a b
    typed true e h = apart (eqb (type_of a) 3) refl (eqb-true (type_of a) (type_of b) e) h
    typed false e h = absurd (false≢true h)

pub same_refl : (v : Value) → same_value v v ≡ true
unfolding same_value
same_refl v = rw (eq-eqb (type_of v) (type_of v) refl) (go (eqb (type_of v) 3))
  where
    go : (x : Bool) → cond x (same_number (number_of v) (number_of v)) (eqb (id_of v) (id_of v)) ≡ true
    go true = number-refl (number_of v)
    go false = eq-eqb (id_of v) (id_of v) refl

-- what is the same as one of two same values is the same as the other
pub same-like : (a b v : Value) → same_value a b ≡ true → same_value a v ≡ same_value b v
unfolding same_value
same-like a b v h = let s = same-canonical a b h in rw (s.types, s.numbers, s.identities)

pub same-sym : (a b : Value) → same_value a b ≡ same_value b a
same-sym a b = bool-ext _ _ (λ h. sym (same-like a b a h) ∙ same_refl a) (λ h. sym (same-like b a b h) ∙ same_refl b)
