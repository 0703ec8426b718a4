-- Laws of the store's words, for those that read and that write them. Assumes nothing.
use Rattle.std.specs.Prelude.{None, Some}
use Prim.Native.Nat.{ℕ, zero, suc, ◌+◌, ◌*◌, ◌/◌, ◌%◌, ◌^◌, ◌<◌, ◌≤◌}
use native.Mathlib.Nat.{mod-one, mod-eq_of_lt}
use native.Mathlib.Omega.{arith}
use mathlib.Core.Path.{◌≡◌, refl, sym, ap, ◌∙◌, subst}
use mathlib.Core.Bool.{Bool, true, false, ◌&&◌}
use mathlib.Core.List.{List}
use lib.Dec.{eqb, ltb}
use lib.ListN.{length, get_or, get_or-eq_default}
use lib.Pow.{shr-shr, mod-pow-add}
use borrow.Author.Tests.{eqb-true, eqb-false, eq-eqb, leb-true, le-leb, ltb-true, ltb-false, lt-ltb}
use Rattle.value.specs.Bits.{weight}
use Rattle.value.specs.Words.{pick}
use Rattle.value.proofs.BitLaws.{bit-above}
use Rattle.value.specs.declared.PropertyKey.{PropertyKey}
use Rattle.value.specs.declared.PropertyKey.TheVariants.{String, Symbol}
use Rattle.value.specs.PropertyKey.{same_key}
use Rattle.value.proofs.Bools.{and-true, bool-ext}
use Rattle.value.proofs.SameKey.{key-refl, key-eq}
use Rattle.text.proofs.TableLaws.{length-tabulate, get_d_tabulate}
use Rattle.text.specs.Table.{tabulate}
use Rattle.store.specs.Store.{lookup, is_live, live_marks, is_at}
use Rattle.store.specs.Words.{made_at, properties_at, live_at, released_at, key_at, word_at, object_in, slot_in, key_word, owner_of, key_of, entry_in, store_of, is_store}

-- what is_store says, as numbers
pub record Sized (w : List ℕ) : Type 0 where
  pub size : length w ≡ 1670
  pub made : word_at w made_at ≤ 32
  pub properties : word_at w properties_at ≤ 256
  pub live : word_at w live_at < 2 ^ 32
  pub released : word_at w released_at ≤ 32

pub sized : (w : List ℕ) → is_store w ≡ true → Sized w
unfolding is_store
sized w h =
    let (a, b) = and-true _ _ h in
    let (c, d) = and-true _ _ b in
    let (e, f) = and-true _ _ d in
    let (g, i) = and-true _ _ f in
    record { size = eqb-true _ _ a; made = leb-true _ _ c; properties = leb-true _ _ e; live = ltb-true _ _ g; released = leb-true _ _ i }

pub is-store : (w : List ℕ) → Sized w → is_store w ≡ true
unfolding is_store
is-store w s = rw (eq-eqb _ _ s.size, le-leb _ _ s.made, le-leb _ _ s.properties, lt-ltb _ _ s.live, le-leb _ _ s.released)

pub object-length : (w : List ℕ) → length (store_of w).objects ≡ 32
unfolding store_of
object-length w = length-tabulate _ _ _

pub released-length : (w : List ℕ) → length (store_of w).released ≡ word_at w released_at
unfolding store_of
released-length w = length-tabulate _ _ _

pub property-length : (w : List ℕ) → length (store_of w).properties ≡ word_at w 1
unfolding store_of
property-length w = length-tabulate _ _ _

-- Live objects --------------------------------------------------------------------------

-- an object is live by its mark
pub lookup-live : (w : List ℕ) → Sized w → (o : ℕ) → lookup (store_of w) o ≡ slot_in w o
unfolding lookup store_of slot_in
lookup-live w s o = go (ltb o 32) refl
  where
    beyond : 32 ≤ o → slot_in w o ≡ None
    beyond l = rw (bit-above (word_at w live_at) 32 o s.live l)

    go : (t : Bool) → ltb o 32 ≡ t → get_or (tabulate (slot_in w) 0 32) o None ≡ slot_in w o
    go true e =
        let p : 0 + o ≡ o = omega arith in
        get_d_tabulate (slot_in w) 0 32 o None (ltb-true o 32 e) ∙ ap (slot_in w) p
    go false e =
        let l : 32 ≤ o = ltb-false o 32 e in
        let z : length (tabulate (slot_in w) 0 32) ≤ o = rw (length-tabulate (slot_in w) 0 32) l in
        get_or-eq_default (tabulate (slot_in w) 0 32) None {n = o} z ∙ sym (beyond l)

-- their marks are the word of marks
marks-from : (w : List ℕ) (i n : ℕ) → live_marks (tabulate (slot_in w) i n) ≡ word_at w live_at / 2 ^ i % 2 ^ n
unfolding live_marks tabulate slot_in
marks-from w i zero = sym (mod-one (word_at w live_at / 2 ^ i))
marks-from w i (suc n) =
    let y = word_at w live_at / 2 ^ i in
    let h : word_at w live_at / 2 ^ suc i ≡ y / 2 = sym (shr-shr (word_at w live_at) i 1 ∙ ap (λ (x : ℕ). word_at w live_at / 2 ^ x) (omega arith)) in
    let m : y % 2 ^ (n + 1) ≡ y / 2 % 2 ^ n * 2 + y % 2 = mod-pow-add y n 1 in
    let k : n + 1 ≡ suc n = omega arith in
    let m' : y % 2 ^ suc n ≡ y / 2 % 2 ^ n * 2 + y % 2 = subst (λ (x : ℕ). y % 2 ^ x ≡ y / 2 % 2 ^ n * 2 + y % 2) k m in
    let r : live_marks (tabulate (slot_in w) (suc i) n) ≡ y / 2 % 2 ^ n = marks-from w (suc i) n ∙ ap (λ (x : ℕ). x % 2 ^ n) h in
    let b : weight (is_live (pick (eqb (y % 2) 1) (Some (object_in w i)) None)) 1 ≡ y % 2 = low (y % 2) (eqb (y % 2) 1) refl (omega arith) in
    rw (r, b, m') (omega arith)
  where
    low : (z : ℕ) (t : Bool) → eqb z 1 ≡ t → z < 2 → weight (is_live (pick t (Some (object_in w i)) None)) 1 ≡ z
    low z true e l = sym (eqb-true z 1 e)
    low z false e l = let h = eqb-false z 1 e in go z h l
      where
        go : (z : ℕ) → (z ≡ 1 → ⊥) → z < 2 → 0 ≡ z
        go zero h l = refl
        go (suc zero) h l = absurd (h refl)
        go (suc (suc z)) h l = absurd (omega (arith, l))

pub live-word : (w : List ℕ) → Sized w → live_marks (store_of w).objects ≡ word_at w live_at
unfolding store_of
live-word w s = marks-from w 0 32 ∙ (mod-eq_of_lt (omega (arith, s.live)) ∙ omega arith)

-- Key words -----------------------------------------------------------------------------

-- a key word holds its owner and its key
pub word-owner : (o : ℕ) (k : PropertyKey) → o < 32 → owner_of (key_word o k) ≡ o
word-owner o (String s) h = omega arith
word-owner o (Symbol s) h = omega arith

pub word-key : (o : ℕ) (k : PropertyKey) → o < 32 → key_of (key_word o k) ≡ k
unfolding key_of
word-key o (String s) h =
    let a : (o + 64 * s) / 32 % 2 ≡ 0 = omega arith in
    let b : (o + 64 * s) / 64 ≡ s = omega arith in
    rw (a, b)
word-key o (Symbol s) h =
    let a : (o + 32 + 64 * s) / 32 % 2 ≡ 1 = omega arith in
    let b : (o + 32 + 64 * s) / 64 ≡ s = omega arith in
    rw (a, b)

-- and nothing else
word-parts : (n : ℕ) → key_word (owner_of n) (key_of n) ≡ n
unfolding key_of
word-parts n = go (eqb (n / 32 % 2) 0) refl
  where
    go : (b : Bool) → eqb (n / 32 % 2) 0 ≡ b → key_word (owner_of n) (key_of n) ≡ n
    go true e = let h = eqb-true (n / 32 % 2) 0 e in rw e (omega arith)
    go false e = let h = eqb-false (n / 32 % 2) 0 e in rw e (omega arith)

-- one comparison of key words tells whether an entry is a property
pub at-word : (w : List ℕ) (i o : ℕ) (k : PropertyKey) → o < 32 → is_at (entry_in w i) o k ≡ eqb (word_at w (key_at i)) (key_word o k)
unfolding is_at entry_in
at-word w i o k h = bool-ext _ _ there back
  where
    n : ℕ
    n = word_at w (key_at i)

    there : (eqb (owner_of n) o && same_key (key_of n) k) ≡ true → eqb n (key_word o k) ≡ true
    there t =
        let (a, b) = and-true _ _ t in
        let e : key_word o k ≡ n = rw (sym (eqb-true (owner_of n) o a), sym (key-eq (key_of n) k b)) (word-parts n) in
        eq-eqb n (key_word o k) (sym e)

    back : eqb n (key_word o k) ≡ true → (eqb (owner_of n) o && same_key (key_of n) k) ≡ true
    back t =
        let e = eqb-true n (key_word o k) t in
        rw (e, word-owner o k h, word-key o k h, eq-eqb o o refl) (key-refl k)
