-- What each write to the words makes of the store that they hold. Assumes nothing.
use Rattle.std.specs.Prelude.{Option, None, Some}
use Prim.Native.Nat.{ℕ, zero, suc, ◌+◌, ◌-◌, ◌%◌, ◌^◌, ◌<◌, ◌≤◌}
use native.Mathlib.Nat.{mod-eq_of_lt, zero-div}
use native.Mathlib.Omega.{arith}
use native.Mathlib.Numerals.{add-one}
use mathlib.Core.Path.{◌≡◌, refl, sym, ap, ◌∙◌}
use mathlib.Core.Bool.{Bool, true, false, not, cond}
use mathlib.Core.List.{List, [], ◌∷◌, ◌++◌, append_assoc, append-nil}
use lib.Dec.{eqb, ltb}
use lib.ListN.{length, set, replicate, take, drop, length-set}
use lib.Seq.{sets, length-sets, get_or-set_same, get_or-set_other}
use borrow.Author.Tests.{eq-eqb, ne_eqb, eqb-true, eqb-false, ltb-true, ltb-false, lt-ltb, le-ltb}
use Rattle.value.specs.Bits.{bit, weight, with_bit}
use Rattle.value.proofs.BitLaws.{bit-with, with-below}
use Rattle.value.specs.declared.Value.{Value}
use Rattle.value.specs.declared.Value.TheVariants.{Undefined}
use Rattle.value.specs.declared.PropertyKey.{PropertyKey}
use Rattle.value.specs.Words.{pick, kind_of, payload_of, value_of}
use Rattle.property.specs.declared.Property.{Property}
use Rattle.property.specs.declared.Property.TheVariants.{Data, Accessor}
use Rattle.text.specs.Table.{tabulate}
use Rattle.text.proofs.TableLaws.{length-tabulate, tabulate-ext, tabulate-last}
use Rattle.std.proofs.lemmas.List.Edits.{sets-eq}
use Rattle.store.specs.declared.Object.{Object}
use Rattle.store.specs.declared.Object.TheVariants.{Ordinary, Proxy}
use Rattle.store.specs.declared.Entry.{Entry}
use Rattle.store_write.specs.declared.write.ObjectWords.{ObjectWords}
use Rattle.store_write.specs.declared.write.PropertyWords.{PropertyWords}
use Rattle.store.specs.Store.{Store, empty, entry, is_at, excluding, remove, put, rest, made_with, live_count, add, own, with_properties, with_property, without_property, replace_at, with_change}
use Rattle.store.specs.Release.{is_owned_by, queued, release}
use Rattle.store.specs.Words.{queue_at, place_of, released_in, slot_in, next_in, with_number_taken, with_live_object, with_number_released, without_rows, without_object, object_at, key_at, row_at, word_at, object_of, object_in, head_of, first_of, second_of, key_word, property_of, flags_of, primary, secondary, property_in, entry_in, store_of, is_store, with_object, with_new_object, with_row, with_new_row, moved, swept, without_row}
use Rattle.store_write.specs.Write.{Fits, FitsObject, FitsProperty, cells_of, ObjectCells, PropertyCells, New, Becomes}
use Rattle.store.proofs.WordLaws.{Sized, sized, property-length, is-store, word-owner, word-key, at-word}
use Rattle.store.proofs.FindLaws.{absent-appended}
use Rattle.store_read.proofs.ReadLaws.{live_below, next-number}

-- Words ---------------------------------------------------------------------------------

other : (w : List ℕ) (i j a : ℕ) → (j ≡ i → ⊥) → word_at (set w i a) j ≡ word_at w j
other w i j a h = get_or-set_other w i j a 0 h

same : (w : List ℕ) (i a : ℕ) → i < length w → word_at (set w i a) i ≡ a
same w i a h = get_or-set_same w i a 0 h

sets-out : (us w : List ℕ) (i j : ℕ) → ((m : ℕ) → m < length us → j ≡ i + m → ⊥) → word_at (sets w i us) j ≡ word_at w j
sets-out [] w i j h = refl
sets-out (u ∷ us) w i j h =
    sets-out us (set w i u) (suc i) j (λ m l e. h (suc m) (omega arith) (omega arith))
    ∙ other w i j u (λ e. h 0 (omega arith) (omega arith))

sets-in : (us w : List ℕ) (i m : ℕ) → i + length us ≤ length w → m < length us → word_at (sets w i us) (i + m) ≡ word_at us m
sets-in [] w i m l h = absurd (omega arith)
sets-in (u ∷ us) w i zero l h =
    let e : i + 0 ≡ i = omega arith in
    rw e (sets-out us (set w i u) (suc i) i (λ m k q. omega arith) ∙ same w i u (omega arith))
sets-in (u ∷ us) w i (suc m) l h =
    let e : i + suc m ≡ suc i + m = omega arith in
    rw e (sets-in us (set w i u) (suc i) m (simp length-set (omega arith)) (omega arith))

-- words that are stored one by one
pub three-set : (w : List ℕ) (i a b c : ℕ) → set (set (set w i a) (i + 1) b) (i + 2) c ≡ sets w i (a ∷ b ∷ c ∷ [])
three-set w i a b c =
    let p : i + 1 ≡ suc i = omega arith in
    let q : i + 2 ≡ suc (suc i) = omega arith in
    rw (p, q)

pub five-set : (w u : List ℕ) (i a b c d e : ℕ) → u ≡ sets w i (a ∷ b ∷ c ∷ []) → set (set u (i + 3) d) (i + 4) e ≡ sets w i (a ∷ b ∷ c ∷ d ∷ e ∷ [])
five-set w u i a b c d e h =
    let p : i + 3 ≡ suc (suc (suc i)) = omega arith in
    let q : i + 4 ≡ suc (suc (suc (suc i))) = omega arith in
    rw (h, p, q)

-- Tables --------------------------------------------------------------------------------

module _ {A : Type 0} where
  -- the tables agree but for one element
  set-from : (f g : ℕ → A) (s n i : ℕ) → i < n → ((j : ℕ) → s ≤ j → j < s + n → (j ≡ s + i → ⊥) → f j ≡ g j)
      → tabulate f s n ≡ set (tabulate g s n) i (f (s + i))
  unfolding tabulate
  set-from f g s zero i l h = absurd (omega arith)
  set-from f g s (suc n) zero l h =
      let e : s + 0 ≡ s = omega arith in
      let r : tabulate f (suc s) n ≡ tabulate g (suc s) n = tabulate-ext f g (suc s) n (λ j a b. h j (omega arith) (omega arith) (λ q. omega arith)) in
      rw (e, r)
  set-from f g s (suc n) (suc i) l h =
      let e : s + suc i ≡ suc s + i = omega arith in
      let d : f s ≡ g s = h s (omega arith) (omega arith) (λ q. omega arith) in
      let r : tabulate f (suc s) n ≡ set (tabulate g (suc s) n) i (f (suc s + i)) =
      set-from f g (suc s) n i (omega arith) (λ j a b q. h j (omega arith) (omega arith) (λ p. q (omega arith))) in
      rw (e, d, r)

  one_more : (f : ℕ → A) (n : ℕ) → tabulate f 0 (suc n) ≡ tabulate f 0 n ++ (f n ∷ [])
  one_more f n = let e : 0 + n ≡ n = omega arith in rw e at (tabulate-last f 0 n)

  pub tabulate-set : (f g : ℕ → A) (n i : ℕ) → i < n → ((j : ℕ) → j < n → (j ≡ i → ⊥) → f j ≡ g j) → tabulate f 0 n ≡ set (tabulate g 0 n) i (f i)
  tabulate-set f g n i l h =
      let e : 0 + i ≡ i = omega arith in
      rw e at (set-from f g 0 n i l (λ j a b r. h j (omega arith) (λ q. r (omega arith))))

-- Objects -------------------------------------------------------------------------------

abbrev object_words : Object → List ℕ
object_words x = head_of x ∷ first_of x ∷ second_of x ∷ []

pub object-sets : (w : List ℕ) (o : ℕ) (x : Object) → with_object w o x ≡ sets w (object_at o) (object_words x)
unfolding with_object
object-sets w o x = three-set w (object_at o) _ _ _

pub object-same : (u w : List ℕ) (o : ℕ) → ((m : ℕ) → m < 3 → word_at u (object_at o + m) ≡ word_at w (object_at o + m)) → object_in u o ≡ object_in w o
unfolding object_in
object-same u w o h =
    let e : object_at o + 0 ≡ object_at o = omega arith in
    let d : word_at u (object_at o) ≡ word_at w (object_at o) = rw e at (h 0 (omega arith)) in
    rw (d, h 1 (omega arith), h 2 (omega arith))

object-again : (x : Object) → FitsObject x → object_of (head_of x) (first_of x) (second_of x) ≡ x
unfolding object_of
object-again (Ordinary r) f = go r.extensible refl
  where
    go : (b : Bool) → r.extensible ≡ b → object_of (head_of (Ordinary r)) (first_of (Ordinary r)) (second_of (Ordinary r)) ≡ Ordinary r
    go true e = rw (e, f.prototype.again) (rw (sym e))
    go false e = rw (e, f.prototype.again) (rw (sym e))
object-again (Proxy p) f = go p.revoked refl
  where
    go : (b : Bool) → p.revoked ≡ b → object_of (head_of (Proxy p)) (first_of (Proxy p)) (second_of (Proxy p)) ≡ Proxy p
    go true e = rw e (rw (sym e))
    go false e = rw e (rw (sym e))

pub length-object : (w : List ℕ) (o : ℕ) (x : Object) → length (with_object w o x) ≡ length w
length-object w o x = ap length (object-sets w o x) ∙ length-sets w (object_at o) (object_words x)

-- a word that is none of the object's
pub object-out : (w : List ℕ) (o : ℕ) (x : Object) (j : ℕ) → ((m : ℕ) → m < 3 → j ≡ object_at o + m → ⊥) → word_at (with_object w o x) j ≡ word_at w j
object-out w o x j h = rw (object-sets w o x) (sets-out (object_words x) w (object_at o) j h)

object-made : (w : List ℕ) (o : ℕ) (x : Object) → object_at o + 3 ≤ length w → FitsObject x → object_in (with_object w o x) o ≡ x
unfolding object_in
object-made w o x l f =
    let us = object_words x in
    let e : object_at o + 0 ≡ object_at o = omega arith in
    let a : word_at (sets w (object_at o) us) (object_at o) ≡ head_of x = rw e at (sets-in us w (object_at o) 0 l (omega arith)) in
    rw (object-sets w o x, a, sets-in us w (object_at o) 1 l (omega arith), sets-in us w (object_at o) 2 l (omega arith)) (object-again x f)

-- The store by its words ------------------------------------------------------------------

-- the objects of words, their released numbers and their properties
abbrev objects_of : List ℕ → List (Option Object)
objects_of w = tabulate (slot_in w) 0 32

abbrev released_of : List ℕ → List ℕ
released_of w = tabulate (released_in w) 0 (word_at w 4)

abbrev properties_of : List ℕ → List Entry
properties_of w = tabulate (entry_in w) 0 (word_at w 1)

slot_same : (u w : List ℕ) (o : ℕ) → bit (word_at u 3) o ≡ bit (word_at w 3) o → ((m : ℕ) → m < 3 → word_at u (object_at o + m) ≡ word_at w (object_at o + m)) → slot_in u o ≡ slot_in w o
unfolding slot_in
slot_same u w o e h = rw (e, object-same u w o h)

objects-same : (u w : List ℕ) → word_at u 3 ≡ word_at w 3 → ((m : ℕ) → 38 ≤ m → m < 134 → word_at u m ≡ word_at w m) → objects_of u ≡ objects_of w
objects-same u w e h =
    tabulate-ext (slot_in u) (slot_in w) 0 32 (λ o a b. slot_same u w o (ap (λ (n : ℕ). bit n o) e) (λ m t. h _ (omega arith) (omega arith)))

released-same : (u w : List ℕ) → word_at u 4 ≡ word_at w 4 → word_at u 5 ≡ word_at w 5 → ((m : ℕ) → 6 ≤ m → m < 38 → word_at u m ≡ word_at w m) → released_of u ≡ released_of w
unfolding released_in
released-same u w e f h =
    rw e (tabulate-ext (released_in u) (released_in w) 0 (word_at w 4) (λ i a b. rw f (ap (λ (n : ℕ). n % 32) (h (6 + (word_at w 5 + i) % 32) (omega arith) (omega arith)))))

pub entry-same : (u w : List ℕ) (i j : ℕ) → word_at u (key_at i) ≡ word_at w (key_at j) → ((m : ℕ) → m < 5 → word_at u (row_at i + m) ≡ word_at w (row_at j + m))
    → entry_in u i ≡ entry_in w j
unfolding entry_in property_in
entry-same u w i j k h =
    let a : row_at i + 0 ≡ row_at i = omega arith in
    let b : row_at j + 0 ≡ row_at j = omega arith in
    let d : word_at u (row_at i) ≡ word_at w (row_at j) = rw (a, b) at (h 0 (omega arith)) in
    rw (k, d, h 1 (omega arith), h 2 (omega arith), h 3 (omega arith), h 4 (omega arith))

properties-same : (u w : List ℕ) → word_at u 1 ≡ word_at w 1 → ((m : ℕ) → 134 ≤ m → word_at u m ≡ word_at w m) → properties_of u ≡ properties_of w
properties-same u w e h =
    rw e (tabulate-ext (entry_in u) (entry_in w) 0 (word_at w 1) (λ i a b. entry-same u w i i (h _ (omega arith)) (λ m t. h _ (omega arith))))

store_by : (w : List ℕ) (σ : Store) → objects_of w ≡ σ.objects → word_at w 0 ≡ σ.made → released_of w ≡ σ.released → word_at w 2 ≡ σ.callable → properties_of w ≡ σ.properties → store_of w ≡ σ
unfolding store_of
store_by w σ a b c d e = rw (a, b, c, d, e)

-- words whose properties alone are others
module _ (u w : List ℕ) (h : (m : ℕ) → m < 134 → (m ≡ 1 → ⊥) → word_at u m ≡ word_at w m) where
  store-properties : (es : List Entry) → properties_of u ≡ es → store_of u ≡ with_properties (store_of w) es
  unfolding store_of
  store-properties es e =
      let at : (m : ℕ) → m < 134 → 1 < m → word_at u m ≡ word_at w m = λ m l t. h m l (λ q. omega arith) in
      store_by u _
      (objects-same u w (at 3 (omega arith) (omega arith)) (λ m a b. at m b (omega arith)))
      (h 0 (omega arith) (λ q. omega arith))
      (released-same u w (at 4 (omega arith) (omega arith)) (at 5 (omega arith) (omega arith)) (λ m a b. at m (omega arith) (omega arith)))
      (at 2 (omega arith) (omega arith))
      e

  sized-properties : Sized w → length u ≡ 1670 → word_at u 1 ≤ 256 → Sized u
  sized-properties s l n = record {
    size = l;
    made = rw (h 0 (omega arith) (λ q. omega arith)) s.made;
    properties = n;
    live = rw (h 3 (omega arith) (λ q. omega arith)) s.live;
    released = rw (h 4 (omega arith) (λ q. omega arith)) s.released;
  }

-- Objects written -----------------------------------------------------------------------

-- the objects with one more or less
objects-set : (u w : List ℕ) (o : ℕ) (x : Option Object) → o < 32 → slot_in u o ≡ x
    → ((j : ℕ) → (j ≡ o → ⊥) → bit (word_at u 3) j ≡ bit (word_at w 3) j) → ((j m : ℕ) → j < 32 → (j ≡ o → ⊥) → m < 3 → word_at u (object_at j + m) ≡ word_at w (object_at j + m))
    → objects_of u ≡ set (objects_of w) o x
objects-set u w o x h e f g =
    tabulate-set (slot_in u) (slot_in w) 32 o h (λ j l r. slot_same u w j (f j r) (λ m t. g j m l r t))
    ∙ ap (set (objects_of w) o) e

bit-set : (m n : ℕ) (b : Bool) → bit (with_bit m n b) n ≡ b
bit-set m n b = bit-with m n n b ∙ rw (eq-eqb n n refl)

bit_kept : (m n j : ℕ) (b : Bool) → (j ≡ n → ⊥) → bit (with_bit m n b) j ≡ bit m j
bit_kept m n j b h = bit-with m n j b ∙ rw (ne_eqb n j (λ e. h (sym e)))

module _ (w : List ℕ) (s : Sized w) (o : ℕ) (x : Object) where
  out : (j : ℕ) → j < 38 → word_at (with_object w o x) j ≡ word_at w j
  out j l = object-out w o x j (λ m t e. omega arith)

  beyond : o < 32 → (j : ℕ) → 134 ≤ j → word_at (with_object w o x) j ≡ word_at w j
  beyond h j l = object-out w o x j (λ m t e. omega arith)

  apart : (j m : ℕ) → (j ≡ o → ⊥) → m < 3 → word_at (with_object w o x) (object_at j + m) ≡ word_at w (object_at j + m)
  apart j m r t = object-out w o x _ (λ n l e. r (omega arith))

  made-object : o < 32 → FitsObject x → object_in (with_object w o x) o ≡ x
  made-object h f = object-made w o x (omega (arith, s.size)) f

  pub sized-object : Sized (with_object w o x)
  sized-object = record {
    size = length-object w o x ∙ s.size;
    made = rw (out 0 (omega arith)) s.made;
    properties = rw (out 1 (omega arith)) s.properties;
    live = rw (out 3 (omega arith)) s.live;
    released = rw (out 4 (omega arith)) s.released;
  }

  pub store-object : bit (word_at w 3) o ≡ true → FitsObject x → store_of (with_object w o x) ≡ put (store_of w) o x
  unfolding put store_of slot_in
  store-object b f =
      let h = live_below w s o b in
      let u = with_object w o x in
      let live : word_at u 3 ≡ word_at w 3 = out 3 (omega arith) in
      store_by u _
      (objects-set u w o (Some x) h (rw (live, b, made-object h f)) (λ j r. ap (λ (n : ℕ). bit n j) live) (λ j m l r t. apart j m r t))
      (out 0 (omega arith))
      (released-same u w (out 4 (omega arith)) (out 5 (omega arith)) (λ m a b. out m b))
      (out 2 (omega arith))
      (properties-same u w (out 1 (omega arith)) (beyond h))

  -- made live, and callable or not
  abbrev after_live : Bool → Store → ℕ → Store
  after_live b σ n = record { objects = set σ.objects n (Some x); made = σ.made; released = σ.released; callable = with_bit σ.callable n b; properties = σ.properties }

  module _ (b : Bool) where
    abbrev marked : List ℕ
    marked = set (with_object w o x) 2 (with_bit (word_at w 2) o b)

    length-live : length (with_live_object w o x b) ≡ length w
    unfolding with_live_object
    length-live = length-set marked 3 (with_bit (word_at w 3) o true) ∙ length-set (with_object w o x) 2 (with_bit (word_at w 2) o b) ∙ length-object w o x

    live_out : (j : ℕ) → (j ≡ 2 → ⊥) → (j ≡ 3 → ⊥) → word_at (with_live_object w o x b) j ≡ word_at (with_object w o x) j
    unfolding with_live_object
    live_out j y z = other marked 3 j (with_bit (word_at w 3) o true) z ∙ other (with_object w o x) 2 j (with_bit (word_at w 2) o b) y

    live-head : (j : ℕ) → j < 38 → (j ≡ 2 → ⊥) → (j ≡ 3 → ⊥) → word_at (with_live_object w o x b) j ≡ word_at w j
    live-head j l y z = live_out j y z ∙ out j l

    live-callable : word_at (with_live_object w o x b) 2 ≡ with_bit (word_at w 2) o b
    unfolding with_live_object
    live-callable =
        other marked 3 2 (with_bit (word_at w 3) o true) (λ e. omega arith)
        ∙ same (with_object w o x) 2 (with_bit (word_at w 2) o b) (omega (arith, length-object w o x, s.size))

    live-marks : word_at (with_live_object w o x b) 3 ≡ with_bit (word_at w 3) o true
    unfolding with_live_object
    live-marks =
        same marked 3 (with_bit (word_at w 3) o true)
        (omega (arith, length-set (with_object w o x) 2 (with_bit (word_at w 2) o b), length-object w o x, s.size))

    pub sized-live : o < 32 → Sized (with_live_object w o x b)
    sized-live h = record {
      size = length-live ∙ s.size;
      made = rw (live-head 0 (omega arith) (λ e. omega arith) (λ e. omega arith)) s.made;
      properties = rw (live-head 1 (omega arith) (λ e. omega arith) (λ e. omega arith)) s.properties;
      live = rw live-marks (with-below (word_at w 3) o 32 true h s.live);
      released = rw (live-head 4 (omega arith) (λ e. omega arith) (λ e. omega arith)) s.released;
    }

    objects-live : o < 32 → FitsObject x → objects_of (with_live_object w o x b) ≡ set (objects_of w) o (Some x)
    unfolding slot_in
    objects-live h f =
        let u = with_live_object w o x b in
        let made : object_in u o ≡ x = object-same u (with_object w o x) o (λ m t. live_out _ (λ e. omega arith) (λ e. omega arith)) ∙ made-object h f in
        objects-set u w o (Some x) h
        (rw (live-marks, bit-set (word_at w 3) o true, made))
        (λ j r. ap (λ (n : ℕ). bit n j) live-marks ∙ bit_kept (word_at w 3) o j true r)
        (λ j m l r t. live_out _ (λ e. omega arith) (λ e. omega arith) ∙ apart j m r t)

    released-live : released_of (with_live_object w o x b) ≡ released_of w
    released-live =
        released-same (with_live_object w o x b) w
        (live-head 4 (omega arith) (λ e. omega arith) (λ e. omega arith))
        (live-head 5 (omega arith) (λ e. omega arith) (λ e. omega arith))
        (λ m k l. live-head m l (λ e. omega arith) (λ e. omega arith))

    properties-live : o < 32 → properties_of (with_live_object w o x b) ≡ properties_of w
    properties-live h =
        properties-same (with_live_object w o x b) w
        (live-head 1 (omega arith) (λ e. omega arith) (λ e. omega arith))
        (λ m l. live_out m (λ e. omega arith) (λ e. omega arith) ∙ beyond h m l)

    pub store-live : o < 32 → FitsObject x → store_of (with_live_object w o x b) ≡ after_live b (store_of w) o
    unfolding store_of
    store-live h f =
        store_by (with_live_object w o x b) _ (objects-live h f) (live-head 0 (omega arith) (λ e. omega arith) (λ e. omega arith)) released-live live-callable (properties-live h)

-- Numbers -------------------------------------------------------------------------------

-- a table read from its second on
tabulate-next : (f g : ℕ → ℕ) (i n : ℕ) → ((j : ℕ) → f j ≡ g (suc j)) → tabulate f i n ≡ tabulate g (suc i) n
unfolding tabulate
tabulate-next f g i zero h = refl
tabulate-next f g i (suc n) h = rw (h i, tabulate-next f g (suc i) n h)

rest-tabulate : (f : ℕ → ℕ) (n : ℕ) → rest (tabulate f 0 (suc n)) ≡ tabulate f 1 n
unfolding tabulate
rest-tabulate f n = refl

-- the next number is taken
abbrev after_taken : Store → Store
after_taken σ = record { objects = σ.objects; made = made_with σ.made σ.released; released = rest σ.released; callable = σ.callable; properties = σ.properties }

module _ (w : List ℕ) (s : Sized w) where
  none-released : word_at w 4 ≡ 0 → released_of w ≡ []
  unfolding tabulate
  none-released e = rw e

  some-released : (word_at w 4 ≡ 0 → ⊥) → tabulate (released_in w) 0 (suc (word_at w 4 - 1)) ≡ released_of w
  some-released h = let e : suc (word_at w 4 - 1) ≡ word_at w 4 = above (word_at w 4) h in rw e
    where
      above : (n : ℕ) → (n ≡ 0 → ⊥) → suc (n - 1) ≡ n
      above zero h = absurd (h refl)
      above (suc n) h = omega arith

  made_kept : (word_at w 4 ≡ 0 → ⊥) → made_with (word_at w 0) (released_of w) ≡ word_at w 0
  unfolding tabulate
  made_kept h = ap (made_with (word_at w 0)) (sym (some-released h))

  abbrev counted : List ℕ
  counted = set w 0 (suc (word_at w 0))

  abbrev turned : List ℕ
  turned = set w 5 ((word_at w 5 + 1) % 32)

  abbrev advanced : List ℕ
  advanced = set turned 4 (word_at w 4 - 1)

  advanced-out : (j : ℕ) → (j ≡ 4 → ⊥) → (j ≡ 5 → ⊥) → word_at advanced j ≡ word_at w j
  advanced-out j y z = other turned 4 j (word_at w 4 - 1) y ∙ other w 5 j ((word_at w 5 + 1) % 32) z

  fewer : word_at advanced 4 ≡ word_at w 4 - 1
  fewer = same turned 4 (word_at w 4 - 1) (omega (arith, length-set w 5 ((word_at w 5 + 1) % 32), s.size))

  next-first : word_at advanced 5 ≡ (word_at w 5 + 1) % 32
  next-first = other turned 4 5 (word_at w 4 - 1) (λ e. omega arith) ∙ same w 5 ((word_at w 5 + 1) % 32) (omega (arith, s.size))

  released-advanced : (word_at w 4 ≡ 0 → ⊥) → released_of advanced ≡ rest (released_of w)
  unfolding released_in
  released-advanced h =
      let each : (i : ℕ) → released_in advanced i ≡ released_in w (suc i) = λ i.
      let p : ((word_at w 5 + 1) % 32 + i) % 32 ≡ (word_at w 5 + suc i) % 32 = omega arith in
      rw (next-first, p) (ap (λ (n : ℕ). n % 32) (advanced-out (6 + (word_at w 5 + suc i) % 32) (λ e. omega arith) (λ e. omega arith))) in
      rw fewer (tabulate-next (released_in advanced) (released_in w) 0 (word_at w 4 - 1) each)
      ∙ (sym (rest-tabulate (released_in w) (word_at w 4 - 1)) ∙ ap rest (some-released h))

  store-counted : word_at w 4 ≡ 0 → store_of counted ≡ after_taken (store_of w)
  unfolding store_of
  store-counted e =
      let u = counted in
      let at : (m : ℕ) → 0 < m → word_at u m ≡ word_at w m = λ m l. other w 0 m (suc (word_at w 0)) (λ q. omega arith) in
      let z = none-released e in
      store_by u _
      (objects-same u w (at 3 (omega arith)) (λ m a b. at m (omega arith)))
      (same w 0 (suc (word_at w 0)) (omega (arith, s.size)) ∙ ap (made_with (word_at w 0)) (sym z))
      (released-same u w (at 4 (omega arith)) (at 5 (omega arith)) (λ m a b. at m (omega arith)) ∙ (z ∙ ap rest (sym z)))
      (at 2 (omega arith))
      (properties-same u w (at 1 (omega arith)) (λ m l. at m (omega arith)))

  store-advanced : (word_at w 4 ≡ 0 → ⊥) → store_of advanced ≡ after_taken (store_of w)
  unfolding store_of
  store-advanced h =
      let u = advanced in
      let at : (m : ℕ) → (m ≡ 4 → ⊥) → (m ≡ 5 → ⊥) → word_at u m ≡ word_at w m = advanced-out in
      store_by u _
      (objects-same u w (at 3 (λ e. omega arith) (λ e. omega arith)) (λ m a b. at m (λ e. omega arith) (λ e. omega arith)))
      (at 0 (λ e. omega arith) (λ e. omega arith) ∙ sym (made_kept h))
      (released-advanced h)
      (at 2 (λ e. omega arith) (λ e. omega arith))
      (properties-same u w (at 1 (λ e. omega arith) (λ e. omega arith)) (λ m l. at m (λ e. omega arith) (λ e. omega arith)))

  pub store-taken : store_of (with_number_taken w) ≡ after_taken (store_of w)
  unfolding with_number_taken
  store-taken = go (eqb (word_at w 4) 0) refl
    where
      go : (t : Bool) → eqb (word_at w 4) 0 ≡ t → store_of (pick t counted advanced) ≡ after_taken (store_of w)
      go true e = store-counted (eqb-true _ _ e)
      go false e = store-advanced (eqb-false _ _ e)

  pub sized-taken : (word_at w 4 ≡ 0 → word_at w 0 < 32) → Sized (with_number_taken w)
  unfolding with_number_taken
  sized-taken h = go (eqb (word_at w 4) 0) refl
    where
      go : (t : Bool) → eqb (word_at w 4) 0 ≡ t → Sized (pick t counted advanced)
      go true e = record {
        size = length-set w 0 (suc (word_at w 0)) ∙ s.size;
        made = rw (same w 0 (suc (word_at w 0)) (omega (arith, s.size))) (h (eqb-true _ _ e));
        properties = rw (other w 0 1 (suc (word_at w 0)) (λ q. omega arith)) s.properties;
        live = rw (other w 0 3 (suc (word_at w 0)) (λ q. omega arith)) s.live;
        released = rw (other w 0 4 (suc (word_at w 0)) (λ q. omega arith)) s.released;
      }
      go false e = record {
        size = length-set turned 4 (word_at w 4 - 1) ∙ length-set w 5 ((word_at w 5 + 1) % 32) ∙ s.size;
        made = rw (advanced-out 0 (λ q. omega arith) (λ q. omega arith)) s.made;
        properties = rw (advanced-out 1 (λ q. omega arith) (λ q. omega arith)) s.properties;
        live = rw (advanced-out 3 (λ q. omega arith) (λ q. omega arith)) s.live;
        released = rw fewer (omega (arith, s.released));
      }

-- a number is released
abbrev after_released : ℕ → Store → Store
after_released o σ = record { objects = σ.objects; made = σ.made; released = queued σ.released o; callable = σ.callable; properties = σ.properties }

module _ (w : List ℕ) (s : Sized w) (o : ℕ) (h : o < 32) where
  abbrev queued_by : List ℕ
  queued_by = set w (queue_at (place_of w (word_at w 4))) o

  abbrev enqueued : List ℕ
  enqueued = set queued_by 4 (suc (word_at w 4))

  queued-out : (j : ℕ) → (j ≡ 4 → ⊥) → (j ≡ queue_at (place_of w (word_at w 4)) → ⊥) → word_at enqueued j ≡ word_at w j
  queued-out j y z = other queued_by 4 j (suc (word_at w 4)) y ∙ other w (queue_at (place_of w (word_at w 4))) j o z

  more : word_at enqueued 4 ≡ suc (word_at w 4)
  more = same queued_by 4 (suc (word_at w 4)) (omega (arith, length-set w (queue_at (place_of w (word_at w 4))) o, s.size))

  last-queued : word_at enqueued (queue_at (place_of w (word_at w 4))) ≡ o
  last-queued =
      other queued_by 4 (queue_at (place_of w (word_at w 4))) (suc (word_at w 4)) (λ e. omega arith)
      ∙ same w (queue_at (place_of w (word_at w 4))) o (omega (arith, s.size))

  released-queued : word_at w 4 < 32 → released_of enqueued ≡ released_of w ++ (o ∷ [])
  unfolding released_in
  released-queued l =
      let u = enqueued in
      let first : word_at u 5 ≡ word_at w 5 = queued-out 5 (λ e. omega arith) (λ e. omega arith) in
      let before : tabulate (released_in u) 0 (word_at w 4) ≡ released_of w =
      tabulate-ext (released_in u) (released_in w) 0 (word_at w 4) (λ i a b.
      rw first (ap (λ (n : ℕ). n % 32) (queued-out (6 + (word_at w 5 + i) % 32) (λ e. omega arith) (λ e. omega arith)))) in
      let last : released_in u (word_at w 4) ≡ o = rw first (ap (λ (n : ℕ). n % 32) last-queued ∙ mod-eq_of_lt h) in
      rw (more, one_more (released_in u) (word_at w 4), before, last)

  store-enqueued : word_at w 4 < 32 → store_of enqueued ≡ after_released o (store_of w)
  unfolding store_of
  store-enqueued l =
      let u = enqueued in
      let t : ltb (length (released_of w)) 32 ≡ true = lt-ltb (length (released_of w)) 32 (rw (length-tabulate (released_in w) 0 (word_at w 4)) l) in
      store_by u _
      (objects-same u w (queued-out 3 (λ e. omega arith) (λ e. omega arith)) (λ m a b. queued-out m (λ e. omega arith) (λ e. omega arith)))
      (queued-out 0 (λ e. omega arith) (λ e. omega arith))
      (released-queued l ∙ rw t)
      (queued-out 2 (λ e. omega arith) (λ e. omega arith))
      (properties-same u w (queued-out 1 (λ e. omega arith) (λ e. omega arith)) (λ m l. queued-out m (λ e. omega arith) (λ e. omega arith)))

  store-full : 32 ≤ word_at w 4 → store_of w ≡ after_released o (store_of w)
  unfolding store_of
  store-full l =
      let t : ltb (length (released_of w)) 32 ≡ false = le-ltb (length (released_of w)) 32 (rw (length-tabulate (released_in w) 0 (word_at w 4)) l) in
      rw t

  pub store-released : store_of (with_number_released w o) ≡ after_released o (store_of w)
  unfolding with_number_released
  store-released = go (ltb (word_at w 4) 32) refl
    where
      go : (t : Bool) → ltb (word_at w 4) 32 ≡ t → store_of (pick t enqueued w) ≡ after_released o (store_of w)
      go true e = store-enqueued (ltb-true _ _ e)
      go false e = store-full (ltb-false _ _ e)

  pub sized-released : Sized (with_number_released w o)
  unfolding with_number_released
  sized-released = go (ltb (word_at w 4) 32) refl
    where
      go : (t : Bool) → ltb (word_at w 4) 32 ≡ t → Sized (pick t enqueued w)
      go true e = record {
        size = length-set queued_by 4 (suc (word_at w 4)) ∙ length-set w (queue_at (place_of w (word_at w 4))) o ∙ s.size;
        made = rw (queued-out 0 (λ q. omega arith) (λ q. omega arith)) s.made;
        properties = rw (queued-out 1 (λ q. omega arith) (λ q. omega arith)) s.properties;
        live = rw (queued-out 3 (λ q. omega arith) (λ q. omega arith)) s.live;
        released = rw more (ltb-true _ _ e);
      }
      go false e = s

-- A new object --------------------------------------------------------------------------

-- where one more object may be live, the next number is one of the 32
pub next-below : (w : List ℕ) → live_count (store_of w) < 32 → next_in w < 32
unfolding next_in store_of released_in
next-below w h = go (eqb (word_at w 4) 0) refl
  where
    go : (t : Bool) → eqb (word_at w 4) 0 ≡ t → pick t (word_at w 0) (released_in w 0) < 32
    go true e = omega (arith, h, eqb-true (word_at w 4) 0 e, length-tabulate (released_in w) 0 (word_at w 4))
    go false e = omega arith

pub unused-below : (w : List ℕ) → live_count (store_of w) < 32 → word_at w 4 ≡ 0 → word_at w 0 < 32
unfolding store_of
unused-below w h e = omega (arith, h, length-tabulate (released_in w) 0 (word_at w 4))

module _ (w : List ℕ) (s : Sized w) (x : Object) (b : Bool) (h : live_count (store_of w) < 32) where
  abbrev lived : List ℕ
  lived = with_live_object w (next_in w) x b

  lived-head : (j : ℕ) → j < 38 → (j ≡ 2 → ⊥) → (j ≡ 3 → ⊥) → word_at lived j ≡ word_at w j
  lived-head = live-head w s (next_in w) x b

  pub sized-new-object : Sized (with_new_object w x b)
  unfolding with_new_object
  sized-new-object =
      sized-taken lived (sized-live w s (next_in w) x b (next-below w h)) (λ e.
      rw (lived-head 0 (omega arith) (λ q. omega arith) (λ q. omega arith))
      (unused-below w h (sym (lived-head 4 (omega arith) (λ q. omega arith) (λ q. omega arith)) ∙ e)))

  pub store-new-object : FitsObject x → store_of (with_new_object w x b) ≡ add (store_of w) x b
  unfolding with_new_object add
  store-new-object f =
      store-taken lived (sized-live w s (next_in w) x b (next-below w h))
      ∙ ap after_taken (store-live w s (next_in w) x b (next-below w h) f)
      ∙ ap (λ (n : ℕ). after_taken (after_live w s (next_in w) x b (store_of w) n)) (next-number w)

-- Properties ----------------------------------------------------------------------------

abbrev row_words : Property → List ℕ
row_words p = flags_of p ∷ kind_of (primary p) ∷ payload_of (primary p) ∷ kind_of (secondary p) ∷ payload_of (secondary p) ∷ []

pub row-sets : (w : List ℕ) (i : ℕ) (p : Property) → with_row w i p ≡ sets w (row_at i) (row_words p)
unfolding with_row
row-sets w i p = five-set w _ (row_at i) _ _ _ _ _ (three-set w (row_at i) _ _ _)

pub length-row : (w : List ℕ) (i : ℕ) (p : Property) → length (with_row w i p) ≡ length w
length-row w i p = ap length (row-sets w i p) ∙ length-sets w (row_at i) (row_words p)

pub length-keyed : (w : List ℕ) (i key : ℕ) (p : Property) → length (with_row (set w (key_at i) key) i p) ≡ length w
length-keyed w i key p = length-row (set w (key_at i) key) i p ∙ length-set w (key_at i) key

-- a word that is none of the row's
pub row_out : (w : List ℕ) (i : ℕ) (p : Property) (j : ℕ) → ((m : ℕ) → m < 5 → j ≡ row_at i + m → ⊥) → word_at (with_row w i p) j ≡ word_at w j
row_out w i p j h = rw (row-sets w i p) (sets-out (row_words p) w (row_at i) j h)

data-again : (v b : Value) (w e c : Bool) → property_of (flags_of (Data v w e c)) v b ≡ Data v w e c
unfolding property_of
data-again v b true true true = refl
data-again v b true true false = refl
data-again v b true false true = refl
data-again v b true false false = refl
data-again v b false true true = refl
data-again v b false true false = refl
data-again v b false false true = refl
data-again v b false false false = refl

accessor-again : (g s : Value) (e c : Bool) → property_of (flags_of (Accessor g s e c)) g s ≡ Accessor g s e c
unfolding property_of
accessor-again g s true true = refl
accessor-again g s true false = refl
accessor-again g s false true = refl
accessor-again g s false false = refl

pub property-again : (p : Property) → property_of (flags_of p) (primary p) (secondary p) ≡ p
property-again (Data v w e c) = data-again v _ w e c
property-again (Accessor g s e c) = accessor-again g s e c

property-made : (w : List ℕ) (i : ℕ) (p : Property) → row_at i + 5 ≤ length w → FitsProperty p → property_in (with_row w i p) i ≡ p
unfolding property_in
property-made w i p l f =
    let us = row_words p in
    let at = sets-in us w (row_at i) in
    let e : row_at i + 0 ≡ row_at i = omega arith in
    let a : word_at (sets w (row_at i) us) (row_at i) ≡ flags_of p = rw e at (at 0 l (omega arith)) in
    rw (row-sets w i p, a, at 1 l (omega arith), at 2 l (omega arith), at 3 l (omega arith), at 4 l (omega arith), f.first.again, f.second.again)
    (property-again p)

-- Rows ----------------------------------------------------------------------------------

row_made : (w : List ℕ) (i : ℕ) (p : Property) → row_at i + 5 ≤ length w → i < 256 → FitsProperty p
    → entry_in (with_row w i p) i ≡ entry (entry_in w i).owner (entry_in w i).key p
unfolding entry_in
row_made w i p l h f = rw (row_out w i p (key_at i) (λ m t e. omega arith), property-made w i p l f)

replace-from : (f : ℕ → Entry) (s n i : ℕ) (p : Property) → i < n
    → replace_at (tabulate f s n) i p ≡ set (tabulate f s n) i (entry (f (s + i)).owner (f (s + i)).key p)
unfolding tabulate replace_at
replace-from f s zero i p h = absurd (omega arith)
replace-from f s (suc n) zero p h = let e : s + 0 ≡ s = omega arith in rw e
replace-from f s (suc n) (suc i) p h =
    let e : s + suc i ≡ suc s + i = omega arith in rw (e, replace-from f (suc s) n i p (omega arith))

pub replaced : (f : ℕ → Entry) (n i : ℕ) (p : Property) → i < n → replace_at (tabulate f 0 n) i p ≡ set (tabulate f 0 n) i (entry (f i).owner (f i).key p)
replaced f n i p h = let e : 0 + i ≡ i = omega arith in rw e at (replace-from f 0 n i p h)

module _ (w : List ℕ) (s : Sized w) (i : ℕ) (p : Property) (h : i < word_at w 1) where
  low : (j : ℕ) → j < 390 → word_at (with_row w i p) j ≡ word_at w j
  low j l = row_out w i p j (λ m t e. omega arith)

  pub sized_row : Sized (with_row w i p)
  sized_row =
      sized-properties (with_row w i p) w (λ m l q. low m (omega arith)) s (length-row w i p ∙ s.size)
      (rw (low 1 (omega arith)) s.properties)

  pub properties-row : FitsProperty p → properties_of (with_row w i p) ≡ set (properties_of w) i (entry (entry_in w i).owner (entry_in w i).key p)
  properties-row f =
      let u = with_row w i p in
      rw (low 1 (omega arith)) (tabulate-set (entry_in u) (entry_in w) (word_at w 1) i h
      (λ j l r. entry-same u w j j (low _ (omega (arith, s.properties))) (λ m t. row_out w i p _ (λ n q e. r (omega arith))))
      ∙ ap (set (properties_of w) i) (row_made w i p (omega (arith, s.size, s.properties)) (omega (arith, s.properties)) f))

  pub store-row : FitsProperty p → store_of (with_row w i p) ≡ with_change (store_of w) i p
  unfolding with_change store_of
  store-row f =
      store-properties (with_row w i p) w (λ m l q. low m (omega arith)) _ (properties-row f ∙ sym (replaced (entry_in w) (word_at w 1) i p h))

-- the words with the next key word
abbrev keyed_by : List ℕ → ℕ → PropertyKey → List ℕ
keyed_by w o k = set w (key_at (word_at w 1)) (key_word o k)

module _ (w : List ℕ) (s : Sized w) (o : ℕ) (k : PropertyKey) (p : Property) (h : word_at w 1 < 256) where
  row_kept : (j : ℕ) → (j ≡ 1 → ⊥) → word_at (with_new_row w o k p) j ≡ word_at (with_row (keyed_by w o k) (word_at w 1) p) j
  unfolding with_new_row
  row_kept j z = other (with_row (keyed_by w o k) (word_at w 1) p) 1 j (suc (word_at w 1)) z

  new-out : (j : ℕ) → (j ≡ 1 → ⊥) → (j ≡ key_at (word_at w 1) → ⊥) → ((m : ℕ) → m < 5 → j ≡ row_at (word_at w 1) + m → ⊥)
      → word_at (with_new_row w o k p) j ≡ word_at w j
  new-out j z y r = row_kept j z ∙ row_out (keyed_by w o k) (word_at w 1) p j r ∙ other w (key_at (word_at w 1)) j (key_word o k) y

  new-head : (m : ℕ) → m < 134 → (m ≡ 1 → ⊥) → word_at (with_new_row w o k p) m ≡ word_at w m
  new-head m l z = new-out m z (λ e. omega arith) (λ q r e. omega arith)

  new-count : word_at (with_new_row w o k p) 1 ≡ suc (word_at w 1)
  unfolding with_new_row
  new-count =
      same (with_row (keyed_by w o k) (word_at w 1) p) 1 (suc (word_at w 1))
      (omega (arith, length-keyed w (word_at w 1) (key_word o k) p, s.size))

  pub sized-new-row : Sized (with_new_row w o k p)
  unfolding with_new_row
  sized-new-row =
      sized-properties (with_new_row w o k p) w new-head s
      (length-set (with_row (keyed_by w o k) (word_at w 1) p) 1 (suc (word_at w 1)) ∙ length-keyed w (word_at w 1) (key_word o k) p ∙ s.size)
      (rw new-count (omega arith))

  entry-keyed : o < 32 → entry (entry_in (keyed_by w o k) (word_at w 1)).owner (entry_in (keyed_by w o k) (word_at w 1)).key p ≡ entry o k p
  unfolding entry_in
  entry-keyed b = rw (same w (key_at (word_at w 1)) (key_word o k) (omega (arith, s.size)), word-owner o k b, word-key o k b)

  entry_new : o < 32 → FitsProperty p → entry_in (with_new_row w o k p) (word_at w 1) ≡ entry o k p
  entry_new b f =
      entry-same (with_new_row w o k p) (with_row (keyed_by w o k) (word_at w 1) p) (word_at w 1) (word_at w 1)
      (row_kept _ (λ e. omega arith)) (λ m t. row_kept _ (λ e. omega arith))
      ∙ row_made (keyed_by w o k) (word_at w 1) p (omega (arith, s.size, length-set w (key_at (word_at w 1)) (key_word o k))) h f
      ∙ entry-keyed b

  pub store-new-row : o < 32 → FitsProperty p → own (store_of w) o k ≡ None → store_of (with_new_row w o k p) ≡ with_property (store_of w) o k p
  unfolding with_property store_of own
  store-new-row b f a =
      let u = with_new_row w o k p in
      let n = word_at w 1 in
      let before : tabulate (entry_in u) 0 n ≡ tabulate (entry_in w) 0 n =
      tabulate-ext (entry_in u) (entry_in w) 0 n (λ j t l. entry-same u w j j
      (new-out _ (λ e. omega arith) (λ e. omega arith) (λ q r e. omega arith))
      (λ m r. new-out _ (λ e. omega arith) (λ e. omega arith) (λ q z e. omega arith))) in
      let y : properties_of u ≡ properties_of w ++ (entry o k p ∷ []) = rw (new-count, one_more (entry_in u) n, before, entry_new b f) in
      store-properties u w new-head _ (y ∙ sym (absent-appended (properties_of w) o k p a))

-- Removal -------------------------------------------------------------------------------

-- five words of row i stored as row j
abbrev pub row_of : List ℕ → ℕ → List ℕ
row_of w i = word_at w (row_at i) ∷ word_at w (row_at i + 1) ∷ word_at w (row_at i + 2) ∷ word_at w (row_at i + 3) ∷ word_at w (row_at i + 4) ∷ []

abbrev pub moved_key : List ℕ → ℕ → ℕ → List ℕ
moved_key w i j = set w (key_at j) (word_at w (key_at i))

module _ (w : List ℕ) (i j : ℕ) where
  pub moved-sets : moved w i j ≡ sets (moved_key w i j) (row_at j) (row_of w i)
  unfolding moved
  moved-sets = five-set (moved_key w i j) _ (row_at j) _ _ _ _ _ (three-set (moved_key w i j) (row_at j) _ _ _)

  pub length_moved : length (moved w i j) ≡ length w
  length_moved = rw moved-sets (length-sets (moved_key w i j) (row_at j) (row_of w i) ∙ length-set w (key_at j) (word_at w (key_at i)))

  moved_out : (n : ℕ) → (n ≡ key_at j → ⊥) → ((m : ℕ) → m < 5 → n ≡ row_at j + m → ⊥) → word_at (moved w i j) n ≡ word_at w n
  moved_out n y r = rw moved-sets (sets-out (row_of w i) (moved_key w i j) (row_at j) n r ∙ other w (key_at j) n (word_at w (key_at i)) y)

  moved-entry : length w ≡ 1670 → j < 256 → entry_in (moved w i j) j ≡ entry_in w i
  moved-entry l h = entry-same (moved w i j) w j i
      (rw moved-sets (sets-out (row_of w i) (moved_key w i j) (row_at j) (key_at j) (λ m t e. omega arith) ∙ same w (key_at j) (word_at w (key_at i)) (omega arith)))
      at_row
    where
      long : row_at j + 5 ≤ length (moved_key w i j)
      long = omega (arith, length-set w (key_at j) (word_at w (key_at i)))

      row_word : (m : ℕ) → m < 5 → word_at (row_of w i) m ≡ word_at w (row_at i + m)
      row_word zero t = let e : row_at i + 0 ≡ row_at i = omega arith in rw e
      row_word (suc zero) t = refl
      row_word (suc (suc zero)) t = refl
      row_word (suc (suc (suc zero))) t = refl
      row_word (suc (suc (suc (suc zero)))) t = refl
      row_word (suc (suc (suc (suc (suc m))))) t = absurd (omega arith)

      at_row : (m : ℕ) → m < 5 → word_at (moved w i j) (row_at j + m) ≡ word_at w (row_at i + m)
      at_row m t = rw moved-sets (sets-in (row_of w i) (moved_key w i j) (row_at j) m long t ∙ row_word m t)

module _ (test : Entry → Bool) where
  swept-hit : (n : ℕ) (w : List ℕ) (i j : ℕ) → test (entry_in w i) ≡ true → swept test (suc n) w i j ≡ swept test n w (suc i) j
  unfolding swept
  swept-hit n w i j h = rw h

  swept-miss : (n : ℕ) (w : List ℕ) (i j : ℕ) → test (entry_in w i) ≡ false → swept test (suc n) w i j ≡ swept test n (moved w i j) (suc i) (suc j)
  unfolding swept
  swept-miss n w i j h = rw h

  -- u is w with the n properties from i on moved to j, but for those that pass the test
  record Swept (n : ℕ) (w : List ℕ) (i j : ℕ) (u : List ℕ) : Type 0 where
    size : length u ≡ 1670
    low : (m : ℕ) → m < 134 → (m ≡ 1 → ⊥) → word_at u m ≡ word_at w m
    count : word_at u 1 ≤ j + n
    properties : properties_of u ≡ tabulate (entry_in w) 0 j ++ excluding test (tabulate (entry_in w) i n)

  swept_none : (w : List ℕ) (i j : ℕ) → length w ≡ 1670 → Swept 0 w i j (set w 1 j)
  unfolding tabulate excluding
  swept_none w i j l =
      let u = set w 1 j in
      let e : word_at u 1 ≡ j = same w 1 j (omega arith) in
      let b : tabulate (entry_in u) 0 j ≡ tabulate (entry_in w) 0 j =
      tabulate-ext (entry_in u) (entry_in w) 0 j (λ m s t. entry-same u w m m (other w 1 _ j (λ q. omega arith)) (λ r q. other w 1 _ j (λ z. omega arith))) in
      record {
        size = length-set w 1 j ∙ l;
        low = λ m t z. other w 1 m j z;
        count = omega (arith, e);
        properties = rw (e, b, append-nil);
      }

  removed-hit : (w : List ℕ) (i n : ℕ) → test (entry_in w i) ≡ true
      → excluding test (tabulate (entry_in w) i (suc n)) ≡ excluding test (tabulate (entry_in w) (suc i) n)
  unfolding tabulate excluding
  removed-hit w i n t = rw t

  removed-miss : (w : List ℕ) (i n : ℕ) → test (entry_in w i) ≡ false
      → excluding test (tabulate (entry_in w) i (suc n)) ≡ entry_in w i ∷ excluding test (tabulate (entry_in w) (suc i) n)
  unfolding tabulate excluding
  removed-miss w i n t = rw t

  swept_all : (n : ℕ) (w : List ℕ) (i j : ℕ) → length w ≡ 1670 → j ≤ i → i + n ≤ 256 → Swept n w i j (swept test n w i j)
  unfolding swept
  swept_all zero w i j l h b = swept_none w i j l
  swept_all (suc n) w i j l h b =
      go (test (entry_in w i)) refl
      (swept_all n w (suc i) j l (omega arith) (omega arith))
      (swept_all n (moved w i j) (suc i) (suc j) (length_moved w i j ∙ l) (omega arith) (omega arith))
    where
      go : (t : Bool) → test (entry_in w i) ≡ t → Swept n w (suc i) j (swept test n w (suc i) j)
          → Swept n (moved w i j) (suc i) (suc j) (swept test n (moved w i j) (suc i) (suc j))
          → Swept (suc n) w i j (pick t (swept test n w (suc i) j) (swept test n (moved w i j) (suc i) (suc j)))
      go true t a c = record {
        size = a.size;
        low = a.low;
        count = omega (arith, a.count);
        properties = a.properties ∙ ap (◌++◌ (tabulate (entry_in w) 0 j)) (sym (removed-hit w i n t));
      }
      go false t a c =
          let v = moved w i j in
          let first : tabulate (entry_in v) 0 (suc j) ≡ tabulate (entry_in w) 0 j ++ (entry_in w i ∷ []) =
          one_more (entry_in v) j
          ∙ rw (tabulate-ext (entry_in v) (entry_in w) 0 j (λ m x y. entry-same v w m m (moved_out w i j _ (λ e. omega arith) (λ r q e. omega arith)) (λ r q. moved_out w i j _ (λ e. omega arith) (λ s u e. omega arith))), moved-entry w i j l (omega arith)) in
          let rest : tabulate (entry_in v) (suc i) n ≡ tabulate (entry_in w) (suc i) n =
          tabulate-ext (entry_in v) (entry_in w) (suc i) n (λ m x y. entry-same v w m m (moved_out w i j _ (λ e. omega arith) (λ r q e. omega arith)) (λ r q. moved_out w i j _ (λ e. omega arith) (λ s u e. omega arith))) in
          record {
            size = c.size;
            low = λ m x y. c.low m x y ∙ moved_out w i j m (λ e. omega arith) (λ r q e. omega arith);
            count = omega (arith, c.count);
            properties = c.properties ∙ rw (first, rest, append_assoc) (ap (◌++◌ (tabulate (entry_in w) 0 j)) (sym (removed-miss w i n t)));
          }

  module _ (w : List ℕ) (s : Sized w) where
    swept-store : Swept (word_at w 1) w 0 0 (without_rows test w)
    swept-store = swept_all (word_at w 1) w 0 0 s.size (omega arith) (omega (arith, s.properties))

    pub sized-without : Sized (without_rows test w)
    sized-without = let a = swept-store in sized-properties (without_rows test w) w a.low s a.size (omega (arith, a.count, s.properties))

    pub store-without : store_of (without_rows test w) ≡ with_properties (store_of w) (excluding test (store_of w).properties)
    unfolding store_of tabulate
    store-without = let a = swept-store in store-properties (without_rows test w) w a.low _ a.properties

-- Release -------------------------------------------------------------------------------

module _ (w : List ℕ) (s : Sized w) (o : ℕ) (h : o < 32) where
  abbrev unmarked : List ℕ
  unmarked = set w 3 (with_bit (word_at w 3) o false)

  unmarked-out : (j : ℕ) → (j ≡ 3 → ⊥) → word_at unmarked j ≡ word_at w j
  unmarked-out j z = other w 3 j (with_bit (word_at w 3) o false) z

  unmarked-live : word_at unmarked 3 ≡ with_bit (word_at w 3) o false
  unmarked-live = same w 3 (with_bit (word_at w 3) o false) (omega (arith, s.size))

  pub sized-unmarked : Sized unmarked
  sized-unmarked = record {
    size = length-set w 3 (with_bit (word_at w 3) o false) ∙ s.size;
    made = rw (unmarked-out 0 (λ e. omega arith)) s.made;
    properties = rw (unmarked-out 1 (λ e. omega arith)) s.properties;
    live = rw unmarked-live (with-below (word_at w 3) o 32 false h s.live);
    released = rw (unmarked-out 4 (λ e. omega arith)) s.released;
  }

  abbrev after_unmarked : Store → Store
  after_unmarked σ = record { objects = set σ.objects o None; made = σ.made; released = σ.released; callable = σ.callable; properties = σ.properties }

  store-unmarked : store_of unmarked ≡ after_unmarked (store_of w)
  unfolding store_of slot_in
  store-unmarked =
      let u = unmarked in
      store_by u _
      (objects-set u w o None h
      (rw (unmarked-live, bit-set (word_at w 3) o false))
      (λ j r. ap (λ (n : ℕ). bit n j) unmarked-live ∙ bit_kept (word_at w 3) o j false r)
      (λ j m l r t. unmarked-out _ (λ e. omega arith)))
      (unmarked-out 0 (λ e. omega arith))
      (released-same u w (unmarked-out 4 (λ e. omega arith)) (unmarked-out 5 (λ e. omega arith)) (λ m a b. unmarked-out m (λ e. omega arith)))
      (unmarked-out 2 (λ e. omega arith))
      (properties-same u w (unmarked-out 1 (λ e. omega arith)) (λ m l. unmarked-out m (λ e. omega arith)))

  abbrev disowned : List ℕ
  disowned = without_rows (is_owned_by o) unmarked

  pub sized-without-object : Sized (without_object w o)
  unfolding without_object
  sized-without-object = sized-released disowned (sized-without (is_owned_by o) unmarked sized-unmarked) o h

  pub store-without-object : store_of (without_object w o) ≡ release (store_of w) o
  unfolding without_object release
  store-without-object =
      store-released disowned (sized-without (is_owned_by o) unmarked sized-unmarked) o h
      ∙ ap (after_released o) (store-without (is_owned_by o) unmarked sized-unmarked)
      ∙ ap (λ (σ : Store). after_released o (with_properties σ (excluding (is_owned_by o) σ.properties))) store-unmarked

-- An empty store ------------------------------------------------------------------------

none-live : (f : ℕ → Option Object) (i n : ℕ) → ((j : ℕ) → f j ≡ None) → tabulate f i n ≡ replicate n None
unfolding tabulate
none-live f i zero h = refl
none-live f i (suc n) h = rw (h i, none-live f (suc i) n h)

module _ (w : List ℕ) (l : length w ≡ 1670) where
  abbrev cleared : List ℕ
  cleared = sets w 0 (0 ∷ 0 ∷ 0 ∷ 0 ∷ 0 ∷ 0 ∷ [])

  zero-at : (m : ℕ) → m < 6 → word_at cleared (0 + m) ≡ word_at (0 ∷ 0 ∷ 0 ∷ 0 ∷ 0 ∷ 0 ∷ []) m
  zero-at m h = sets-in (0 ∷ 0 ∷ 0 ∷ 0 ∷ 0 ∷ 0 ∷ []) w 0 m (omega arith) h

  pub sized-empty : Sized cleared
  sized-empty = record {
    size = length-sets w 0 (0 ∷ 0 ∷ 0 ∷ 0 ∷ 0 ∷ 0 ∷ []) ∙ l;
    made = rw (zero-at 0 (omega arith)) (omega arith);
    properties = rw (zero-at 1 (omega arith)) (omega arith);
    live = rw (zero-at 3 (omega arith)) (omega arith);
    released = rw (zero-at 4 (omega arith)) (omega arith);
  }

  pub cleared-filled : (zeros : List ℕ) → zeros ≡ replicate 6 0 → zeros ++ drop 6 w ≡ cleared
  cleared-filled zeros e = rw e (sym (sets-eq (0 ∷ 0 ∷ 0 ∷ 0 ∷ 0 ∷ 0 ∷ []) w 0 (omega arith)))

  slot-empty : (o : ℕ) → slot_in cleared o ≡ None
  unfolding slot_in
  slot-empty o = let z : word_at cleared 3 ≡ 0 = zero-at 3 (omega arith) in rw (z, zero-div (2 ^ o))

  pub store-empty : store_of cleared ≡ empty.store
  unfolding tabulate
  store-empty =
      let n : word_at cleared 1 ≡ 0 = zero-at 1 (omega arith) in
      let r : word_at cleared 4 ≡ 0 = zero-at 4 (omega arith) in
      store_by cleared _ (none-live (slot_in cleared) 0 32 slot-empty) (zero-at 0 (omega arith)) (rw r) (zero-at 2 (omega arith)) (rw n)

-- Each write, whole ---------------------------------------------------------------------

module _ (w : List ℕ) (s : is_store w ≡ true) where
  becomes : (u : List ℕ) (σ : Store) → Sized u → store_of u ≡ σ → Becomes u u σ
  becomes u σ z e = record { words = refl; store = e; kept = is-store u z }

  pub becomes-object : (o : ℕ) (x : Object) → bit (word_at w 3) o ≡ true → FitsObject x → Becomes (with_object w o x) (with_object w o x) (put (store_of w) o x)
  becomes-object o x h f = becomes _ _ (sized-object w (sized w s) o x) (store-object w (sized w s) o x h f)

  pub becomes-new-object : (x : Object) (b : Bool) → live_count (store_of w) < 32 → FitsObject x → Becomes (with_new_object w x b) (with_new_object w x b) (add (store_of w) x b)
  becomes-new-object x b h f = becomes _ _ (sized-new-object w (sized w s) x b h) (store-new-object w (sized w s) x b h f)

  pub becomes-row : (i : ℕ) (p : Property) → i < word_at w 1 → FitsProperty p → Becomes (with_row w i p) (with_row w i p) (with_change (store_of w) i p)
  becomes-row i p h f = becomes _ _ (sized_row w (sized w s) i p h) (store-row w (sized w s) i p h f)

  pub becomes-new-row : (o : ℕ) (k : PropertyKey) (p : Property) → New w o k → FitsProperty p
      → Becomes (with_new_row w o k p) (with_new_row w o k p) (with_property (store_of w) o k p)
  becomes-new-row o k p h f =
      becomes _ _ (sized-new-row w (sized w s) o k p h.room) (store-new-row w (sized w s) o k p h.room h.joins.owner f h.absent)

  pub becomes-without : (o : ℕ) (k : PropertyKey) → Becomes (without_row w o k) (without_row w o k) (without_property (store_of w) o k)
  unfolding without_row without_property remove
  becomes-without o k = becomes _ _ (sized-without (λ (e : Entry). is_at e o k) w (sized w s)) (store-without (λ (e : Entry). is_at e o k) w (sized w s))

  pub becomes-released : (o : ℕ) → bit (word_at w 3) o ≡ true → Becomes (without_object w o) (without_object w o) (release (store_of w) o)
  becomes-released o h = let l = live_below w (sized w s) o h in becomes _ _ (sized-without-object w (sized w s) o l) (store-without-object w (sized w s) o l)

pub became : {after expected : List ℕ} {σ : Store} → after ≡ expected → Becomes expected expected σ → Becomes after expected σ
became e b = record { words = e; store = ap store_of e ∙ b.store; kept = ap is_store e ∙ b.kept }

-- The code's words ----------------------------------------------------------------------

pub head-ordinary : (b : Bool) → weight b 1 ≡ cond b 1 0
head-ordinary true = refl
head-ordinary false = refl

pub head-proxy : (b : Bool) → 2 + weight b 1 ≡ cond b 3 2
head-proxy true = refl
head-proxy false = refl

pub fits-words : (v : Value) (k p : ℕ) → k ≡ kind_of v → p ≡ payload_of v → value_of k p ≡ v → Fits v
fits-words v k p a b e = record { again = rw (sym a, sym b) e }

pub fits-undefined : Fits Undefined
unfolding value_of payload_of
fits-undefined = record { again = refl }

pub undefined-payload : 0 ≡ payload_of Undefined
unfolding payload_of
undefined-payload = refl

pub object-stored : (w u : List ℕ) (o : ℕ) (x : Object) (r : ObjectWords) → ObjectCells x r → u ≡ sets w (object_at o) (r.head ∷ r.first ∷ r.second ∷ []) → u ≡ with_object w o x
object-stored w u o x r h e = e ∙ rw (h.head, h.first, h.second) (sym (object-sets w o x))

pub row-stored : (w u : List ℕ) (i : ℕ) (p : Property) (r : PropertyWords) → PropertyCells p r → u ≡ sets w (row_at i) (cells_of r) → u ≡ with_row w i p
row-stored w u i p r h e = e ∙ rw (h.flags, h.kind, h.payload, h.second-kind, h.second-payload) (sym (row-sets w i p))

pub live-stored : (w u : List ℕ) (o : ℕ) (x : Object) (b : Bool) (m l : ℕ) → u ≡ with_object w o x
    → m ≡ with_bit (word_at u 2) o b → l ≡ with_bit (word_at (set u 2 m) 3) o true → set (set u 2 m) 3 l ≡ with_live_object w o x b
unfolding with_live_object
live-stored w u o x b m l e d f =
    let live : word_at (set u 2 m) 3 ≡ word_at w 3 = other u 2 3 m (λ q. omega arith) ∙ (ap (λ (v : List ℕ). word_at v 3) e ∙ object-out w o x 3 (λ r t q. omega arith)) in
    let callable : word_at u 2 ≡ word_at w 2 = ap (λ (v : List ℕ). word_at v 2) e ∙ object-out w o x 2 (λ r t q. omega arith) in
    rw (f, live, d, callable, e)

pub new-object-stored : (w u v : List ℕ) (n : ℕ) (x : Object) (b : Bool) → n ≡ next_in w → u ≡ with_live_object w n x b → v ≡ with_number_taken u → v ≡ with_new_object w x b
unfolding with_new_object
new-object-stored w u v n x b e f g = rw (g, f, e)

module _ (w : List ℕ) where
  pub unused-taken : word_at w 4 ≡ 0 → set w 0 (word_at w 0 + 1) ≡ with_number_taken w
  unfolding with_number_taken
  unused-taken e = rw (eq-eqb (word_at w 4) 0 e, add-one)

  pub released-taken : (word_at w 4 ≡ 0 → ⊥) → set (set w 5 ((word_at w 5 % 32 + 1) % 32)) 4 (word_at w 4 - 1) ≡ with_number_taken w
  unfolding with_number_taken
  released-taken h =
      let e : (word_at w 5 % 32 + 1) % 32 ≡ (word_at w 5 + 1) % 32 = omega arith in
      rw (ne_eqb (word_at w 4) 0 h, e)

  pub number-queued : (o : ℕ) → word_at w 4 < 32 → set (set w (6 + (word_at w 5 % 32 + word_at w 4) % 32) o) 4 (word_at w 4 + 1) ≡ with_number_released w o
  unfolding with_number_released
  number-queued o h =
      let e : (word_at w 5 % 32 + word_at w 4) % 32 ≡ (word_at w 5 + word_at w 4) % 32 = omega arith in
      rw (lt-ltb (word_at w 4) 32 h, e, add-one)

  pub number-left : (o : ℕ) → 32 ≤ word_at w 4 → w ≡ with_number_released w o
  unfolding with_number_released
  number-left o h = rw (le-ltb (word_at w 4) 32 h)

pub released-stored : (w u v : List ℕ) (o m : ℕ) → m ≡ with_bit (word_at w 3) o false → u ≡ without_rows (is_owned_by o) (set w 3 m) → v ≡ with_number_released u o → v ≡ without_object w o
unfolding without_object
released-stored w u v o m e f g = rw (g, f, e)

pub new-row-stored : (w u : List ℕ) (o : ℕ) (k : PropertyKey) (p : Property) (key : ℕ) → key ≡ key_word o k
    → u ≡ with_row (set w (key_at (word_at w 1)) key) (word_at w 1) p → set u 1 (word_at w 1 + 1) ≡ with_new_row w o k p
unfolding with_new_row
new-row-stored w u o k p key d e = rw (e, d, add-one)

-- a turn of the sweep, and its end
module _ (test : Entry → Bool) (w : List ℕ) (i n j : ℕ) where
  module _ (h : i < n) where
    pub turn-hit : test (entry_in w i) ≡ true → swept test (n - i) w i j ≡ swept test (n - (i + 1)) w (i + 1) j
    turn-hit t =
        let z : n - i ≡ suc (n - (i + 1)) = omega arith in
        let y : i + 1 ≡ suc i = omega arith in
        rw z (swept-hit test _ w i j t ∙ rw y)

    pub turn-miss : test (entry_in w i) ≡ false → swept test (n - i) w i j ≡ swept test (n - (i + 1)) (moved w i j) (i + 1) (j + 1)
    turn-miss t =
        let z : n - i ≡ suc (n - (i + 1)) = omega arith in
        let y : i + 1 ≡ suc i = omega arith in
        let x : j + 1 ≡ suc j = omega arith in
        rw z (swept-miss test _ w i j t ∙ rw (y, x))

  pub turn_end : n ≤ i → swept test (n - i) w i j ≡ set w 1 j
  unfolding swept
  turn_end h = let z : n - i ≡ 0 = omega arith in rw z

pub moved-size : (w u : List ℕ) (i j n : ℕ) → u ≡ moved w i j → length w ≡ n → length u ≡ n
moved-size w u i j n e h = rw e (length_moved w i j ∙ h)

not-not : (b : Bool) → not (not b) ≡ b
not-not true = refl
not-not false = refl

-- whether an entry is the property, or the object's, by its key word
module _ (w : List ℕ) (i o : ℕ) (b : Bool) where
  pub other-key : (k : PropertyKey) (key : ℕ) → o < 32 → key ≡ key_word o k → b ≡ not (eqb (word_at w (key_at i)) key) → is_at (entry_in w i) o k ≡ not b
  other-key k key h e q = at-word w i o k h ∙ rw (q, e) (sym (not-not (eqb (word_at w (key_at i)) (key_word o k))))

  pub other-owner : b ≡ not (eqb (word_at w (key_at i) % 32) o) → is_owned_by o (entry_in w i) ≡ not b
  unfolding entry_in
  other-owner q = rw q (sym (not-not (eqb (word_at w (key_at i) % 32) o)))

-- What the check is to try --------------------------------------------------------------

pub ruleset numbers = (unused-taken, released-taken, number-queued, number-left)

pub ruleset properties = (sized, length-set, five-set, fits-words, fits-undefined, undefined-payload, becomes-row, became, length-keyed)

pub ruleset objects = (sized, property-length, live_below, length-set, three-set, head-ordinary, head-proxy, fits-words, length-object, live-stored, becomes-object, became)
