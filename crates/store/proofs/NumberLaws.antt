-- Numbers of objects: those in use, those released, and what making and releasing do to them. Assumes nothing.
use Rattle.std.specs.Prelude.{Option, None, Some}
use Prim.Native.Nat.{ℕ, zero, suc, ◌+◌, ◌-◌, ◌≤◌, ◌<◌}
use native.Mathlib.Omega.{arith}
use mathlib.Core.Path.{◌≡◌, refl, sym, ap, ◌∙◌}
use mathlib.Core.Bool.{Bool, true, false, false≢true, true≢false}
use mathlib.Core.List.{List, [], ◌∷◌, ◌++◌, map}
use lib.Dec.{eqb, ltb}
use lib.ListN.{length, get_or, set, length-set, length-map, length-append, get_or-map}
use lib.Seq.{get_or-set_other}
use borrow.Author.Tests.{eqb-true, eqb-false, ltb-true, ltb-false, lt-ltb}
use Rattle.value.specs.Bits.{weight}
use Rattle.store.specs.declared.Object.{Object}
use Rattle.store.specs.declared.Entry.{Entry}
use Rattle.store.specs.Store.{Store, empty, lookup, put, first_or, rest, made_with, next_number, live_count, add, is_live, with_properties}
use Rattle.store.specs.Release.{queued, release}
use Rattle.store.proofs.StoreLaws.{Fresh, lookup-empty}

-- how many are set
unfoldable pub count : List Bool → ℕ
count [] = 0
count (b ∷ bs) = weight b 1 + count bs

abbrev is_set : List Bool → ℕ → Bool
is_set fs o = get_or fs o false

-- o is none of the numbers
pub data Outside (o : ℕ) : List ℕ → Type 0 where
  nil : Outside o []
  cons : {q : ℕ} {os : List ℕ} → eqb o q ≡ false → Outside o os → Outside o (q ∷ os)

-- the numbers were in use, none of them is set, and no two of them are one
data Free (fs : List Bool) (made : ℕ) : List ℕ → Type 0 where
  nil : Free fs made []
  cons : {o : ℕ} {os : List ℕ} → o < made → is_set fs o ≡ false → Outside o os → Free fs made os → Free fs made (o ∷ os)

-- which numbers have an object, how many have had one, and which are free again: what is so of these in every run
record Numbering (fs : List Bool) (made : ℕ) (released : List ℕ) : Type 0 where
  size : length fs ≡ 32
  below : made ≤ 32
  unused : (o : ℕ) → made ≤ o → is_set fs o ≡ false
  free : Free fs made released
  counted : count fs + length released ≡ made

abbrev marks_of : Store → List Bool
marks_of σ = map is_live σ.objects

pub record Numbered (σ : Store) : Type 0 where
  numbering : Numbering (marks_of σ) σ.made σ.released

-- the same numbers have objects, and the next ones are the same
pub record SameNumbers (σ τ : Store) : Type 0 where
  marks : marks_of τ ≡ marks_of σ
  made : τ.made ≡ σ.made
  released : τ.released ≡ σ.released

pub same_refl : (σ : Store) → SameNumbers σ σ
same_refl σ = record { marks = refl; made = refl; released = refl }

pub same-properties : (σ : Store) (es : List Entry) → SameNumbers σ (with_properties σ es)
same-properties σ es = record { marks = refl; made = refl; released = refl }

pub same-trans : {σ τ υ : Store} → SameNumbers σ τ → SameNumbers τ υ → SameNumbers σ υ
same-trans f g = record { marks = g.marks ∙ f.marks; made = g.made ∙ f.made; released = g.released ∙ f.released }

pub numbered-same : {σ τ : Store} → SameNumbers σ τ → Numbered σ → Numbered τ
numbered-same {σ} {τ} s h = record { numbering = rw (s.marks, s.made, s.released) h.numbering }

-- Marks ---------------------------------------------------------------------------------

live-set : (σ : Store) (o : ℕ) → is_set (marks_of σ) o ≡ is_live (lookup σ o)
unfolding lookup
live-set σ o = get_or-map is_live σ.objects o None

-- the same objects are live
pub same_live : {σ τ : Store} → SameNumbers σ τ → (o : ℕ) → is_live (lookup τ o) ≡ is_live (lookup σ o)
same_live {σ} {τ} s o = sym (live-set τ o) ∙ (ap (λ (fs : List Bool). is_set fs o) s.marks ∙ live-set σ o)

map-set : (xs : List (Option Object)) (o : ℕ) (x : Option Object) → map is_live (set xs o x) ≡ set (map is_live xs) o (is_live x)
map-set [] o x = refl
map-set (y ∷ xs) zero x = refl
map-set (y ∷ xs) (suc o) x = ap (λ (fs : List Bool). is_live y ∷ fs) (map-set xs o x)

set-again : (fs : List Bool) (o : ℕ) → is_set fs o ≡ true → set fs o true ≡ fs
set-again [] o h = refl
set-again (f ∷ fs) zero h = rw h
set-again (f ∷ fs) (suc o) h = ap (λ (gs : List Bool). f ∷ gs) (set-again fs o h)

-- an object that was there is now another
pub same-put : (σ : Store) (o : ℕ) (x y : Object) → lookup σ o ≡ Some x → SameNumbers σ (put σ o y)
unfolding put
same-put σ o x y e = record {
  marks = map-set σ.objects o (Some y) ∙ set-again (marks_of σ) o (live-set σ o ∙ ap is_live e);
  made = refl;
  released = refl;
}

count_set : (fs : List Bool) (o : ℕ) → o < length fs → is_set fs o ≡ false → count (set fs o true) ≡ suc (count fs)
unfolding count
count_set [] o l h = absurd (omega (arith, l))
count_set (f ∷ fs) zero l h = rw h (omega arith)
count_set (f ∷ fs) (suc o) l h = let e = count_set fs o (omega (arith, l)) h in rw e (omega arith)

count-clear : (fs : List Bool) (o : ℕ) → is_set fs o ≡ true → suc (count (set fs o false)) ≡ count fs
unfolding count
count-clear [] o h = absurd (false≢true h)
count-clear (f ∷ fs) zero h = rw h (omega arith)
count-clear (f ∷ fs) (suc o) h = let e = count-clear fs o h in rw (← e) (omega arith)

-- Free numbers --------------------------------------------------------------------------

other : (fs : List Bool) (o q : ℕ) (b : Bool) → eqb o q ≡ false → is_set (set fs o b) q ≡ is_set fs q
other fs o q b h = get_or-set_other fs o q b false (λ e. eqb-false o q h (sym e))

unset : (fs : List Bool) (o q : ℕ) → is_set fs q ≡ false → is_set (set fs o false) q ≡ false
unset [] o q h = h
unset (f ∷ fs) zero zero h = refl
unset (f ∷ fs) zero (suc q) h = h
unset (f ∷ fs) (suc o) zero h = h
unset (f ∷ fs) (suc o) (suc q) h = unset fs o q h

free-set : (fs : List Bool) (made o : ℕ) (os : List ℕ) → Outside o os → Free fs made os → Free (set fs o true) made os
free-set fs made o _ nil nil = nil
free-set fs made o _ (cons h hs) (cons {o = q} l u a f) = cons l (other fs o q true h ∙ u) a (free-set fs made o _ hs f)

outside-append : (q o : ℕ) (os : List ℕ) → eqb q o ≡ false → Outside q os → Outside q (os ++ (o ∷ []))
outside-append q o _ h nil = cons h nil
outside-append q o _ h (cons i a) = cons i (outside-append q o _ h a)

cleared : (fs : List Bool) (o : ℕ) → is_set fs o ≡ true → is_set (set fs o false) o ≡ false
cleared [] o h = absurd (false≢true h)
cleared (f ∷ fs) zero h = refl
cleared (f ∷ fs) (suc o) h = cleared fs o h

-- one number is set, and the other is not
apart : (fs : List Bool) (q o : ℕ) → is_set fs q ≡ false → is_set fs o ≡ true → eqb q o ≡ false
apart fs q o u h = go (eqb q o) refl
  where
    go : (t : Bool) → eqb q o ≡ t → eqb q o ≡ false
    go false e = e
    go true e = absurd (false≢true (sym u ∙ (ap (is_set fs) (eqb-true q o e) ∙ h)))

-- a number that was set comes last
free-append : (fs : List Bool) (made o : ℕ) (os : List ℕ) → o < made → is_set fs o ≡ true → Free fs made os → Free (set fs o false) made (os ++ (o ∷ []))
free-append fs made o _ l h nil = cons l (cleared fs o h) nil nil
free-append fs made o _ l h (cons {o = q} m u a f) = cons m (unset fs o q u) (outside-append q o _ (apart fs q o u h) a) (free-append fs made o _ l h f)

less-apart : (a b : ℕ) → a < b → eqb a b ≡ false
less-apart a b l = go (eqb a b) refl
  where
    go : (t : Bool) → eqb a b ≡ t → eqb a b ≡ false
    go false e = e
    go true e = absurd (omega (arith, l, eqb-true a b e))

-- Making --------------------------------------------------------------------------------

module _ {fs : List Bool} {made : ℕ} where
  -- the next number has no object
  next-free : (released : List ℕ) → Numbering fs made released → made - length released < 32 → (first_or made released < 32) × (is_set fs (first_or made released) ≡ false)
  next-free [] n h = (omega (arith, h), n.unused made (omega arith))
  next-free (o ∷ os) n h = go n.free
    where
      go : Free fs made (o ∷ os) → (o < 32) × (is_set fs o ≡ false)
      go (cons l u a f) = (omega (arith, l, n.below), u)

  numbering-add : (released : List ℕ) → Numbering fs made released → made - length released < 32 → Numbering (set fs (first_or made released) true) (made_with made released) (rest released)
  numbering-add [] n h = record {
    size = length-set fs made true ∙ n.size;
    below = omega (arith, h);
    unused = λ o l. other fs made o true (less-apart made o (omega (arith, l))) ∙ n.unused o (omega (arith, l));
    free = nil;
    counted = rw (count_set fs made (omega (arith, n.size, h)) (n.unused made (omega arith))) (omega (arith, n.counted));
  }
  numbering-add (o ∷ os) n h = go n.free
    where
      go : Free fs made (o ∷ os) → Numbering (set fs o true) made os
      go (cons l u a f) = record {
        size = length-set fs o true ∙ n.size;
        below = n.below;
        unused = λ q m. other fs o q true (less-apart o q (omega (arith, l, m))) ∙ n.unused q m;
        free = free-set fs made o os a f;
        counted = rw (count_set fs o (omega (arith, n.size, l, n.below)) u) (omega (arith, n.counted));
      }

  -- Releasing ---------------------------------------------------------------------------

  in_use : {released : List ℕ} → Numbering fs made released → (o : ℕ) → is_set fs o ≡ true → o < made
  in_use n o h = go (ltb o made) refl
    where
      go : (t : Bool) → ltb o made ≡ t → o < made
      go true e = ltb-true o made e
      go false e = absurd (false≢true (sym (n.unused o (ltb-false o made e)) ∙ h))

  -- fewer than 32 are free again while one has an object
  few : {released : List ℕ} → Numbering fs made released → (o : ℕ) → is_set fs o ≡ true → length released < 32
  few n o h = omega (arith, n.counted, n.below, count-clear fs o h)

  numbering-release : (released : List ℕ) → Numbering fs made released → (o : ℕ) → is_set fs o ≡ true → Numbering (set fs o false) made (queued released o)
  numbering-release released n o h = rw (lt-ltb (length released) 32 (few n o h)) (record {
    size = length-set fs o false ∙ n.size;
    below = n.below;
    unused = λ q m. unset fs o q (n.unused q m);
    free = free-append fs made o released (in_use n o h) h n.free;
    counted = rw (length-append released (o ∷ [])) (omega (arith, n.counted, count-clear fs o h));
  })

-- Stores --------------------------------------------------------------------------------

-- one more object finds its number free
pub numbered-fresh : (σ : Store) → Numbered σ → live_count σ < 32 → Fresh σ
numbered-fresh σ n h =
    let (l, u) = next-free σ.released n.numbering h in
    record { within = omega (arith, l, length-map σ.objects is_live, n.numbering.size); free = none-live (lookup σ (next_number σ)) (sym (live-set σ (next_number σ)) ∙ u) }
  where
    none-live : (x : Option Object) → is_live x ≡ false → x ≡ None
    none-live None e = refl
    none-live (Some x) e = absurd (true≢false e)

pub numbered-add : (σ : Store) → Numbered σ → live_count σ < 32 → (x : Object) (b : Bool) → Numbered (add σ x b)
unfolding add
numbered-add σ n h x b = record { numbering = rw (map-set σ.objects (next_number σ) (Some x)) (numbering-add σ.released n.numbering h) }

pub numbered-release : (σ : Store) → Numbered σ → (o : ℕ) (x : Object) → lookup σ o ≡ Some x → Numbered (release σ o)
unfolding release
numbered-release σ n o x e = record { numbering = rw (map-set σ.objects o None) (numbering-release σ.released n.numbering o (live-set σ o ∙ ap is_live e)) }

pub numbered-empty : Numbered empty.store
unfolding count
numbered-empty = record { numbering = record { size = refl; below = omega arith; unused = λ o l. none-set o; free = nil; counted = refl } }
  where
    none-set : (o : ℕ) → is_set (marks_of empty.store) o ≡ false
    none-set o = live-set empty.store o ∙ ap is_live (lookup-empty o)

-- How many are live ---------------------------------------------------------------------

-- as many as have an object
pub live-counted : (σ : Store) → Numbered σ → live_count σ ≡ count (map is_live σ.objects)
live-counted σ n = omega (arith, n.numbering.counted)

-- In which order numbers come back ------------------------------------------------------

pub same-released : {σ τ : Store} → SameNumbers σ τ → τ.released ≡ σ.released
same-released s = s.released

-- the number of a live object is not among those released
pub live-outside : (σ : Store) → Numbered σ → (o : ℕ) (x : Object) → lookup σ o ≡ Some x → Outside o σ.released
live-outside σ n o x e = go _ n.numbering.free
  where
    set : is_set (marks_of σ) o ≡ true
    set = live-set σ o ∙ ap is_live e

    back : (q : ℕ) (t : Bool) → eqb o q ≡ t → is_set (marks_of σ) q ≡ false → eqb o q ≡ false
    back q false h u = h
    back q true h u = absurd (true≢false (sym set ∙ (ap (is_set (marks_of σ)) (eqb-true o q h) ∙ u)))

    go : (os : List ℕ) → Free (marks_of σ) σ.made os → Outside o os
    go _ nil = nil
    go _ (cons {o = q} l u a f) = cons (back q (eqb o q) refl u) (go _ f)

-- a number that is released comes last
pub released-last : (σ : Store) → Numbered σ → (o : ℕ) (x : Object) → lookup σ o ≡ Some x → (release σ o).released ≡ σ.released ++ (o ∷ [])
unfolding release
released-last σ n o x e = rw (lt-ltb (length σ.released) 32 (few n.numbering o (live-set σ o ∙ ap is_live e)))

-- and the next object takes the first of them
pub next-first : (σ : Store) (x : Object) (b : Bool) (o : ℕ) (os : List ℕ) → σ.released ≡ o ∷ os → (next_number σ ≡ o) × ((add σ x b).released ≡ os)
unfolding add
next-first σ x b o os e = (rw e, rw e)
