-- Steps 17 to 22 over records: the turns of the check, which goes through the target's keys twice. Assumes nothing.
use Rattle.std.specs.Prelude.{Option, None, Some}
use Prim.Native.Nat.{ℕ, suc, ◌+◌, ◌<◌, ◌≤◌}
use native.Mathlib.Omega.{arith}
use native.Mathlib.Numerals.{add-one}
use mathlib.Core.Path.{◌≡◌, refl, sym, ap, ◌∙◌}
use mathlib.Core.Bool.{Bool, true, false, not, ◌&&◌, beq, cond, false≢true}
use mathlib.Core.List.{List, [], ◌∷◌, ◌++◌, map}
use lib.Dec.{eqb}
use lib.ListN.{length, get_or, take, drop, set}
use lib.Seq.{length-take-le, take-suc, take-suc-set}
use borrow.Author.Tests.{ne_eqb, not-true, not-false}
use Rattle.value.specs.declared.PropertyKey.{PropertyKey}
use Rattle.store_read.specs.Answers.{key_from_word}
use Rattle.internal_methods.specs.KeyList.{has_key, without_key, is_empty, checked_off, Sorted, remaining, required, rejected}
use Rattle.internal_methods.specs.Proxy.{sorted_by}
use Rattle.std.proofs.lemmas.List.{drop_more, drop_all}
use Rattle.key_lists.specs.KeyWords.{sorted_from}
use Rattle.key_lists.specs.Unchecked.{checked_mark, unchecked, unless_missing}
use Rattle.key_lists.specs.declared.target_keys.TargetKey.{TargetKey}
use Rattle.key_lists.specs.Records.{sorted_keys, records_of}

-- those of the keys that count as configurable, or those that do not
unfoldable pub marked_keys : Bool → List TargetKey → List PropertyKey
marked_keys b [] = []
marked_keys b (t ∷ ts) = cond (beq t.configurable b) (key_from_word t.key ∷ marked_keys b ts) (marked_keys b ts)

-- what is left of the check before key i of those that are not configurable, and then of those that are
abbrev pub first_left : Bool → List TargetKey → ℕ → List PropertyKey → Option ℕ
first_left x ts i us = required x (marked_keys true ts) (checked_off (marked_keys false (drop i ts)) us)

abbrev pub second_left : List TargetKey → ℕ → List PropertyKey → Option ℕ
second_left ts i us = remaining (checked_off (marked_keys true (drop i ts)) us)

-- One key ---------------------------------------------------------------------------------------

checked-more : (k : PropertyKey) (ks us vs : List PropertyKey) → Some vs ≡ checked_off (k ∷ []) us → checked_off (k ∷ ks) us ≡ checked_off ks vs
unfolding checked_off
checked-more k ks us vs h = go (has_key k us) h
  where
    go : (b : Bool) → Some vs ≡ cond b (Some (without_key k us)) None → cond b (checked_off ks (without_key k us)) None ≡ checked_off ks vs
    go true h = let e : without_key k us ≡ vs = cc in rw e
    go false h = absurd (false≢true cc)

checked-missing : (k : PropertyKey) (ks us : List PropertyKey) → None ≡ checked_off (k ∷ []) us → checked_off (k ∷ ks) us ≡ None
unfolding checked_off
checked-missing k ks us h = go (has_key k us) h
  where
    go : (b : Bool) → None ≡ cond b (Some (without_key k us)) None → cond b (checked_off ks (without_key k us)) None ≡ None
    go true h = absurd (false≢true cc)
    go false h = refl

-- The keys, one by one -------------------------------------------------------------------------

-- what stands past the end
abbrev no_key : TargetKey
no_key = record { key = 0; configurable = false }

module _ (ts : List TargetKey) (i : ℕ) (l : i < length ts) where
  abbrev t : TargetKey
  t = get_or ts i no_key

  next-key : (b : Bool) → marked_keys b (drop i ts) ≡ cond (beq t.configurable b) (key_from_word t.key ∷ marked_keys b (drop (i + 1) ts)) (marked_keys b (drop (i + 1) ts))
  unfolding marked_keys
  next-key b = rw (drop_more ts i no_key l)

  module _ (us vs : List PropertyKey) (r : Bool) (h : unless_missing r vs ≡ checked_off (key_from_word t.key ∷ []) us) where
    off : (ks : List PropertyKey) → r ≡ true → checked_off (key_from_word t.key ∷ ks) us ≡ checked_off ks vs
    off ks q = checked-more (key_from_word t.key) ks us vs (rw q at h)

    missing : (ks : List PropertyKey) → r ≡ false → checked_off (key_from_word t.key ∷ ks) us ≡ None
    missing ks q = checked-missing (key_from_word t.key) ks us (rw q at h)

    pub first-off : (x : Bool) → t.configurable ≡ false → r ≡ true → first_left x ts i us ≡ first_left x ts (i + 1) vs
    first-off x c q = rw (next-key false, c, off (marked_keys false (drop (i + 1) ts)) q)

    pub first-missing : (x : Bool) → t.configurable ≡ false → r ≡ false → first_left x ts i us ≡ Some 24
    first-missing x c q = rw (next-key false, c, missing (marked_keys false (drop (i + 1) ts)) q)

    pub second-off : t.configurable ≡ true → r ≡ true → second_left ts i us ≡ second_left ts (i + 1) vs
    second-off c q = rw (next-key true, c, off (marked_keys true (drop (i + 1) ts)) q)

    pub second-missing : t.configurable ≡ true → r ≡ false → second_left ts i us ≡ Some 25
    second-missing c q = rw (next-key true, c, missing (marked_keys true (drop (i + 1) ts)) q)

  module _ (us : List PropertyKey) where
    pub first-skip : (x : Bool) → t.configurable ≡ true → first_left x ts i us ≡ first_left x ts (i + 1) us
    first-skip x c = rw (next-key false, c)

    pub second-skip : t.configurable ≡ false → second_left ts i us ≡ second_left ts (i + 1) us
    second-skip c = rw (next-key true, c)

module _ (ts : List TargetKey) (i : ℕ) (h : length ts ≤ i) (us : List PropertyKey) where
  pub first-over : (x : Bool) → x ≡ true → first_left x ts i us ≡ None
  unfolding checked_off marked_keys
  first-over x e = rw (drop_all i ts h, e)

  pub first-done : (x : Bool) → x ≡ false → first_left x ts i us ≡ second_left ts 0 us
  unfolding checked_off marked_keys
  first-done x e = rw (drop_all i ts h, e)

  module _ (b : Bool) (q : b ≡ not (is_empty us)) where
    pub some-left : b ≡ true → second_left ts i us ≡ Some 26
    unfolding checked_off marked_keys
    some-left e = let k : is_empty us ≡ false = not-true _ (sym q ∙ e) in rw (drop_all i ts h, k)

    pub all-found : b ≡ false → second_left ts i us ≡ None
    unfolding checked_off marked_keys
    all-found e = let k : is_empty us ≡ true = not-false _ (sym q ∙ e) in rw (drop_all i ts h, k)

-- The whole check -------------------------------------------------------------------------------------

sorted-marked : (ts : List TargetKey) → ((sorted_keys ts).configurable ≡ marked_keys true ts) × ((sorted_keys ts).nonconfigurable ≡ marked_keys false ts)
unfolding sorted_keys marked_keys
sorted-marked [] = (refl, refl)
sorted-marked (t ∷ ts) = go t.configurable (sorted-marked ts)
  where
    go : (b : Bool) → ((sorted_keys ts).configurable ≡ marked_keys true ts) × ((sorted_keys ts).nonconfigurable ≡ marked_keys false ts)
        → ((sorted_by (key_from_word t.key) b (sorted_keys ts)).configurable ≡ cond (beq b true) (key_from_word t.key ∷ marked_keys true ts) (marked_keys true ts))
        × ((sorted_by (key_from_word t.key) b (sorted_keys ts)).nonconfigurable ≡ cond (beq b false) (key_from_word t.key ∷ marked_keys false ts) (marked_keys false ts))
    go true ih = (rw ih.0, ih.1)
    go false ih = (ih.0, rw ih.1)

-- step 17 answers no other than the steps after it
rejected-required : (x : Bool) (s : Sorted) (list : List PropertyKey) → rejected x s list ≡ required x s.configurable (checked_off s.nonconfigurable list)
unfolding rejected checked_off
rejected-required x s list = go x s.nonconfigurable
  where
    go : (x : Bool) (ks : List PropertyKey) → cond (x && is_empty ks) None (required x s.configurable (checked_off ks list)) ≡ required x s.configurable (checked_off ks list)
    go true [] = refl
    go true (k ∷ ks) = refl
    go false ks = refl

all-unchecked : (ws : List ℕ) → ((i : ℕ) → i < length ws → get_or ws i 0 < 512) → unchecked ws ≡ map key_from_word ws
unfolding unchecked
all-unchecked [] h = refl
all-unchecked (w ∷ ws) h =
    let z : w < 512 = h 0 (omega arith) in
    let e : eqb w checked_mark ≡ false = ne_eqb w checked_mark (λ q. omega arith) in
    rw e (ap (λ (ks : List PropertyKey). key_from_word w ∷ ks) (all-unchecked ws (λ i l. h (suc i) (omega arith))))

pub first-start : (x : Bool) (ts : List TargetKey) (ws : List ℕ) → ((i : ℕ) → i < length ws → get_or ws i 0 < 512)
    → rejected x (sorted_keys ts) (map key_from_word ws) ≡ first_left x ts 0 (unchecked ws)
first-start x ts ws small =
    let (p, q) = sorted-marked ts in
    rejected-required x (sorted_keys ts) (map key_from_word ws) ∙ rw (p, q, all-unchecked ws small)

-- words and marks sort as their records do
pub sorted-records : (ws marks : List ℕ) → sorted_keys (records_of ws marks) ≡ sorted_from ws marks
unfolding sorted_keys records_of sorted_from
sorted-records [] marks = refl
sorted-records (w ∷ ws) [] = refl
sorted-records (w ∷ ws) (mark ∷ marks) = ap (sorted_by (key_from_word w) (eqb mark 1)) (sorted-records ws marks)

-- The records of words and marks ------------------------------------------------------------------------

made_of : (t : TargetKey) (w mark : ℕ) → t.key ≡ w → t.configurable ≡ eqb mark 1 → record { key = w; configurable = eqb mark 1 } ≡ t
made_of t w mark e f = λ i. record { key = sym e i; configurable = sym f i }

records-more : (ws marks : List ℕ) → length ws ≡ length marks → (w mark : ℕ)
    → records_of (ws ++ (w ∷ [])) (marks ++ (mark ∷ [])) ≡ records_of ws marks ++ (record { key = w; configurable = eqb mark 1 } ∷ [])
unfolding records_of
records-more [] [] h w mark = refl
records-more [] (k ∷ marks) h w mark = absurd (omega arith)
records-more (v ∷ ws) [] h w mark = absurd (omega arith)
records-more (v ∷ ws) (k ∷ marks) h w mark = ap (λ (l : List TargetKey). record { key = v; configurable = eqb k 1 } ∷ l) (records-more ws marks (omega arith) w mark)

module _ (ts : List TargetKey) (ws marks : List ℕ) (i : ℕ) (f : i < length ts) (g : i < length ws) (h : i < length marks) where
  pub records-set : take i ts ≡ records_of (take i ws) (take i marks) → (t : TargetKey) → t.key ≡ get_or ws i 0 → t.configurable ≡ eqb (get_or marks i 0) 1
      → take (i + 1) (set ts i t) ≡ records_of (take (i + 1) ws) (take (i + 1) marks)
  records-set inv t p q =
      let a : length (take i ws) ≡ i = length-take-le i ws (omega arith) in
      let b : length (take i marks) ≡ i = length-take-le i marks (omega arith) in
      rw (add-one i, take-suc-set ts i t f, take-suc ws i 0 g, take-suc marks i 0 h, records-more (take i ws) (take i marks) (omega arith) (get_or ws i 0) (get_or marks i 0), ← inv, made_of t (get_or ws i 0) (get_or marks i 0) p q)
