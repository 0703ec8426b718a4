-- Which keys a list has: the keys of an ordinary object, and the check of 10.5.11 steps 17 to 22. Assumes nothing.
use Rattle.std.specs.Prelude.{Option, None, Some}
use Prim.Native.Nat.{ℕ}
use mathlib.Core.Path.{◌≡◌, refl, sym, ap, ◌∙◌, subst}
use mathlib.Core.Bool.{Bool, true, false, not, ◌&&◌, ◌||◌, cond, false≢true, true≢false, or_assoc}
use mathlib.Core.List.{List, [], ◌∷◌, ◌++◌}
use lib.Dec.{eqb, ltb}
use Rattle.value.specs.declared.PropertyKey.{PropertyKey}
use Rattle.value.specs.PropertyKey.{same_key}
use Rattle.value.proofs.Bools.{or_swap, or_true_right, or_cases, and-true, bool-ext}
use Rattle.value.proofs.SameKey.{key-eq}
use Rattle.text.specs.Strings.{Strings}
use Rattle.store.specs.declared.Entry.{Entry}
use Rattle.store.specs.Store.{Store, is_at, find, own}
use Rattle.store.specs.OwnKeys.{keys_in, KeyClass, index, string, symbol, class_of, is_index, is_string, is_symbol, index_value, of_class, insert_index, ascending, ordered, ordinary_own_property_keys}
use Rattle.internal_methods.specs.KeyList.{has_key, without_key, is_empty, checked_off, Sorted, remaining, required, rejected}
use Rattle.internal_methods.proofs.Base.{is_absent}

-- The keys of an ordinary object

keys_in-has : (es : List Entry) (o : ℕ) (k : PropertyKey) → has_key k (keys_in es o) ≡ not (is_absent (find es o k))
unfolding has_key keys_in find is_at
keys_in-has [] o k = refl
keys_in-has (e ∷ es) o k = go (eqb e.owner o) (same_key e.key k) refl (keys_in-has es o k)
  where
    go : (a b : Bool) → same_key e.key k ≡ b → has_key k (keys_in es o) ≡ not (is_absent (find es o k))
        → has_key k (cond a (e.key ∷ keys_in es o) (keys_in es o)) ≡ not (is_absent (cond (a && b) (Some e.property) (find es o k)))
    go true true h ih = rw h
    go true false h ih = rw h ih
    go false b h ih = ih

append-has : (k : PropertyKey) (ks ls : List PropertyKey) → has_key k (ks ++ ls) ≡ (has_key k ks || has_key k ls)
unfolding has_key
append-has k [] ls = refl
append-has k (l ∷ ks) ls = ap (λ (x : Bool). same_key l k || x) (append-has k ks ls) ∙ sym (or_assoc (same_key l k) (has_key k ks) (has_key k ls))

insert-has : (strings : Strings) (k l : PropertyKey) (ls : List PropertyKey) → has_key k (insert_index strings l ls) ≡ (same_key l k || has_key k ls)
unfolding has_key insert_index
insert-has strings k l [] = refl
insert-has strings k l (m ∷ ms) = go (ltb (index_value (class_of strings l)) (index_value (class_of strings m))) (insert-has strings k l ms)
  where
    go : (b : Bool) → has_key k (insert_index strings l ms) ≡ (same_key l k || has_key k ms)
        → has_key k (cond b (l ∷ m ∷ ms) (m ∷ insert_index strings l ms)) ≡ (same_key l k || (same_key m k || has_key k ms))
    go true ih = refl
    go false ih = ap (λ (x : Bool). same_key m k || x) ih ∙ or_swap (same_key m k) (same_key l k) (has_key k ms)

ascending-has : (strings : Strings) (k : PropertyKey) (ks : List PropertyKey) → has_key k (ascending strings ks) ≡ has_key k ks
unfolding has_key ascending
ascending-has strings k [] = refl
ascending-has strings k (l ∷ ls) = insert-has strings k l (ascending strings ls) ∙ ap (λ (x : Bool). same_key l k || x) (ascending-has strings k ls)

classes-has : (strings : Strings) (k : PropertyKey) (ks : List PropertyKey)
    → (has_key k (of_class is_index strings ks) || (has_key k (of_class is_string strings ks) || has_key k (of_class is_symbol strings ks))) ≡ has_key k ks
unfolding has_key of_class
classes-has strings k [] = refl
classes-has strings k (l ∷ ls) = go (class_of strings l) (classes-has strings k ls)
  where
    go : (c : KeyClass)
        → (has_key k (of_class is_index strings ls) || (has_key k (of_class is_string strings ls) || has_key k (of_class is_symbol strings ls))) ≡ has_key k ls
        → (has_key k (cond (is_index c) (l ∷ of_class is_index strings ls) (of_class is_index strings ls))
        || (has_key k (cond (is_string c) (l ∷ of_class is_string strings ls) (of_class is_string strings ls))
        || has_key k (cond (is_symbol c) (l ∷ of_class is_symbol strings ls) (of_class is_symbol strings ls)))) ≡ (same_key l k || has_key k ls)
    go (index n) ih = or_assoc (same_key l k) _ _ ∙ ap (λ (x : Bool). same_key l k || x) ih
    go string ih =
        ap (λ (x : Bool). has_key k (of_class is_index strings ls) || x) (or_assoc (same_key l k) _ _)
        ∙ or_swap (has_key k (of_class is_index strings ls)) (same_key l k) _
        ∙ ap (λ (x : Bool). same_key l k || x) ih
    go symbol ih =
        ap (λ (x : Bool). has_key k (of_class is_index strings ls) || x) (or_swap (has_key k (of_class is_string strings ls)) (same_key l k) _)
        ∙ or_swap (has_key k (of_class is_index strings ls)) (same_key l k) _
        ∙ ap (λ (x : Bool). same_key l k || x) ih

ordered-has : (strings : Strings) (k : PropertyKey) (ks : List PropertyKey) → has_key k (ordered strings ks) ≡ has_key k ks
unfolding ordered
ordered-has strings k ks =
    append-has k (ascending strings (of_class is_index strings ks)) _
    ∙ ap (λ (x : Bool). x || has_key k (of_class is_string strings ks ++ of_class is_symbol strings ks)) (ascending-has strings k (of_class is_index strings ks))
    ∙ ap (λ (x : Bool). has_key k (of_class is_index strings ks) || x) (append-has k (of_class is_string strings ks) (of_class is_symbol strings ks))
    ∙ classes-has strings k ks

-- the own keys are those of the properties that there are
pub own-keys-has : (strings : Strings) (σ : Store) (o : ℕ) (k : PropertyKey) → has_key k (ordinary_own_property_keys strings σ o) ≡ not (is_absent (own σ o k))
unfolding ordinary_own_property_keys own
own-keys-has strings σ o k = ordered-has strings k (keys_in σ.properties o) ∙ keys_in-has σ.properties o k

-- Steps 19 and 21

record Checked (ks unchecked rest : List PropertyKey) : Type 0 where
  held : (k : PropertyKey) → has_key k ks ≡ true → has_key k unchecked ≡ true
  within : (k : PropertyKey) → has_key k rest ≡ true → has_key k unchecked ≡ true
  left : (k : PropertyKey) → has_key k unchecked ≡ true → (has_key k ks || has_key k rest) ≡ true

without-within : (k : PropertyKey) (us : List PropertyKey) (l : PropertyKey) → has_key l (without_key k us) ≡ true → has_key l us ≡ true
unfolding has_key without_key
without-within k [] l h = h
without-within k (u ∷ us) l h = go (same_key u k) (same_key u l) refl (without-within k us l) h
  where
    go : (b c : Bool) → same_key u l ≡ c → (has_key l (without_key k us) ≡ true → has_key l us ≡ true) → has_key l (cond b us (u ∷ without_key k us)) ≡ true → (c || has_key l us) ≡ true
    go b true e ih h = refl
    go true false e ih h = h
    go false false e ih h = ih (rw e at h)

without-left : (k : PropertyKey) (us : List PropertyKey) (l : PropertyKey) → has_key l us ≡ true → (same_key k l || has_key l (without_key k us)) ≡ true
unfolding has_key without_key
without-left k [] l h = absurd (false≢true h)
without-left k (u ∷ us) l h = go (same_key u k) refl (same_key u l) refl (without-left k us l) h
  where
    go : (b : Bool) → same_key u k ≡ b → (c : Bool) → same_key u l ≡ c → (has_key l us ≡ true → (same_key k l || has_key l (without_key k us)) ≡ true) → (c || has_key l us) ≡ true
        → (same_key k l || has_key l (cond b us (u ∷ without_key k us))) ≡ true
    go true e true q ih h = rw (ap (λ (m : PropertyKey). same_key m l) (sym (key-eq u k e)) ∙ q)
    go true e false q ih h = or_true_right (same_key k l) _ h
    go false e true q ih h = or_true_right (same_key k l) _ (rw q)
    go false e false q ih h = rw q (ih h)

checked-cons : (k : PropertyKey) (ks us rest : List PropertyKey) → has_key k us ≡ true → Checked ks (without_key k us) rest → Checked (k ∷ ks) us rest
unfolding has_key
checked-cons k ks us rest h c = record {
  held = λ l. hold l (same_key k l) refl;
  within = λ l f. without-within k us l (c.within l f);
  left = λ l f. leave l (same_key k l) (without-left k us l f);
}
  where
    hold : (l : PropertyKey) (b : Bool) → same_key k l ≡ b → (b || has_key l ks) ≡ true → has_key l us ≡ true
    hold l true e f = subst (λ (m : PropertyKey). has_key m us ≡ true) (key-eq k l e) h
    hold l false e f = without-within k us l (c.held l f)

    leave : (l : PropertyKey) (b : Bool) → (b || has_key l (without_key k us)) ≡ true → ((b || has_key l ks) || has_key l rest) ≡ true
    leave l true f = refl
    leave l false f = c.left l f

checked : (ks us rest : List PropertyKey) → checked_off ks us ≡ Some rest → Checked ks us rest
unfolding checked_off has_key
checked [] us rest h =
    let e : us ≡ rest = cc in
    record { held = λ k f. absurd (false≢true f); within = λ k f. rw e f; left = λ k f. rw e at f }
checked (k ∷ ks) us rest h = go (has_key k us) refl (checked ks (without_key k us) rest) h
  where
    go : (b : Bool) → has_key k us ≡ b → (checked_off ks (without_key k us) ≡ Some rest → Checked ks (without_key k us) rest)
        → cond b (checked_off ks (without_key k us)) None ≡ Some rest → Checked (k ∷ ks) us rest
    go true e ih f = checked-cons k ks us rest e (ih f)
    go false e ih f = absurd (false≢true cc)

is_empty-none : (ks : List PropertyKey) (k : PropertyKey) → is_empty ks ≡ true → has_key k ks ≡ true → ⊥
unfolding has_key
is_empty-none [] k e h = false≢true h
is_empty-none (l ∷ ls) k e h = false≢true e

-- Steps 17 to 22: the list has all that cannot be configured, and all and no more where the target is not extensible
pub record Admitted (extensible : Bool) (target : Sorted) (list : List PropertyKey) : Type 0 where
  pub fixed : (k : PropertyKey) → has_key k target.nonconfigurable ≡ true → has_key k list ≡ true
  pub exact : extensible ≡ false → (k : PropertyKey) → has_key k list ≡ (has_key k target.configurable || has_key k target.nonconfigurable)

module _ (x : Bool) (s : Sorted) (list : List PropertyKey) where
  -- 22
  admitted-22 : (us ws : List PropertyKey) → Checked s.nonconfigurable list us → Checked s.configurable us ws → is_empty ws ≡ true → Admitted x s list
  admitted-22 us ws c d e = record { fixed = c.held; exact = λ _ k. bool-ext _ _ (only k) (all k) }
    where
      only : (k : PropertyKey) → has_key k list ≡ true → (has_key k s.configurable || has_key k s.nonconfigurable) ≡ true
      only k h = or_cases (has_key k s.nonconfigurable) (has_key k us) (c.left k h)
          (λ f. or_true_right (has_key k s.configurable) _ f)
          (λ f. or_cases (has_key k s.configurable) (has_key k ws) (d.left k f) (λ g. rw g) (λ g. absurd (is_empty-none ws k e g)))

      all : (k : PropertyKey) → (has_key k s.configurable || has_key k s.nonconfigurable) ≡ true → has_key k list ≡ true
      all k h = or_cases (has_key k s.configurable) (has_key k s.nonconfigurable) h (λ f. c.within k (d.held k f)) (λ f. c.held k f)

  -- 21
  admitted-21 : (us : List PropertyKey) → Checked s.nonconfigurable list us → (w : Option (List PropertyKey)) → checked_off s.configurable us ≡ w
      → remaining w ≡ None → Admitted x s list
  admitted-21 us c None e h = absurd (false≢true cc)
  admitted-21 us c (Some ws) e h = go (is_empty ws) refl h
    where
      go : (b : Bool) → is_empty ws ≡ b → cond {A = Option ℕ} b None (Some 26) ≡ None → Admitted x s list
      go true f h = admitted-22 us ws c (checked s.configurable us ws e) f
      go false f h = absurd (false≢true cc)

  -- 19 and 20
  admitted-19 : (w : Option (List PropertyKey)) → checked_off s.nonconfigurable list ≡ w → required x s.configurable w ≡ None → Admitted x s list
  admitted-19 None e h = absurd (false≢true cc)
  admitted-19 (Some us) e h = go x refl h
    where
      c : Checked s.nonconfigurable list us
      c = checked s.nonconfigurable list us e

      go : (b : Bool) → x ≡ b → cond b None (remaining (checked_off s.configurable us)) ≡ None → Admitted x s list
      go true f h = record { fixed = c.held; exact = λ shut. absurd (true≢false (sym f ∙ shut)) }
      go false f h = admitted-21 us c _ refl h

  pub admitted : rejected x s list ≡ None → Admitted x s list
  unfolding rejected
  admitted h = go (x && is_empty s.nonconfigurable) refl h
    where
      go : (b : Bool) → (x && is_empty s.nonconfigurable) ≡ b → cond b None (required x s.configurable (checked_off s.nonconfigurable list)) ≡ None → Admitted x s list
      go true e h =
          let (open-x, empty) = and-true x (is_empty s.nonconfigurable) e in
          record {
            fixed = λ k f. absurd (is_empty-none s.nonconfigurable k empty f);
            exact = λ shut. absurd (true≢false (sym open-x ∙ shut));
          }
      go false e h = admitted-19 _ refl h
