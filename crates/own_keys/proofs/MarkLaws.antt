-- Laws of 10.5.11 steps 14 to 16, key by key. Assumes nothing.
use Rattle.std.specs.Prelude.{Option}
use Prim.Native.Nat.{ℕ, suc, ◌+◌, ◌<◌, ◌≤◌}
use native.Mathlib.Omega.{arith}
use native.Mathlib.Numerals.{add-one}
use mathlib.Core.Path.{◌≡◌, refl, sym, ap}
use mathlib.Core.List.{List, [], ◌∷◌, ◌++◌, map}
use lib.Dec.{eqb}
use lib.ListN.{length, get_or, take, drop, set, drop_of_length-le}
use lib.Seq.{length-take-le, take-suc, drop-cons, take-suc-set}
use Rattle.std.proofs.lemmas.List.{take_all}
use Rattle.value.specs.declared.PropertyKey.{PropertyKey}
use Rattle.store_read.specs.Answers.{key_from_word}
use Rattle.internal_methods.specs.declared.Failure.{Failure}
use Rattle.internal_methods.specs.Monad.{State, Out, failed, done, M, pure, next, ◌>>=◌}
use Rattle.internal_methods.specs.KeyList.{Sorted}
use Rattle.internal_methods.specs.Proxy.{absent_or_configurable, sorted_by, sorted}
use Rattle.key_lists.specs.KeyWords.{sorted_from}
use Rattle.property.specs.declared.Property.{Property}

-- the keys and marks sorted onto a rest
unfoldable pub onto : List ℕ → List ℕ → Sorted → Sorted
onto [] marks rest = rest
onto (w ∷ ws) [] rest = rest
onto (w ∷ ws) (mark ∷ marks) rest = sorted_by (key_from_word w) (eqb mark 1) (onto ws marks rest)

abbrev unsorted : Sorted
unsorted = record { configurable = []; nonconfigurable = [] }

onto-none : (ws marks : List ℕ) → onto ws marks unsorted ≡ sorted_from ws marks
unfolding onto sorted_from
onto-none [] marks = refl
onto-none (w ∷ ws) [] = refl
onto-none (w ∷ ws) (mark ∷ marks) = ap (sorted_by (key_from_word w) (eqb mark 1)) (onto-none ws marks)

onto-more : (ws marks : List ℕ) → length ws ≡ length marks → (w mark : ℕ) (rest : Sorted)
    → onto (ws ++ (w ∷ [])) (marks ++ (mark ∷ [])) rest ≡ onto ws marks (sorted_by (key_from_word w) (eqb mark 1) rest)
unfolding onto
onto-more [] [] h w mark rest = refl
onto-more [] (n ∷ marks) h w mark rest = absurd (omega arith)
onto-more (v ∷ ws) [] h w mark rest = absurd (omega arith)
onto-more (v ∷ ws) (n ∷ marks) h w mark rest = ap (sorted_by (key_from_word v) (eqb n 1)) (onto-more ws marks (omega arith) w mark rest)

-- the keys from i on are still to be sorted, and those before it have their marks
unfoldable pub sorted_onto : (PropertyKey → M (Option Property)) → List ℕ → List ℕ → ℕ → State → Out Sorted
sorted_onto get_own ws marks i s =
    next (λ rest. pure (onto (take i ws) (take i marks) rest)) ((sorted get_own (map key_from_word (drop i ws))).run s)

module _ (get_own : PropertyKey → M (Option Property)) (ws marks : List ℕ) where
  pub sorted_start : (s : State) → sorted_onto get_own ws marks 0 s ≡ (sorted get_own (map key_from_word ws)).run s
  unfolding sorted_onto next pure onto
  sorted_start s = go _
    where
      go : (x : Out Sorted) → next (λ rest. pure (onto [] [] rest)) x ≡ x
      go (failed f s) = refl
      go (done a s) = refl

  module _ (i : ℕ) (s : State) where
    -- one more mark
    marked : i < length ws → length ws ≤ length marks → (mark : ℕ) (rest : Sorted)
        → onto (take i ws) (take i marks) (sorted_by (key_from_word (get_or ws i 0)) (eqb mark 1) rest) ≡ onto (take (suc i) ws) (take (suc i) (set marks i mark)) rest
    marked l k mark rest =
        let a : length (take i ws) ≡ i = length-take-le i ws (omega arith) in
        let b : length (take i marks) ≡ i = length-take-le i marks (omega arith) in
        rw (take-suc ws i 0 (omega arith), take-suc-set marks i mark (omega arith))
        (sym (onto-more (take i ws) (take i marks) (omega arith) (get_or ws i 0) mark rest))

    pub sorted_failed : i < length ws → (f : Failure) (t : State) → (get_own (key_from_word (get_or ws i 0))).run s ≡ failed f t → sorted_onto get_own ws marks i s ≡ failed f t
    unfolding sorted_onto sorted next ◌>>=◌
    sorted_failed l f t e = rw (drop-cons ws i 0 l, e)

    pub sorted_more : i < length ws → length ws ≤ length marks → (p : Option Property) (t : State) → (get_own (key_from_word (get_or ws i 0))).run s ≡ done p t
        → (mark : ℕ) → eqb mark 1 ≡ absent_or_configurable p
        → sorted_onto get_own ws marks i s ≡ sorted_onto get_own ws (set marks i mark) (i + 1) t
    unfolding sorted_onto sorted next ◌>>=◌ pure
    sorted_more l k p t e mark b = rw (drop-cons ws i 0 l, add-one i, e) (go ((sorted get_own (map key_from_word (drop (suc i) ws))).run t))
      where
        go : (x : Out Sorted)
            → next (λ rest. pure (onto (take i ws) (take i marks) rest)) (next (λ rest. pure (sorted_by (key_from_word (get_or ws i 0)) (absent_or_configurable p) rest)) x)
            ≡ next (λ rest. pure (onto (take (suc i) ws) (take (suc i) (set marks i mark)) rest)) x
        go (failed f u) = refl
        go (done rest u) = rw (← b, marked l k mark rest)

    pub sorted_end : i ≡ length ws → length ws ≤ length marks → sorted_onto get_own ws marks i s ≡ done (sorted_from ws (take (length ws) marks)) s
    unfolding sorted_onto sorted next pure
    sorted_end e k =
        let none : drop i ws ≡ [] = drop_of_length-le ws {i = i} (omega arith) in
        rw (none, e, take_all (length ws) ws (omega arith), onto-none ws (take (length ws) marks))
