-- What is written one by one, in front of the rest. Assumes nothing.
use Rattle.std.specs.Prelude.{Option, None, Some}
use Prim.Native.Nat.{ℕ, ◌+◌, ◌<◌, ◌≤◌}
use native.Mathlib.Numerals.{add-one}
use mathlib.Core.Path.{◌≡◌, refl}
use mathlib.Core.List.{List, [], ◌∷◌, ◌++◌, append-nil, append_assoc}
use lib.ListN.{length, take, set}
use lib.Seq.{take-suc-set, take_all}
use Rattle.text_form.specs.Lines.{joined}

pub joined-nothing : (o : Option (List ℕ)) → o ≡ joined (Some []) o
joined-nothing None = refl
joined-nothing (Some rest) = refl

pub joined_end : (o : Option (List ℕ)) → joined o (Some []) ≡ o
joined_end None = refl
joined_end (Some front) = rw append-nil

pub joined-twice : (front part : List ℕ) (o : Option (List ℕ)) → joined (Some front) (joined (Some part) o) ≡ joined (Some (front ++ part)) o
joined-twice front part None = refl
joined-twice front part (Some rest) = rw append_assoc

pub one_more : (out : List ℕ) (i x : ℕ) (o : Option (List ℕ)) → i < length out → joined (Some (take i out)) (joined (Some (x ∷ [])) o) ≡ joined (Some (take (i + 1) (set out i x))) o
one_more out i x o h = rw (add-one, take-suc-set out i x h) (joined-twice (take i out) (x ∷ []) o)

pub all-written : (out : List ℕ) (i : ℕ) → length out ≤ i → joined (Some (take i out)) (Some []) ≡ Some out
all-written out i h = rw (take_all i out h, append-nil)
