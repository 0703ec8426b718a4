-- What a copy leaves, one by one and into a part of a list. Assumes nothing.
use Rattle.std.proofs.Common.{ℕ, suc, ◌+◌, ◌<◌, ◌≤◌, ◌≡◌, refl, sym, ◌∙◌, List, ◌++◌, length, get_or, take, drop, set, append_assoc, length-take-le, drop-cons, add-one}
use Rattle.std.proofs.lemmas.List.Edits.{sets, sets-eq, paste_all}
use Rattle.std.proofs.lemmas.Slice.{put_mid-paste}
use borrow.Rule.Slice.PartMut.{put_mid}
use Rattle.std.proofs.lemmas.List.{take_more}
use lib.Seq.{set_at}
use native.Mathlib.Omega.{arith}

-- k elements from i on hold ys now
pub copied : {A : Type 0} (xs : List A) (i k : ℕ) (ys now : List A) → now ≡ ys → k ≡ length ys → i + length ys ≤ length xs
    → put_mid i k xs now ≡ sets xs i ys
copied xs i k ys now e n h =
    put_mid-paste i k xs now ys (length ys) e (sym n) refl ∙ paste_all xs i ys (length ys) refl ∙ sym (append_assoc (take i xs) ys (drop (i + length ys) xs)) ∙ sym (sets-eq ys xs i h)

-- the first i elements of xs are those of ys; now that of ys at i is put there
pub copied_more : {X : Type 0} (xs ys v : List X) (i : ℕ) (x : X) → i < length xs → i < length ys → v ≡ take i ys ++ drop i xs → x ≡ get_or ys i x
    → set v i x ≡ take (i + 1) ys ++ drop (i + 1) xs
copied_more xs ys v i x h k e q =
    rw (e, drop-cons xs i x h, take_more ys i x k, ← q, append_assoc, add-one i) (set_at (take i ys) (get_or xs i x) (drop (suc i) xs) x i (length-take-le i ys (omega (arith, k))))
