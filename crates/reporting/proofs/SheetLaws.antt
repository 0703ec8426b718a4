-- A step begins with the answers of its sheet, and with none left it has used as many as the sheet counts. Assumes nothing.
use Prim.Native.Nat.{ℕ, ◌-◌, ◌<◌, ◌≤◌}
use native.Mathlib.Nat.{not-suc-le-zero}
use native.Mathlib.Omega.{arith}
use mathlib.Core.Path.{◌≡◌, refl}
use mathlib.Core.Bool.{true}
use mathlib.Core.List.{List, [], ◌∷◌}
use lib.ListN.{length}
use borrow.Author.Tests.{ltb-true}
use Rattle.value.proofs.Bools.{and-true}
use Rattle.internal_methods.specs.Monad.{Answer, state}
use Rattle.record.specs.Bytes.{byte_at}
use Rattle.record.specs.Sheet.{sheet_of, is_sheet}
use Rattle.record.proofs.SheetLength.{sheet-length}
use Rattle.sheet.specs.Next.{answers_from}
use Rattle.sheet.proofs.FromLaws.{from-length, sheet-from}
use Rattle.calls.specs.declared.progress.Progress.{Progress}
use Rattle.calls.specs.Outs.{state_of}
use Rattle.steps.specs.declared.Outcome.{Outcome}
use Rattle.steps.specs.Response.{report_of, refusal}
use Rattle.steps.specs.Perform.{maximum_calls}
use Rattle.reporting.specs.Reports.{start, ended_report}

pub positive : (n : ℕ) → (n ≡ 0 → ⊥) → 0 < n
positive n h = omega (arith, h)

-- the answers that are left
module _ (sheet : List ℕ) (s : Progress) where
  pub none_left : s.left ≡ 0 → (state_of sheet s).answers ≡ []
  unfolding answers_from
  none_left e = rw e

  pub some_left : 0 < s.left → (a : Answer) × ((rest : List Answer) × ((state_of sheet s).answers ≡ a ∷ rest))
  some_left h = go (answers_from sheet s.at s.left) (rw (from-length sheet s.at s.left) h)
    where
      go : (l : List Answer) → 0 < length l → (a : Answer) × ((rest : List Answer) × (l ≡ a ∷ rest))
      go [] i = absurd (not-suc-le-zero i)
      go (a ∷ rest) i = (a, (rest, refl))

module _ (sheet : List ℕ) (h : is_sheet sheet ≡ true) where
  pub sheet_there : 0 < length sheet
  unfolding is_sheet
  sheet_there = ltb-true _ _ (and-true _ _ h).0

  pub begins : state_of sheet (start sheet) ≡ state (sheet_of sheet) maximum_calls
  begins = rw (sheet-from sheet h)

  pub ended_unread : (o : Outcome) (s : Progress) → 0 < s.left → report_of (refusal 13) ≡ ended_report (sheet_of sheet) o (state_of sheet s)
  ended_unread o s i = let (a, (rest, e)) = some_left sheet s i in rw e

  pub ended_read : (o : Outcome) (s : Progress) (n : ℕ) → s.left ≤ 0 → n ≡ byte_at sheet 0
      → record { outcome = o; answers = n; calls = maximum_calls - s.calls } ≡ ended_report (sheet_of sheet) o (state_of sheet s)
  ended_read o s n i e =
      let all : byte_at sheet 0 - 0 ≡ byte_at sheet 0 = omega arith in
      rw (none_left sheet s (omega (arith, i)), sheet-length sheet h, e, all)
