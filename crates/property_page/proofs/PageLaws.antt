-- Lines written one after another, and the page that they make. Assumes nothing.
use Rattle.std.specs.Prelude.{Option, None, Some}
use Rattle.std.proofs.Common.{drop-cons}
use Prim.Native.Nat.{ℕ, suc, ◌+◌, ◌*◌, ◌<◌, ◌≤◌}
use native.Mathlib.Omega.{arith}
use mathlib.Core.Path.{◌≡◌, refl, sym, ◌∙◌}
use mathlib.Core.Bool.{true, false≢true}
use mathlib.Core.List.{List, ◌++◌, map}
use lib.ListN.{length, get_or, take, drop, drop_of_length-le}
use lib.Seq.{sets, sets-eq, take_at}
use borrow.Author.Tests.{le-leb, lt-leb}
use Rattle.value.specs.declared.PropertyKey.{PropertyKey}
use Rattle.property.specs.declared.Property.{Property}
use Rattle.text.specs.Table.{strings_of}
use Rattle.store.specs.Store.{Store, World, own}
use Rattle.store.specs.OwnKeys.{ordinary_own_property_keys}
use Rattle.store.specs.Words.{store_of, world_of}
use Rattle.store_read.specs.Answers.{key_from_word, Listed}
use Rattle.store_read.proofs.ListLaws.{listed-length}
use Rattle.internal_methods.specs.declared.Failure.{Failure}
use Rattle.internal_methods.specs.Monad.{State, failed, done}
use Rattle.byte_records.proofs.ByteLaws.{sets-append}
use Rattle.calls.specs.declared.progress.Progress.{Progress}
use Rattle.std.specs.Prelude.{Result, Ok, Err}
use Rattle.calls.specs.Outs.{state_of, out}
use Rattle.steps.specs.declared.Completion.TheVariants.{Page}
use Rattle.steps.specs.declared.Outcome.TheVariants as outcome
use Rattle.steps.specs.Perform as result
use Rattle.steps.specs.Response.{report_of, refusal}
use Rattle.steps.specs.Step.{output_holds}
use Rattle.steps.specs.Page.{names, line, own_of, shown_on, lines, page, writing}
use Rattle.steps.proofs.Pages.{length-line, length-names, length-page}
use Rattle.reporting.specs.Memory.{shown, shown_by}

-- a run of [[GetOwnProperty]] that is done
module _ (sheet : List ℕ) (x : Result (Option Property) Failure) (t : Progress) (d : Option Property) (s : State) (h : out sheet x t ≡ done d s) where
  pub read_done : {p : Option Property} → x ≡ Ok p → p ≡ d
  read_done {p} e = let z : done p (state_of sheet t) ≡ done d s = rw e at h in cc

  pub read-failed : {f : Failure} → x ≡ Err f → ⊥
  read-failed {f} e = let z : failed f (state_of sheet t) ≡ done d s = rw e at h in false≢true cc

module _ (σ : Store) (o : ℕ) (keys : List ℕ) (i : ℕ) (out : List ℕ) (at : ℕ) where
  -- the lines of the keys from i on
  abbrev left : ℕ → List ℕ
  left j = lines (own_of σ o (map key_from_word (drop j keys)))

  pub line_next : (k : PropertyKey) (p : Property) → i < length keys → k ≡ key_from_word (get_or keys i 0) → own σ o k ≡ Some p
      → sets out at (left i) ≡ sets (sets out at (line k p)) (at + 47) (left (i + 1))
  unfolding own_of lines
  line_next k p h e f = let q : i + 1 ≡ suc i = omega arith in rw (q, drop-cons keys i 0 h, sym e, f) (sets-append (line k p) out at (left (suc i)) ∙ rw (length-line k p))

  pub line_none : (k : PropertyKey) → i < length keys → k ≡ key_from_word (get_or keys i 0) → own σ o k ≡ None → sets out at (left i) ≡ sets out at (left (i + 1))
  unfolding own_of
  line_none k h e f = let q : i + 1 ≡ suc i = omega arith in rw (q, drop-cons keys i 0 h, sym e, f)

  pub line_end : length keys ≤ i → sets out at (left i) ≡ out
  unfolding own_of lines
  line_end h = rw (drop_of_length-le keys {i = i} h)

-- what is set from the start on is the front
front-set : (text l : List ℕ) → length text ≤ length l → sets l 0 text ≡ text ++ drop (length text) l
front-set text l h = let z : 0 + length text ≡ length text = omega arith in sets-eq text l 0 (omega arith) ∙ rw z

-- The page ------------------------------------------------------------------------------

module _ (words cells : List ℕ) (o : ℕ) (output : List ℕ) where
  abbrev ω : World
  ω = world_of words cells

  -- a text that stands at the output's start
  text-shown : (text out : List ℕ) (n : ℕ) → n ≡ length text → out ≡ text ++ drop (length text) output
      → shown (record { outcome = outcome.Result (Page n); answers = 0; calls = 0 }) words cells out ≡ shown_by (writing ω text output true)
  text-shown text out n e f = rw (e, f, take_at text (drop (length text) output) (length text) refl)

  module _ (z keys : List ℕ) (n : ℕ) (h : Listed z keys n (ordinary_own_property_keys (strings_of cells) (store_of words) o)) where
    page-size : 47 + 47 * n ≡ length (page ω o)
    page-size = omega (arith, length-page ω o, listed-length z keys n _ h)

    joined : sets (sets output 0 names) 47 (lines (own_of (store_of words) o (map key_from_word (take n keys)))) ≡ sets output 0 (page ω o)
    unfolding page
    joined = rw h.listed (sym (sets-append names output 0 (lines (shown_on ω o)) ∙ rw length-names))

    pub page-put : (out : List ℕ) → 47 + 47 * n ≤ length output → out ≡ sets (sets output 0 names) 47 (lines (own_of (store_of words) o (map key_from_word (take n keys))))
        → shown (record { outcome = outcome.Result (Page (47 + 47 * n)); answers = 0; calls = 0 }) words cells out
        ≡ shown_by (writing ω (page ω o) output (output_holds (result.page (page ω o)) output))
    page-put out l e = rw (le-leb (length (page ω o)) (length output) (omega (arith, l, page-size))) (text-shown (page ω o) out (47 + 47 * n) page-size (e ∙ (joined ∙ front-set (page ω o) output (omega (arith, l, page-size)))))

    pub page-short : length output < 47 + 47 * n → shown (report_of (refusal 11)) words cells output ≡ shown_by (writing ω (page ω o) output (output_holds (result.page (page ω o)) output))
    page-short l = rw (lt-leb (length (page ω o)) (length output) (omega (arith, l, page-size)))
