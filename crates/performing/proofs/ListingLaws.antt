-- The end of a step that lists keys. Assumes nothing.
use Prim.Native.Nat.{ℕ, zero, suc, ◌*◌, ◌/◌, ◌%◌, ◌^◌, ◌≤◌, ◌<◌}
use native.Mathlib.Omega.{arith}
use mathlib.Core.Path.{◌≡◌, sym, ap, ◌∙◌}
use mathlib.Core.Bool.{Bool, true, false}
use mathlib.Core.List.{List, [], ◌∷◌, ◌++◌, map}
use lib.Dec.{eqb, leb}
use lib.ListN.{length, get_or, take, drop}
use borrow.Author.Tests.{le-leb, lt-leb}
use Rattle.value.specs.declared.PropertyKey.{PropertyKey}
use Rattle.value.specs.declared.PropertyKey.TheVariants.{String, Symbol}
use Rattle.value.specs.Words.{pick}
use Rattle.store.specs.Words.{store_of, world_of}
use Rattle.store_read.specs.Answers.{key_from_word, Listed}
use Rattle.store_read.proofs.ListLaws.{listed-length}
use Rattle.internal_methods.specs.declared.Failure.{Failure}
use Rattle.internal_methods.specs.Monad.{Answer, State, failed, done, pure, next, ◌>>=◌}
use Rattle.internal_methods.specs.Methods.{Context}
use Rattle.internal_methods.specs.Internal.{methods}
use Rattle.record.specs.Sheet.{sheet_of}
use Rattle.calls.specs.declared.progress.Progress.{Progress}
use Rattle.calls.specs.Outs.{context, state_of}
use Rattle.steps.specs.declared.Report.{Report}
use Rattle.steps.specs.Operation.{own_property_keys}
use Rattle.steps.specs.declared.Completion.TheVariants.{Keys}
use Rattle.steps.specs.Perform.{keys, once, perform, maximum_calls}
use Rattle.steps.specs.Response.{report_of, refusal}
use Rattle.steps.specs.Step.{keys_bytes, ended}
use Rattle.reporting.specs.Reports.{start, failure_report, completion_report}
use Rattle.reporting.specs.Memory.{Shown, shown, shown_by}
use Rattle.reporting.proofs.EndLaws.{failing}
use Rattle.reporting.proofs.SeenLaws.{IsShort, AreShort, keys-seen}

module _ (words cells output : List ℕ) (answers : List Answer) (s : State) (ks : List PropertyKey) where
  pub keys-held : s.answers ≡ [] → AreShort ks → leb (9 * length ks) (length output) ≡ true
      → shown (completion_report answers (Keys (length ks)) s) words cells (keys_bytes ks ++ drop (9 * length ks) output)
      ≡ shown_by (ended (world_of words cells) answers output (done (keys ks) s, store_of words))
  keys-held u h e = rw (u, e, keys-seen ks (drop (9 * length ks) output) h)

  pub keys-refused : s.answers ≡ [] → leb (9 * length ks) (length output) ≡ false
      → shown (report_of (refusal 11)) words cells output
      ≡ shown_by (ended (world_of words cells) answers output (done (keys ks) s, store_of words))
  keys-refused u e = rw (u, e)

  pub keys_unread : (a : Answer) (rest : List Answer) (r : Report) → s.answers ≡ a ∷ rest → r ≡ report_of (refusal 13)
      → shown r words cells output ≡ shown_by (ended (world_of words cells) answers output (done (keys ks) s, store_of words))
  keys_unread a rest r u q = rw (u, q)

-- keys in words of 64 bits
short-key : (w : ℕ) → w < 2 ^ 64 → IsShort (key_from_word w)
unfolding key_from_word
short-key w h = go (eqb (w % 2) 0)
  where
    go : (b : Bool) → IsShort (pick b (String (w / 2)) (Symbol (w / 2)))
    go true = omega (arith, h)
    go false = omega (arith, h)

short-keys : (n : ℕ) (ws : List ℕ) → ((i : ℕ) → get_or ws i 0 < 2 ^ 64) → AreShort (map key_from_word (take n ws))
short-keys zero ws h = tt
short-keys (suc n) [] h = tt
short-keys (suc n) (w ∷ ws) h = (short-key w (h 0), short-keys n ws (λ i. h (suc i)))

-- what was written, and what was not
module _ (words cells output before after : List ℕ) (answers : List Answer) (s : State) (ks : List PropertyKey) (n : ℕ) (l : Listed before after n ks) (u : s.answers ≡ []) (r : Report) where
  pub written_out : (out : List ℕ) → out ≡ keys_bytes (map key_from_word (take n after)) ++ drop (9 * n) output → ((i : ℕ) → get_or after i 0 < 2 ^ 64) → 9 * n ≤ length output → r ≡ completion_report answers (Keys n) s
      → shown r words cells out ≡ shown_by (ended (world_of words cells) answers output (done (keys ks) s, store_of words))
  written_out out w b h q =
      let e : n ≡ length ks = listed-length before after n ks l in
      let short : AreShort ks = rw (sym l.listed) (short-keys n after b) in
      rw (q, w, l.listed, e) (keys-held words cells output answers s ks u short (le-leb (9 * length ks) (length output) (rw (sym e) h)))

  pub not_written : length output < 9 * n → r ≡ report_of (refusal 11)
      → shown r words cells output ≡ shown_by (ended (world_of words cells) answers output (done (keys ks) s, store_of words))
  not_written h q =
      let e : n ≡ length ks = listed-length before after n ks l in
      rw q (keys-refused words cells output answers s ks u (lt-leb (9 * length ks) (length output) (rw (sym e) h)))

-- the operation's run, from the method's
module _ (words cells sheet output : List ℕ) (allowance : ℕ) (o : ℕ) (s : Progress) (e : s ≡ start sheet) where
  abbrev c : Context
  c = context words cells allowance

  abbrev listing : Shown
  listing = shown_by (ended (world_of words cells) (sheet_of sheet) output ((perform maximum_calls c (own_property_keys o)).run (state_of sheet (start sheet))))

  pub listing_failed : (f : Failure) (t : State) (r : Report) → failed f t ≡ ((methods maximum_calls c).own_property_keys o).run (state_of sheet s)
      → r ≡ failure_report (sheet_of sheet) f t → shown r words cells output ≡ listing
  unfolding perform once pure next ◌>>=◌
  listing_failed f t r h q =
      let k : failed f t ≡ ((methods maximum_calls c).own_property_keys o).run (state_of sheet (start sheet)) = h ∙ ap (λ (p : Progress). ((methods maximum_calls c).own_property_keys o).run (state_of sheet p)) e in
      rw (sym k, q) (failing words cells sheet output f t)

  pub listing_done : (ks : List PropertyKey) (t : State) (x : Shown) → done ks t ≡ ((methods maximum_calls c).own_property_keys o).run (state_of sheet s)
      → x ≡ shown_by (ended (world_of words cells) (sheet_of sheet) output (done (keys ks) t, c.store)) → x ≡ listing
  unfolding perform once pure next ◌>>=◌
  listing_done ks t x h q =
      let k : done ks t ≡ ((methods maximum_calls c).own_property_keys o).run (state_of sheet (start sheet)) = h ∙ ap (λ (p : Progress). ((methods maximum_calls c).own_property_keys o).run (state_of sheet p)) e in
      rw (sym k) q
