use Prim.Native.Nat.{ℕ, ◌-◌}
use native.Mathlib.Omega.{arith}
use mathlib.Core.Path.{◌≡◌, refl, sym, ap, ◌∙◌}
use mathlib.Core.List.{List}
use Rattle.std.specs.Prelude.{None, Some}
use lib.ListN.{length, set, length-set}
use Rattle.std.proofs.lemmas.Slice.{put_mid-paste}
use borrow.Author.Rules.{rules}
use Rattle.text_form.specs.Rows.{heading}
use Rattle.text_form.specs.Reader.{columns_in}
use Rattle.text_reader.specs.Memory.{state_size, column_words, are_below, bytes_in}
use Rattle.text_reader.proofs.ReadLaws.{row-read, broken-row, named-length, named-below, first_ended, broken-ended}
use Rattle.text_reader.proofs.State.end_first.Goals as goal

pub invariant_of-self-in-Some : goal.invariant_of-self-in-Some
invariant_of-self-in-Some c =
    let state = set c.args.self.now.words.now 2 0 in
    let n : columns_in (bytes_in c.args.line) ≡ Some c.in-Some.columns = sym c.columns_in.ensures ∙ c.in-Some.is in
    let s = put_mid-paste 3 (length state - 3) state _ c.in-Some.columns (length c.in-Some.columns) c.copy_from_slice.ensures.after (search rules) refl in
    let l : length state ≡ state_size = length-set c.args.self.now.words.now 2 0 ∙ c.args.self.now.ten in
    record {
      ten = ap length s ∙ named-length state c.in-Some.columns _ l n;
      below = ap (λ (words : List ℕ). are_below 7 (column_words words)) s ∙ named-below state c.in-Some.columns _ l n;
    }

pub returns-in-Some : goal.returns-in-Some
returns-in-Some c =
    let state = set c.args.self.now.words.now 2 0 in
    let n : columns_in (bytes_in c.args.line) ≡ Some c.in-Some.columns = sym c.columns_in.ensures ∙ c.in-Some.is in
    let s = put_mid-paste 3 (length state - 3) state _ c.in-Some.columns (length c.in-Some.columns) c.copy_from_slice.ensures.after (search rules) refl in
    let r = row-read c.args.memory.now.rows.now _ heading 40 refl (omega (arith, c.args.memory.now.room)) c.put_heading.ensures in
    record {
      same = record { same_state = refl; same_words = refl; same_strings = refl; same_rows = refl };
      reads = λ bytes. first_ended _ _ c.args.self.now.words.now c.in-Some.columns _ _ bytes _ c.args.self.now.ten c.requires.0 n s r.0;
      rest = r.1.0;
      fits = r.1.1;
    }

pub returns : goal.returns
returns c =
    let n : columns_in (bytes_in c.args.line) ≡ None = sym c.columns_in.ensures ∙ c.in_default.is in
    let r = broken-row c.args.memory.now.rows.now _ _ _ _ _ c.args.memory.now.room c.put_heading.ensures c.refused.ensures c.put_row.ensures.rows_after c.put_row.ensures.upper_bound in
    record {
      same = record { same_state = refl; same_words = refl; same_strings = refl; same_rows = refl };
      reads = λ bytes. broken-ended _ _ c.args.self.now.words.now _ bytes _ _ c.args.self.now.ten c.requires.0 n r.0;
      rest = r.1.0;
      fits = r.1.1;
    }
