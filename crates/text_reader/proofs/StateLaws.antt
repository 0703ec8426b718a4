-- Laws of a reader's state and line. Assumes nothing.
use Rattle.std.specs.Prelude.{None}
use Prim.Native.Nat.{ℕ, suc, ◌+◌, ◌-◌, ◌≤◌, ◌<◌}
use native.Mathlib.Omega.{arith}
use mathlib.Core.Path.{◌≡◌, sym, ap, ◌∙◌}
use mathlib.Core.Bool.{Bool, true, false, ◌&&◌}
use mathlib.Core.List.{List, []}
use lib.Dec.{ltb, eqb}
use lib.ListN.{length, get_or, take, drop, replicate, drop_of_length-le, length-drop}
use lib.Seq.{drop-cons, paste, take-paste, take-length, take_all, length-take-le}
use borrow.Author.Tests.{lt-ltb, le-ltb, le-leb, lt-leb, eq-eqb}
use Rattle.text_form.specs.Lines.{maximum_line}
use Rattle.text_form.specs.Reader.{start, added}
use Rattle.text.specs.Table.{table_size, strings_of, is_table}
use Rattle.store.specs.Store.{empty}
use Rattle.store.specs.Words.{store_size, store_of, is_store}
use Rattle.reporting.specs.Memory.{is_memory}
use Rattle.text_reader.specs.Memory.{state_size, phase_of, are_below, line_of, reader_of, maximum_count, is_state, is_reader}

-- columns below a bound, one after another
pub below_next : (n : ℕ) (xs : List ℕ) (i : ℕ) → i < length xs → get_or xs i 0 < n → are_below n (drop i xs) ≡ are_below n (drop (i + 1) xs)
unfolding are_below
below_next n xs i h k = let q : i + 1 ≡ suc i = omega arith in rw (q, drop-cons xs i 0 h, lt-ltb _ _ k)

pub below_fails : (n : ℕ) (xs : List ℕ) (i : ℕ) → i < length xs → n ≤ get_or xs i 0 → are_below n (drop i xs) ≡ false
unfolding are_below
below_fails n xs i h k = rw (drop-cons xs i 0 h, le-ltb _ _ k)

pub below_end : (n : ℕ) (xs : List ℕ) (i : ℕ) → length xs ≤ i → are_below n (drop i xs) ≡ true
unfolding are_below
below_end n xs i h = rw (drop_of_length-le xs {i = i} h)

-- a piece behind the line's bytes
pub added-fits : (line piece : List ℕ) (size : ℕ) → length line ≡ maximum_line → size + length piece ≤ maximum_line
    → line_of (size + length piece) (paste line size piece (length piece)) ≡ added (line_of size line) piece
added-fits line piece size l h = rw (le-leb _ _ h, le-leb size maximum_line (omega arith), length-take-le size line (omega arith), le-leb _ _ h, take-paste line size piece (length piece) (omega arith) (omega arith), take-length piece)

pub added-long : (line piece : List ℕ) (size : ℕ) → length line ≡ maximum_line → size ≤ maximum_line → maximum_line < size + length piece
    → None ≡ added (line_of size line) piece
added-long line piece size l s h = rw (le-leb _ _ s, length-take-le size line (omega arith), lt-leb (size + length piece) maximum_line h)

pub added-past : (line piece : List ℕ) (size : ℕ) → maximum_line < size → None ≡ added (line_of size line) piece
added-past line piece size h = rw (lt-leb size maximum_line h)

-- memory that was emptied is a reader that has read nothing
pub begun : (words cells state line : List ℕ) (n : ℕ) → store_of words ≡ empty.store → is_store words ≡ true → strings_of cells ≡ [] → is_table cells ≡ true → n ≡ 10 → state ≡ replicate n 0
    → length line ≡ maximum_line → (reader_of words cells state line ≡ start) × (is_reader words cells state line ≡ true)
unfolding reader_of is_reader is_state is_memory phase_of are_below
begun words cells state line n s m t u e z l = (rw (z, e, s, t), rw (z, e, m, u, l))

pub right-lengths : (words cells state : List ℕ) → length words ≡ store_size → length cells ≡ table_size → length state ≡ state_size
    → true ≡ (eqb (length words) store_size && (eqb (length cells) table_size && eqb (length state) state_size))
right-lengths words cells state a b d = rw (a, b, d)

-- a part that goes to the end
pub part_to_end : (n : ℕ) (l : List ℕ) → take (length l - n) (drop n l) ≡ drop n l
part_to_end n l = let e = length-drop n l in take_all (length l - n) (drop n l) (omega (arith, e))

-- a state by its parts, the columns lent as a part
pub is_state_lem : (state : List ℕ) (b : Bool) → length state ≡ state_size → are_below 7 (take (length state - 3) (drop 3 state)) ≡ b → is_state state ≡ (b && ltb (get_or state 1 0) maximum_count)
unfolding is_state
is_state_lem state b l h = rw (eq-eqb _ _ l, sym (ap (are_below 7) (part_to_end 3 state)) ∙ h)
