-- Runs of bytes written one after another, and the row that they make. Assumes nothing.
use Prim.Native.Nat.{ℕ, ◌+◌, ◌*◌, ◌<◌, ◌≤◌}
use native.Mathlib.Omega.{arith}
use mathlib.Core.Path.{◌≡◌, sym, ◌∙◌}
use mathlib.Core.List.{List, [], ◌∷◌, ◌++◌, append_assoc, append-nil}
use lib.ListN.{length, set, length-append, drop_of_length-le}
use lib.Seq.{sets, sets-eq}
use Rattle.property.specs.declared.DescriptorObject.{DescriptorObject}
use Rattle.record.specs.Descriptor.{descriptor_bytes}
use Rattle.record.proofs.RoundTrip.{length-value}
use Rattle.record.specs.Characters.{space, line_feed, decimal, hexadecimal}
use Rattle.byte_records.proofs.ByteLaws.{sets-append}
use Rattle.text_form.specs.Rows.{row_of}
use Rattle.text_rows.specs.Written.{Written, last_cell}

-- all of a list replaced
pub all_set : (xs l : List ℕ) → length l ≡ length xs → sets l 0 xs ≡ xs
all_set xs l e =
    let z : 0 + length xs ≡ length xs = omega arith in
    sets-eq xs l 0 (omega arith)
    ∙ rw (z, drop_of_length-le l {i = length xs} (omega arith)) (append-nil xs)

pub length-descriptor : (d : DescriptorObject) → length (descriptor_bytes d) ≡ 29
unfolding descriptor_bytes
length-descriptor d = simp (length-append, length-value)

-- bytes that are there are in hexadecimal digits
pub cell-written : {l n : List ℕ} {i a r : ℕ} (bytes : List ℕ) → 0 < length bytes → Written l n i (hexadecimal bytes ++ (line_feed ∷ [])) a r → Written l n i (last_cell bytes) a r
cell-written [] h w = absurd (omega arith)
cell-written (b ∷ bytes) h w = w

-- one byte more
pub written_byte : (l m : List ℕ) (i most next : ℕ) (xs : List ℕ) (x : ℕ) → m ≡ sets l i xs → next ≡ i + length xs → next ≤ i + most → Written l (set m next x) i (xs ++ (x ∷ [])) (most + 1) (next + 1)
written_byte l m i most next xs x e p h = record {
  bytes = rw (e, p) (sym (sets-append xs l i (x ∷ [])));
  place = rw (length-append xs (x ∷ [])) (omega arith);
  within = omega arith;
}

pub widen : {l n : List ℕ} {i a r : ℕ} {xs : List ℕ} (b : ℕ) → a ≤ b → Written l n i xs a r → Written l n i xs b r
widen b h w = record { bytes = w.bytes; place = w.place; within = omega arith }

-- the bytes of an array that xs fills
pub filled-written : {l n : List ℕ} {i r : ℕ} (b z xs : List ℕ) → b ≡ sets z 0 xs → length z ≡ length xs → Written l n i (last_cell b) (2 * length b + 1) r → Written l n i (last_cell xs) (2 * length xs + 1) r
filled-written b z xs e f w = rw (e ∙ all_set xs z f) at w

pub written_then : {l m n : List ℕ} {i j r a b : ℕ} {xs ys : List ℕ} → Written l m i xs a j → Written m n j ys b r → Written l n i (xs ++ ys) (a + b) r
written_then {l} {m} {n} {i} {j} {r} {a} {b} {xs} {ys} p q = record {
  bytes = q.bytes ∙ rw (p.bytes, p.place) (sym (sets-append xs l i ys));
  place = rw (length-append xs ys) (omega arith);
  within = omega arith;
}

abbrev cell : ℕ → List ℕ
cell n = decimal n ++ (space ∷ [])

row-cells : (line outcome number answers calls : ℕ) (bytes : List ℕ)
    → row_of line outcome number answers calls bytes
    ≡ cell line ++ (cell outcome ++ (cell number ++ (cell answers ++ (cell calls ++ last_cell bytes))))
unfolding row_of
row-cells line outcome number answers calls bytes = simp append_assoc

-- five numbers and the last cell
pub row_written : {l l₁ l₂ l₃ l₄ l₅ n : List ℕ} {at i₁ i₂ i₃ i₄ i₅ r : ℕ} (line outcome number answers calls : ℕ) (bytes : List ℕ)
    → Written l l₁ at (cell line) 21 i₁
    → Written l₁ l₂ i₁ (cell outcome) 21 i₂
    → Written l₂ l₃ i₂ (cell number) 21 i₃
    → Written l₃ l₄ i₃ (cell answers) 21 i₄
    → Written l₄ l₅ i₄ (cell calls) 21 i₅
    → Written l₅ n i₅ (last_cell bytes) 4609 r
    → Written l n at (row_of line outcome number answers calls bytes) 4714 r
row_written line outcome number answers calls bytes p₁ p₂ p₃ p₄ p₅ q =
    rw (row-cells line outcome number answers calls bytes)
    (written_then p₁ (written_then p₂ (written_then p₃ (written_then p₄ (written_then p₅ q)))))
