-- Refusals 1 to 3 over a part and a descriptor in bytes. Assumes nothing.
use Prim.Native.Nat.{ℕ, ◌+◌, min}
use native.Mathlib.Omega.{arith}
use mathlib.Core.Path.{◌≡◌, refl}
use mathlib.Core.Bool.{Bool, true, false, cond, and_assoc}
use mathlib.Core.List.{List}
use Rattle.value.specs.Bits.{bit}
use Rattle.value.specs.Words.{value_of}
use Rattle.record.specs.Bytes.{byte_at, are_zero, value_at, is_part_at}
use Rattle.record.specs.Descriptor.{field_of, descriptor_at}
use Rattle.record.specs.Tests.{Counts, is_made, is_known, field_passes}
use Rattle.byte_records.specs.Head.{is_head_at}
use Rattle.byte_records.proofs.DescriptorLaws.{by_head}
use Rattle.step_records.specs.Refusals.{first, part_refusal, descriptor_refusal}
use Rattle.step_records.proofs.RefusalLaws.{min-first}

module _ (n : Counts) (b : List ℕ) (i : ℕ) where
  -- zero is undefined, which passes refusals 2 and 3
  pub unused : part_refusal false n b i ≡ cond (are_zero b i 9) 4 1
  unfolding part_refusal is_part_at are_zero value_at value_of is_made is_known
  unused = grind arith

  -- a part as the field of a descriptor
  part-field : (used : Bool) → part_refusal used n b i ≡ first (is_part_at used b i) (field_passes (is_made n) (field_of used b i)) (field_passes (is_known n) (field_of used b i))
  unfolding part_refusal is_part_at
  part-field true = refl
  part-field false = grind (arith, unused)

  pub no_head : is_head_at b i ≡ false → descriptor_refusal n b i ≡ 1
  unfolding descriptor_refusal
  no_head h = rw (by_head b i, h)

module _ (n : Counts) (b : List ℕ) (i : ℕ) where
  pub three_parts : is_head_at b i ≡ true
      → descriptor_refusal n b i ≡ min (min (part_refusal (bit (byte_at b i) 3) n b (i + 2)) (part_refusal (bit (byte_at b i) 4) n b (i + 11))) (part_refusal (bit (byte_at b i) 5) n b (i + 20))
  unfolding descriptor_refusal descriptor_at
  three_parts h = rw (part-field n b (i + 2), part-field n b (i + 11), part-field n b (i + 20), min-first, min-first, by_head b i, h) (simp and_assoc)
