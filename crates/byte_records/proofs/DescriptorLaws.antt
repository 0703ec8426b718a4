-- The bytes of a descriptor, tested and stored part by part. Assumes nothing.
use Prim.Native.Nat.{ℕ, suc, ◌+◌}
use native.Mathlib.Omega.{arith}
use native.Mathlib.Numerals.{add-one}
use mathlib.Core.Path.{◌≡◌, refl, sym, ◌∙◌}
use mathlib.Core.Bool.{Bool, true, false, ◌&&◌}
use mathlib.Core.List.{List}
use lib.Dec.{ltb}
use lib.ListN.{set}
use lib.Seq.{sets}
use Rattle.value.specs.declared.Value.TheVariants.{Undefined}
use Rattle.property.specs.declared.DescriptorObject.{DescriptorObject}
use Rattle.property.specs.Fields.{or_else}
use Rattle.record.specs.Bytes.{byte_at, value_bytes}
use Rattle.record.specs.Descriptor.{are_flags_formed, are_parts_formed, is_descriptor_at, mask_of, flags_of, descriptor_bytes}
use Rattle.byte_records.specs.Head.{is_head_at}
use Rattle.byte_records.proofs.ByteLaws.{store-value}

pub store-descriptor : (d : DescriptorObject) (l : List ℕ) (i : ℕ)
    → sets (sets (sets (set (set l i (mask_of d)) (i + 1) (flags_of d))
    (i + 2) (value_bytes (or_else d.value Undefined)))
    (i + 11) (value_bytes (or_else d.get Undefined)))
    (i + 20) (value_bytes (or_else d.set Undefined))
    ≡ sets l i (descriptor_bytes d)
unfolding descriptor_bytes
store-descriptor d l i =
    let e : i + 2 ≡ suc (suc i) = omega arith in
    rw (add-one i, e)
    (sym (store-value (or_else d.value Undefined) _ (suc (suc i)) (i + 11) _ (omega arith)
    ∙ store-value (or_else d.get Undefined) _ (i + 11) (i + 20) _ (omega arith)))

-- refusal 1 over a descriptor: its first two bytes, then its parts
pub by_head : (b : List ℕ) (i : ℕ) → is_descriptor_at b i ≡ (is_head_at b i && are_parts_formed (byte_at b i) b i)
unfolding is_descriptor_at
by_head b i = by (ltb (byte_at b i) 64) (ltb (byte_at b (i + 1)) 8) (are_flags_formed (byte_at b i) (byte_at b (i + 1))) _
  where
    by : (s t u v : Bool) → (s && (t && (u && v))) ≡ ((s && (t && u)) && v)
    by true true u v = refl
    by true false u v = refl
    by false t u v = refl
