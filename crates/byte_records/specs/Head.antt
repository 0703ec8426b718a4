-- The first two bytes of a descriptor. Assumes nothing.
use Rattle.std.specs.Prelude.{ℕ, ◌+◌, Bool, ◌&&◌, List, ltb}
use Rattle.record.specs.Bytes.{byte_at}
use Rattle.record.specs.Descriptor.{are_flags_formed}

-- refusal 1 over a descriptor's mask and booleans
abbrev pub is_head_at : List ℕ → ℕ → Bool
is_head_at bytes i =
    ltb (byte_at bytes i) 64 && (ltb (byte_at bytes (i + 1)) 8 && are_flags_formed (byte_at bytes i) (byte_at bytes (i + 1)))
