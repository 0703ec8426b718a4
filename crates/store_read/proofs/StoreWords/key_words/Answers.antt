use Prim.Native.Nat.{◌+◌, ◌-◌}
use native.Mathlib.Omega.{arith}
use mathlib.Core.Path.{◌≡◌, ◌∙◌}
use Rattle.store.proofs.WordLaws.{sized, property-length}
use Rattle.store_read.proofs.ReadLaws.{key-words}
use Rattle.store_read.proofs.StoreWords.key_words.Goals as goal

pub returns : goal.returns
returns c =
    let f = sized _ c.args.self.valid in
    let n = c.property_count.ensures.0 ∙ property-length _ in
    let z : 134 + c.property_count.result - 134 ≡ c.property_count.result = omega arith in
    rw z (key-words _ _ n (omega arith))
