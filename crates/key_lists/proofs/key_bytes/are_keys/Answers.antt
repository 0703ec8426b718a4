use Rattle.std.proofs.Common.{ℕ, rules, refl, ◌∙◌, ◌≡◌, ◌+◌, ◌*◌, arith}
use native.Mathlib.Nat.{sub-zero}
use Rattle.std.proofs.lemmas.Iterator.{YieldsList-from_range}
use Rattle.std.proofs.lemmas.Iterator.Search.{all_from_yields_List}
use Rattle.value.specs.PropertyKey.{key_of}
use Rattle.record.specs.Step.{is_some}
use Rattle.key_lists.proofs.KeyLaws.{value_in, all-keys}
use Rattle.key_lists.proofs.key_bytes.are_keys.Goals as goal

pub returns : goal.returns
returns c = let a = c.args in
    let z : a.first + 9 * 0 ≡ a.first = omega arith in
    all_from_yields_List (λ (k : ℕ). is_some (key_of (value_in a.sheet.now a.first k))) _ _ c.all.result c.all.ensures.ran (YieldsList-from_range 0 _ a.n refl (sub-zero _)) (λ x b q k. search rules)
    ∙ rw z at (all-keys a.sheet.now a.first 0 a.n)
