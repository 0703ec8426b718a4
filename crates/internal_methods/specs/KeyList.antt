-- The check of an answered key list: ECMA-262 10.5.11 steps 9 and 17 to 22. Assumes nothing.
use Rattle.std.specs.Prelude.{ℕ, Bool, true, false, ◌&&◌, ◌||◌, cond, List, [], ◌∷◌, Option, None, Some}
use Rattle.value.specs.declared.PropertyKey.{PropertyKey}
use Rattle.value.specs.declared.PropertyKey.TheVariants.{String, Symbol}
use Rattle.value.specs.PropertyKey.{same_key}

unfoldable pub has_key : PropertyKey → List PropertyKey → Bool
has_key k [] = false
has_key k (l ∷ ls) = same_key l k || has_key k ls

unfoldable pub without_key : PropertyKey → List PropertyKey → List PropertyKey
without_key k [] = []
without_key k (l ∷ ls) = cond (same_key l k) ls (l ∷ without_key k ls)

abbrev pub is_empty : List PropertyKey → Bool
is_empty [] = true
is_empty (k ∷ ks) = false

abbrev pub duplicate_message : PropertyKey → ℕ
duplicate_message (String s) = 22
duplicate_message (Symbol s) = 23

-- step 9: the message of the first key that stands among those before it
unfoldable pub duplicate : List PropertyKey → List PropertyKey → Option ℕ
duplicate before [] = None
duplicate before (k ∷ ks) = cond (has_key k before) (Some (duplicate_message k)) (duplicate (k ∷ before) ks)

-- steps 19 and 21: what is left of the unchecked keys once each of these is removed, unless one is missing
unfoldable pub checked_off : List PropertyKey → List PropertyKey → Option (List PropertyKey)
checked_off [] unchecked = Some unchecked
checked_off (k ∷ ks) unchecked =
    cond (has_key k unchecked)
    (checked_off ks (without_key k unchecked))  -- b
    None  -- a

-- the target's keys, sorted by step 16
pub record Sorted : Type 0 where
  pub configurable : List PropertyKey
  pub nonconfigurable : List PropertyKey

abbrev pub remaining : Option (List PropertyKey) → Option ℕ
remaining None = Some 25  -- 21.a
remaining (Some unchecked) = cond (is_empty unchecked) None (Some 26)  -- 22, 23

abbrev pub required : Bool → List PropertyKey → Option (List PropertyKey) → Option ℕ
required extensible_target configurable None = Some 24  -- 19.a
required extensible_target configurable (Some unchecked) =
    cond extensible_target None  -- 20
    (remaining (checked_off configurable unchecked))  -- 21

-- steps 17 to 22: the message with which the list is rejected, if it is
unfoldable pub rejected : Bool → Sorted → List PropertyKey → Option ℕ
rejected extensible_target target list =
    cond (extensible_target && is_empty target.nonconfigurable) None  -- 17
    (required extensible_target target.configurable (checked_off target.nonconfigurable list))  -- 18, 19
