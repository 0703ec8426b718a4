-- Refusals 1 to 3 over a step: runs of zeros, and the parts that each code uses. Assumes nothing.
use Prim.Native.Nat.{ℕ, suc, ◌+◌, ◌-◌, ◌<◌, ◌≤◌, min}
use native.Mathlib.Omega.{arith}
use mathlib.Core.Path.{◌≡◌, refl, sym, ap, ◌∙◌}
use mathlib.Core.Bool.{Bool, true, false, cond, not, beq, ◌&&◌, ◌||◌, and_assoc, and_comm}
use mathlib.Core.Bool as bool
use mathlib.Core.Logic.{◌⊎◌, ⊎_elim}
use mathlib.Core.List.{List}
use lib.Dec.{eqb, ltb}
use lib.ListN.{length}
use borrow.Author.Tests.{eq-eqb, ne_eqb, eqb-true}
use Rattle.std.proofs.lemmas.Grind.{common_steps}
use Rattle.value.proofs.Bools.{and-true}
use Rattle.value.specs.Bits.{bit}
use Rattle.value.specs.PropertyKey.{key_of}
use Rattle.value.specs.Words.{kind_of}
use Rattle.record.specs.Bytes.{byte_at, number_at, are_zero, value_at, is_value_at, is_part_at}
use Rattle.record.specs.Descriptor.{descriptor_at}
use Rattle.record.specs.Tests.{Counts, is_made, is_known, descriptor_passes}
use Rattle.record.specs.Step.{step_of, uses_object, uses_key, uses_prototype, uses_mask, uses_level, uses_value, uses_receiver, unless, is_code, is_object_formed, is_descriptor_formed, is_mask_formed, is_level_formed, is_step, are_objects_made, is_some, is_null_or_object, are_kinds_usable}
use Rattle.byte_records.proofs.ByteLaws.{zero_number, zero-join}
use Rattle.step_records.specs.Refusals.{first, named_refusal, value_refusal, part_refusal, object_refusal, key_refusal, prototype_refusal, bounded_refusal, descriptor_refusal, step_refusal}
use Rattle.step_records.proofs.RefusalLaws.{min-first, first-least, first-most}
use Rattle.step_records.proofs.ValueLaws.{unused}

-- bytes that are zero, a word at a time: from `at` to i, and to 58

module _ (b : List ℕ) (at : ℕ) where
  pub zero_start : are_zero b at (at - at) ≡ true
  unfolding are_zero
  zero_start = let e : at - at ≡ 0 = omega arith in rw e

  split : (i m : ℕ) → at ≤ i → i ≤ m → are_zero b at (m - at) ≡ (are_zero b at (i - at) && are_zero b i (m - i))
  split i m h l =
      let e : m - at ≡ (i - at) + (m - i) = omega arith in
      let f : at + (i - at) ≡ i = omega arith in
      ap (are_zero b at) e ∙ zero-join b at (i - at) (m - i) ∙ rw f

  module _ (i : ℕ) (h : at ≤ i) where
    word : are_zero b i (i + 8 - i) ≡ eqb (number_at b i 8) 0
    word = let e : i + 8 - i ≡ 8 = omega arith in rw e (zero_number b i 8)

    pub zero_more : are_zero b at (i - at) ≡ true → number_at b i 8 ≡ 0 → are_zero b at (i + 8 - at) ≡ true
    zero_more z e = rw (split i (i + 8) h (omega arith), z, word, e)

    pub zero_not : i < 50 → (number_at b i 8 ≡ 0 → ⊥) → false ≡ are_zero b at (58 - at)
    zero_not l e =
        let z : are_zero b at (i + 8 - at) ≡ false = rw (split i (i + 8) h (omega arith), word, ne_eqb _ _ e) (bool.and-false (are_zero b at (i - at))) in
        rw (split (i + 8) 58 (omega arith) (omega arith), z)

    pub zero_end : at ≤ 50 → 50 ≤ i → are_zero b at (i - at) ≡ true → eqb (number_at b 50 8) 0 ≡ are_zero b at (58 - at)
    zero_end l m z =
        let s : are_zero b at (50 - at) ≡ true = (and-true _ _ (sym (split 50 i l m) ∙ z)).0 in
        rw (split 50 58 l (omega arith), s, zero_number b 50 8)

-- what the walk over words begins with, keeps and ends with
pub ruleset zero_runs = (zero_start, zero_more, zero_not, zero_end)

-- the parts of a step by its code

and-left-comm : (x y z : Bool) → (x && (y && z)) ≡ (y && (x && z))
and-left-comm true y z = refl
and-left-comm false true z = refl
and-left-comm false false z = refl

formed : (o k v r d m l : Bool) → (o && ((k && (v && r)) && (d && (m && l)))) ≡ (o && (k && ((m && (l && v)) && (r && d))))
formed o k v r d m l = simp (and_assoc, and_comm, and-left-comm)

known : (k v r d i j m l o w : Bool) → ((k && (v && (r && d))) && (i && (j && (m && (l && (o && w)))))) ≡ ((w && o) && ((i && k) && ((j && (m && (l && v))) && (r && d))))
known k v r d i j m l o w = simp (and_assoc, and_comm, and-left-comm)

-- a part that is not used decides by its form alone

abbrev In : ℕ → Type 0
In x = (1 ≤ x) × (x ≤ 4)

zero-byte : (b : List ℕ) (i n : ℕ) → are_zero b i (suc n) ≡ true → byte_at b i ≡ 0
unfolding are_zero
zero-byte b i n h = eqb-true _ _ (and-true (eqb (byte_at b i) 0) _ h).0

module _ (proxy : Bool) (n : Counts) (b : List ℕ) where
  abbrev object : ℕ → ℕ
  object c = first (is_object_formed c (byte_at b 1)) (unless (uses_object c) (bit n.live (byte_at b 1))) (unless (uses_mask c) (not (bit n.callable (byte_at b 1))) && unless (eqb c 3) proxy)

  abbrev key : ℕ → ℕ
  key c = first (is_part_at (uses_key c) b 2) (is_made n (value_at b 2)) (unless (uses_key c) (is_some (key_of (value_at b 2))) && is_known n (value_at b 2))

  abbrev value : ℕ → ℕ
  value c = first (is_mask_formed c b && (is_level_formed c b && is_part_at (uses_value c) b 11)) (is_made n (value_at b 11)) (unless (uses_prototype c) (is_null_or_object (value_at b 11)) && (unless (uses_mask c) (eqb (kind_of (value_at b 11)) 3) && (unless (uses_level c) (eqb (kind_of (value_at b 11)) 3) && is_known n (value_at b 11))))

  abbrev descriptor : ℕ → ℕ
  descriptor c = first (is_descriptor_formed c b) (descriptor_passes (is_made n) (descriptor_at b 29)) (descriptor_passes (is_known n) (descriptor_at b 29))

  abbrev whole : ℕ → ℕ
  whole c = min (object c) (min (key c) (min (value c) (min (part_refusal (uses_receiver c) n b 20) (descriptor c))))

  -- the parts that are not used, by the runs of bytes that are zero

  tail : descriptor 0 ≡ cond (are_zero b 29 29) 4 1
  unfolding descriptor_at
  tail = grind (arith, zero-byte b 29 28)

  alone : (x : ℕ) → In x → min x (min (part_refusal false n b 2) (min (part_refusal false n b 11) (min (part_refusal false n b 20) (descriptor 0)))) ≡ cond (are_zero b 2 56) x 1
  alone x h = rw (unused n b 2, unused n b 11, unused n b 20, tail, zero-join b 2 9 47, zero-join b 11 9 38, zero-join b 20 9 29) (grind arith)

  with_value : (x v : ℕ) → In x → In v → min x (min (part_refusal false n b 2) (min v (min (part_refusal false n b 20) (descriptor 0)))) ≡ cond (are_zero b 2 9 && are_zero b 20 38) (min x v) 1
  with_value x v h i = rw (unused n b 2, unused n b 20, tail, zero-join b 20 9 29) (grind arith)

  with_key : (x k : ℕ) → In x → In k → min x (min k (min (part_refusal false n b 11) (min (part_refusal false n b 20) (descriptor 0)))) ≡ cond (are_zero b 11 47) (min x k) 1
  with_key x k h i = rw (unused n b 11, unused n b 20, tail, zero-join b 11 9 38, zero-join b 20 9 29) (grind arith)

  with_descriptor : (x k d : ℕ) → In x → In k → In d → min x (min k (min (part_refusal false n b 11) (min (part_refusal false n b 20) d))) ≡ cond (are_zero b 11 9 && are_zero b 20 9) (min (min x k) d) 1
  with_descriptor x k d h i j = rw (unused n b 11, unused n b 20) (grind arith)

  with_receiver : (x k r : ℕ) → In x → In k → In r → min x (min k (min (part_refusal false n b 11) (min r (descriptor 0)))) ≡ cond (are_zero b 11 9 && are_zero b 29 29) (min (min x k) r) 1
  with_receiver x k r h i j = rw (unused n b 11, tail) (grind arith)

  with_both : (x k v r : ℕ) → In x → In k → In v → In r → min x (min k (min v (min r (descriptor 0)))) ≡ cond (are_zero b 29 29) (min (min (min x k) v) r) 1
  with_both x k v r h i j l = rw tail (grind arith)

  in-object : In (object_refusal n (byte_at b 1))
  unfolding object_refusal
  in-object = grind (arith, first-least, first-most)

  in-named : In (named_refusal n (byte_at b 1) false)
  unfolding named_refusal
  in-named = grind (arith, first-least, first-most)

  in-key : In (key_refusal n b)
  unfolding key_refusal
  in-key = grind (arith, first-least, first-most)

  in-prototype : In (prototype_refusal n b)
  unfolding prototype_refusal
  in-prototype = grind (arith, first-least, first-most)

  in-bounded : (most : ℕ) → In (bounded_refusal most n b)
  unfolding bounded_refusal
  in-bounded most = grind (arith, first-least, first-most)

  in-value : (k p : ℕ) → In (value_refusal n k p)
  unfolding value_refusal
  in-value k p = grind (arith, first-least, first-most)

  in-descriptor : In (descriptor_refusal n b 29)
  unfolding descriptor_refusal
  in-descriptor = grind (arith, first-least, first-most)

  no-object : object 1 ≡ cond (ltb (byte_at b 1) 1) 4 1
  no-object = grind arith

  proxy-object : object 2 ≡ named_refusal n (byte_at b 1) false
  unfolding named_refusal
  proxy-object = grind arith

  pub no_length : (length b ≡ 58 → ⊥) → step_refusal proxy n b ≡ 1
  unfolding step_refusal is_step
  no_length h = rw (ne_eqb _ _ h)

  module _ (l : length b ≡ 58) where
    pub no_code : (byte_at b 0 ≡ 0) ⊎ ((byte_at b 0 ≡ 15) ⊎ (20 ≤ byte_at b 0)) → step_refusal proxy n b ≡ 1
    unfolding step_refusal is_step
    no_code h = let k : is_code (byte_at b 0) ≡ false = grind (arith, common_steps) in rw (eq-eqb _ _ l, k)

    parts : (c : ℕ) → is_code c ≡ true → byte_at b 0 ≡ c → step_refusal proxy n b ≡ whole c
    unfolding step_refusal part_refusal is_step step_of are_objects_made are_kinds_usable
    parts c h e =
        rw (eq-eqb _ _ l, e, h, min-first, min-first, min-first, min-first)
        (rw (formed (is_object_formed c (byte_at b 1)), known (is_known n (value_at b 2))))

    -- the codes by the parts that they use

    -- c uses the parts that d uses
    like : (c d r : ℕ) → is_code c ≡ true → whole c ≡ whole d → whole d ≡ r → byte_at b 0 ≡ c → step_refusal proxy n b ≡ r
    like c d r h w q e = parts c h e ∙ w ∙ q

    pub object_code : (byte_at b 0 ≡ 4) ⊎ ((byte_at b 0 ≡ 6) ⊎ ((byte_at b 0 ≡ 7) ⊎ ((byte_at b 0 ≡ 14) ⊎ (byte_at b 0 ≡ 17)))) → step_refusal proxy n b ≡ cond (are_zero b 2 56) (object_refusal n (byte_at b 1)) 1
    unfolding object_refusal part_refusal
    object_code =
        let p = alone (object_refusal n (byte_at b 1)) in-object in
        ⊎_elim (like 4 4 _ refl refl p) (⊎_elim (like 6 4 _ refl refl p) (⊎_elim (like 7 4 _ refl refl p) (⊎_elim (like 14 4 _ refl refl p) (like 17 4 _ refl refl p))))

    pub revoking_code : byte_at b 0 ≡ 3 → step_refusal proxy n b ≡ min (cond proxy 4 3) (cond (are_zero b 2 56) (object_refusal n (byte_at b 1)) 1)
    unfolding object_refusal part_refusal
    revoking_code e =
        parts 3 refl e ∙ alone (first true (bit n.live (byte_at b 1)) proxy) (first-least true (bit n.live (byte_at b 1)) proxy, first-most true (bit n.live (byte_at b 1)) proxy) ∙ grind arith

    pub creation_code : (byte_at b 0 ≡ 1) ⊎ (byte_at b 0 ≡ 16) → step_refusal proxy n b ≡ cond (are_zero b 2 9 && are_zero b 20 38) (min (cond (ltb (byte_at b 1) 1) 4 1) (prototype_refusal n b)) 1
    unfolding is_part_at part_refusal prototype_refusal
    creation_code =
        let p = with_value (cond (ltb (byte_at b 1) 1) 4 1) (prototype_refusal n b) (grind arith) in-prototype in
        ⊎_elim (like 1 1 _ refl refl (rw no-object p)) (like 16 1 _ refl refl (rw no-object p))

    pub proxy_code : byte_at b 0 ≡ 2 → step_refusal proxy n b ≡ cond (are_zero b 2 9 && are_zero b 20 38) (min (named_refusal n (byte_at b 1) false) (bounded_refusal 2047 n b)) 1
    unfolding is_part_at part_refusal bounded_refusal
    proxy_code e = parts 2 refl e ∙ rw proxy-object (with_value (named_refusal n (byte_at b 1) false) (bounded_refusal 2047 n b) in-named (in-bounded 2047))

    pub prototype_code : byte_at b 0 ≡ 5 → step_refusal proxy n b ≡ cond (are_zero b 2 9 && are_zero b 20 38) (min (object_refusal n (byte_at b 1)) (prototype_refusal n b)) 1
    unfolding is_part_at part_refusal object_refusal prototype_refusal
    prototype_code e = parts 5 refl e ∙ with_value (object_refusal n (byte_at b 1)) (prototype_refusal n b) in-object in-prototype

    pub level_code : (byte_at b 0 ≡ 18) ⊎ (byte_at b 0 ≡ 19) → step_refusal proxy n b ≡ cond (are_zero b 2 9 && are_zero b 20 38) (min (object_refusal n (byte_at b 1)) (bounded_refusal 1 n b)) 1
    unfolding is_part_at part_refusal object_refusal bounded_refusal
    level_code =
        let p = with_value (object_refusal n (byte_at b 1)) (bounded_refusal 1 n b) in-object (in-bounded 1) in
        ⊎_elim (like 18 18 _ refl refl p) (like 19 18 _ refl refl p)

    pub key_code : (byte_at b 0 ≡ 8) ⊎ ((byte_at b 0 ≡ 10) ⊎ (byte_at b 0 ≡ 13)) → step_refusal proxy n b ≡ cond (are_zero b 11 47) (min (object_refusal n (byte_at b 1)) (key_refusal n b)) 1
    unfolding is_part_at part_refusal object_refusal key_refusal
    key_code =
        let p = with_key (object_refusal n (byte_at b 1)) (key_refusal n b) in-object in-key in
        ⊎_elim (like 8 8 _ refl refl p) (⊎_elim (like 10 8 _ refl refl p) (like 13 8 _ refl refl p))

    pub definition_code : byte_at b 0 ≡ 9 → step_refusal proxy n b ≡ cond (are_zero b 11 9 && are_zero b 20 9) (min (min (object_refusal n (byte_at b 1)) (key_refusal n b)) (descriptor_refusal n b 29)) 1
    unfolding is_part_at part_refusal object_refusal key_refusal descriptor_refusal
    definition_code e = parts 9 refl e ∙ with_descriptor (object_refusal n (byte_at b 1)) (key_refusal n b) (descriptor_refusal n b 29) in-object in-key in-descriptor

    pub get_code : byte_at b 0 ≡ 11 → step_refusal proxy n b ≡ cond (are_zero b 11 9 && are_zero b 29 29) (min (min (object_refusal n (byte_at b 1)) (key_refusal n b)) (value_refusal n (byte_at b 20) (number_at b 21 8))) 1
    unfolding is_part_at is_value_at value_at part_refusal object_refusal key_refusal value_refusal
    get_code e = parts 11 refl e ∙ with_receiver (object_refusal n (byte_at b 1)) (key_refusal n b) (value_refusal n (byte_at b 20) (number_at b 21 8)) in-object in-key (in-value _ _)

    pub set_code : byte_at b 0 ≡ 12 → step_refusal proxy n b ≡ cond (are_zero b 29 29) (min (min (min (object_refusal n (byte_at b 1)) (key_refusal n b)) (value_refusal n (byte_at b 11) (number_at b 12 8))) (value_refusal n (byte_at b 20) (number_at b 21 8))) 1
    unfolding is_part_at is_value_at value_at part_refusal object_refusal key_refusal value_refusal
    set_code e = parts 12 refl e ∙ with_both (object_refusal n (byte_at b 1)) (key_refusal n b) (value_refusal n (byte_at b 11) (number_at b 12 8)) (value_refusal n (byte_at b 20) (number_at b 21 8)) in-object in-key (in-value _ _) (in-value _ _)

-- a step without a code, and one with each
pub ruleset codes = (no_length, no_code, object_code, revoking_code, creation_code, proxy_code, prototype_code, level_code, key_code, definition_code, get_code, set_code)
