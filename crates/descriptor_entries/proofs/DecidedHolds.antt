-- Demand 1 of completing, validating and merging by themselves holds of all records. Assumes nothing.
use Rattle.std.specs.Prelude.{◌⊎◌, Option, None, Some, Result, Ok, Err, ok_or}
use Rattle.std.proofs.Common.{inl, inr}
use Prim.Native.Nat.{ℕ, ◌<◌}
use native.Mathlib.Omega.{arith}
use mathlib.Core.Path.{◌≡◌, refl, sym, ◌∙◌, subst}
use mathlib.Core.Logic.{◌↔◌}
use mathlib.Core.Bool.{Bool, true, false, ◌||◌, cond, false≢true}
use mathlib.Core.List.{List, [], ◌∷◌}
use Rattle.property.specs.declared.PropertyDescriptor.{PropertyDescriptor}
use Rattle.property.specs.declared.DescriptorKind.{DescriptorKind}
use Rattle.property.specs.declared.DescriptorKind.TheVariants as kind
use Rattle.property.specs.declared.Property.{Property}
use Rattle.property.specs.Answers.{fill_with}
use Rattle.property.specs.Descriptor.{is_accessor_descriptor, is_data_descriptor}
use Rattle.property.specs.Validate.{validate, populated, property_of, unmergeable, applied}
use Rattle.property.specs.FirstTest.{Fails, FirstFails}
use Rattle.property.proofs.FirstTestHolds.{tests-decided}
use Rattle.record.specs.declared.Counts.{Counts}
use Rattle.descriptor_entries.specs.declared.operations.Verdict.{Verdict}
use Rattle.descriptor_entries.specs.Records.{descriptor_of, one_refusal, two_refusal, unless, one_descriptor, two_descriptors}
use Rattle.descriptor_entries.specs.Operations.{◌>>=◌, complete_record, judged, validate_records, merge_records}
use Rattle.descriptor_entries.specs.Entries.{is_accepted, failed_test}
use Rattle.descriptor_entries.specs.Decided.{lacks, are_of_two_kinds, current_of, CompleteRefusal, ValidateRefusal, MergeRefusal, Unrefused, DescriptorsDecided}

-- What a current descriptor is, and what it lacks ---------------------------------------------

-- a complete descriptor is a property of its kind; any other is none
data Whole : PropertyDescriptor → Option Property → Type 0 where
  whole : {d : PropertyDescriptor} (p : Property) → lacks d ≡ false → ((e : PropertyDescriptor) → unmergeable p e ≡ are_of_two_kinds d e) → Whole d (Some p)
  parted : {d : PropertyDescriptor} → lacks d ≡ true → Whole d None

is_whole : (k : DescriptorKind) (e c : Option Bool) → Whole (record { enumerable = e; configurable = c; kind = k }) (populated k e c)
unfolding is_accessor_descriptor is_data_descriptor
is_whole kind.Generic e c = parted refl
is_whole (kind.Data None w) e c = parted refl
is_whole (kind.Data (Some v) None) e c = parted refl
is_whole (kind.Data (Some v) (Some w)) None c = parted refl
is_whole (kind.Data (Some v) (Some w)) (Some e) None = parted refl
is_whole (kind.Data (Some v) (Some w)) (Some e) (Some c) = whole _ refl (λ x. or-false _)
  where
    or-false : (b : Bool) → b ≡ (b || false)
    or-false true = refl
    or-false false = refl
is_whole (kind.Accessor None s) e c = parted refl
is_whole (kind.Accessor (Some g) None) e c = parted refl
is_whole (kind.Accessor (Some g) (Some s)) None c = parted refl
is_whole (kind.Accessor (Some g) (Some s)) (Some e) None = parted refl
is_whole (kind.Accessor (Some g) (Some s)) (Some e) (Some c) = whole _ refl (λ x. refl)

whole_of : (d : PropertyDescriptor) → Whole d (property_of d)
unfolding property_of
whole_of d = is_whole d.kind d.enumerable d.configurable

lacking-none : {d : PropertyDescriptor} {o : Option Property} → Whole d o → lacks d ≡ true → o ≡ None
lacking-none (whole p l u) h = absurd cc
lacking-none (parted l) h = refl

-- What is refused -----------------------------------------------------------------------------

module _ {B : Type 0} where
  -- by refusals 1 to 4, or by what is done with the descriptors
  by-records : {A : Type 0} (x : A) (f : A → Result B ℕ) (i : ℕ) (o : Option ℕ) → (unless o x >>= f) ≡ Err i → (o ≡ Some i) ⊎ ((o ≡ None) × (f x ≡ Err i))
  by-records x f i (Some j) h = inl cc
  by-records x f i None h = inr (refl, h)

  -- by refusal 5, or by what is done with the property
  by-current : {d : PropertyDescriptor} {o : Option Property} (f : Property → Result B ℕ) (i : ℕ) → Whole d o → (ok_or o 5 >>= f) ≡ Err i
      → ((lacks d ≡ true) × (5 ≡ i)) ⊎ ((p : Property) × ((lacks d ≡ false) × (((e : PropertyDescriptor) → unmergeable p e ≡ are_of_two_kinds d e) × (f p ≡ Err i))))
  by-current f i (whole p l u) h = inr (p, (l, (u, h)))
  by-current f i (parted l) h = inl (l, cc)

by-kinds : (p : Property) (d : PropertyDescriptor) (i : ℕ) → ok_or (fill_with p d) 6 ≡ Err i → (unmergeable p d ≡ true) × (6 ≡ i)
unfolding fill_with
by-kinds p d i h = go (unmergeable p d) refl h
  where
    go : (x : Bool) → unmergeable p d ≡ x → ok_or (cond x None (Some (applied d p))) 6 ≡ Err i → (unmergeable p d ≡ true) × (6 ≡ i)
    go true e q = (e, cc)
    go false e q = absurd cc

-- refusal 6, of two kinds
of-two-kinds : {d : PropertyDescriptor} {o : Option Property} (e : PropertyDescriptor) → Whole d o → lacks d ≡ false → are_of_two_kinds d e ≡ true → (ok_or o 5 >>= λ p. ok_or (fill_with p e) 6) ≡ Err 6
unfolding fill_with
of-two-kinds e (whole p l u) h k = rw (u e ∙ k)
of-two-kinds e (parted l) h k = absurd cc

-- The three -------------------------------------------------------------------------------------

module _ (n : Counts) (bytes : List ℕ) where
  completes : (i : ℕ) → (complete_record n bytes ≡ Err i) ↔ CompleteRefusal n bytes i
  unfolding one_descriptor
  completes i = (λ h. elim (by-records _ _ i (one_refusal n bytes) h) [ inl e ↦ CompleteRefusal.inadmissible e | inr q ↦ absurd cc ], back)
    where
      back : CompleteRefusal n bytes i → complete_record n bytes ≡ Err i
      back (CompleteRefusal.inadmissible e) = rw e

  validates : (extensible : Bool) (current : List ℕ) (i : ℕ) → (validate_records n extensible bytes current ≡ Err i) ↔ ValidateRefusal n bytes current i
  unfolding one_descriptor two_descriptors
  validates extensible [] i = (λ h. elim (by-records _ _ i (one_refusal n bytes) h) [ inl e ↦ ValidateRefusal.inadmissible-alone refl e | inr q ↦ absurd cc ], back i)
    where
      back : (j : ℕ) → ValidateRefusal n bytes [] j → validate_records n extensible bytes [] ≡ Err j
      back j (ValidateRefusal.inadmissible-alone q e) = rw e
      back j (ValidateRefusal.inadmissible q e) = absurd cc
      back _ (ValidateRefusal.lacking q e h) = absurd cc
  validates extensible (b ∷ rest) i = (λ h. elim (by-records _ _ i (two_refusal n bytes (b ∷ rest)) h) [ inl e ↦ ValidateRefusal.inadmissible refl e | inr q ↦ over q ], back i)
    where
      over : (two_refusal n bytes (b ∷ rest) ≡ None) × ((ok_or (property_of (descriptor_of (b ∷ rest))) 5 >>= λ p. Ok (judged (Some p) (validate extensible (descriptor_of bytes) (Some p)))) ≡ Err i) → ValidateRefusal n bytes (b ∷ rest) i
      over q = elim (by-current _ i (whole_of (descriptor_of (b ∷ rest))) q.1) [ inl l ↦ subst (ValidateRefusal n bytes (b ∷ rest)) l.1 (ValidateRefusal.lacking refl q.0 l.0) | inr w ↦ absurd cc ]

      back : (j : ℕ) → ValidateRefusal n bytes (b ∷ rest) j → validate_records n extensible bytes (b ∷ rest) ≡ Err j
      back j (ValidateRefusal.inadmissible-alone q e) = absurd cc
      back j (ValidateRefusal.inadmissible q e) = rw e
      back _ (ValidateRefusal.lacking q e h) = rw (e, lacking-none (whole_of (descriptor_of (b ∷ rest))) h)

  -- validating is refused, or judges the current property
  data Validates (extensible : Bool) (current : List ℕ) : Type 0 where
    refused : (j : ℕ) → validate_records n extensible bytes current ≡ Err j → Validates extensible current
    judges : validate_records n extensible bytes current ≡ Ok (judged (current_of current) (validate extensible (descriptor_of bytes) (current_of current))) → Validates extensible current

  judges-or-not : (extensible : Bool) (current : List ℕ) → Validates extensible current
  unfolding one_descriptor two_descriptors
  judges-or-not extensible [] = go (one_refusal n bytes) refl
    where
      go : (x : Option ℕ) → one_refusal n bytes ≡ x → Validates extensible []
      go (Some j) e = Validates.refused j (rw e)
      go None e = Validates.judges (rw e)
  judges-or-not extensible (b ∷ rest) = go (two_refusal n bytes (b ∷ rest)) (property_of (descriptor_of (b ∷ rest))) refl refl
    where
      go : (x : Option ℕ) (o : Option Property) → two_refusal n bytes (b ∷ rest) ≡ x → property_of (descriptor_of (b ∷ rest)) ≡ o → Validates extensible (b ∷ rest)
      go (Some j) o e f = Validates.refused j (rw e)
      go None None e f = Validates.refused 5 (rw (e, f))
      go None (Some p) e f = Validates.judges (rw (e, f))

  -- what is true of no refusal is true of the verdict exactly if nothing is refused and it is true of what is judged
  unless-refused : (extensible : Bool) (current : List ℕ) (P : Result Verdict ℕ → Type 0) (Q : Type 0) → ((j : ℕ) → P (Err j) → ⊥)
      → P (Ok (judged (current_of current) (validate extensible (descriptor_of bytes) (current_of current)))) ↔ Q
      → P (validate_records n extensible bytes current) ↔ (Unrefused n bytes current × Q)
  unless-refused extensible current P Q never q = go (judges-or-not extensible current)
    where
      go : Validates extensible current → P (validate_records n extensible bytes current) ↔ (Unrefused n bytes current × Q)
      go (Validates.refused j e) = (λ h. absurd (never j (subst P e h)), λ f. absurd (f.0 j ((validates extensible current j).0 e)))
      go (Validates.judges e) = (λ h. (λ j r. let k = (validates extensible current j).1 r in cc, q.0 (subst P e h)), λ f. subst P (sym e) (q.1 f.1))

  tests : (extensible : Bool) (current : List ℕ) (i : ℕ) → 0 < i
      → (failed_test (validate_records n extensible bytes current) ≡ i) ↔ (Unrefused n bytes current × FirstFails extensible (descriptor_of bytes) (current_of current) i)
  tests extensible current i l =
      unless-refused extensible current (λ v. failed_test v ≡ i) _ (λ j h. let z : 0 ≡ i = h in omega arith) ((tests-decided extensible (descriptor_of bytes) (current_of current)).first i l)

  accepts : (extensible : Bool) (current : List ℕ)
      → (is_accepted (validate_records n extensible bytes current) ≡ true) ↔ (Unrefused n bytes current × ((i : ℕ) → Fails extensible (descriptor_of bytes) (current_of current) i → ⊥))
  accepts extensible current =
      unless-refused extensible current (λ v. is_accepted v ≡ true) _ (λ j h. false≢true h) (tests-decided extensible (descriptor_of bytes) (current_of current)).accepted

  merges : (current : List ℕ) (i : ℕ) → (merge_records n current bytes ≡ Err i) ↔ MergeRefusal n current bytes i
  unfolding two_descriptors
  merges current i = (λ h. elim (by-records _ _ i (two_refusal n current bytes) h) [ inl e ↦ MergeRefusal.inadmissible e | inr q ↦ over q ], back i)
    where
      over : (two_refusal n current bytes ≡ None) × ((ok_or (property_of (descriptor_of current)) 5 >>= λ p. ok_or (fill_with p (descriptor_of bytes)) 6) ≡ Err i) → MergeRefusal n current bytes i
      over q = elim (by-current _ i (whole_of (descriptor_of current)) q.1) [ inl l ↦ subst (MergeRefusal n current bytes) l.1 (MergeRefusal.lacking q.0 l.0) | inr w ↦ kinds w.0 w.1.0 w.1.1.0 (by-kinds w.0 (descriptor_of bytes) i w.1.1.1) ]
        where
          kinds : (p : Property) → lacks (descriptor_of current) ≡ false → ((e : PropertyDescriptor) → unmergeable p e ≡ are_of_two_kinds (descriptor_of current) e) → (unmergeable p (descriptor_of bytes) ≡ true) × (6 ≡ i) → MergeRefusal n current bytes i
          kinds p l u k = subst (MergeRefusal n current bytes) k.1 (MergeRefusal.mixed q.0 l (sym (u (descriptor_of bytes)) ∙ k.0))

      back : (j : ℕ) → MergeRefusal n current bytes j → merge_records n current bytes ≡ Err j
      back j (MergeRefusal.inadmissible e) = rw e
      back _ (MergeRefusal.lacking e h) = rw (e, lacking-none (whole_of (descriptor_of current)) h)
      back _ (MergeRefusal.mixed e l k) = rw e (of-two-kinds (descriptor_of bytes) (whole_of (descriptor_of current)) l k)

pub descriptors-decided : (n : Counts) (extensible : Bool) (bytes current : List ℕ) → DescriptorsDecided n extensible bytes current
descriptors-decided n extensible bytes current = record { completes = completes n bytes; validates = validates n bytes extensible current; tests = tests n bytes extensible current; accepts = accepts n bytes extensible current; merges = merges n bytes current }
