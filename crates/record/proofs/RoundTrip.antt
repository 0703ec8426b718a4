-- What is written in bytes reads back: values, descriptors, steps and answer sheets. Assumes nothing.
use Rattle.std.specs.Prelude.{Option, None, Some}
use Prim.Native.Nat.{ℕ, zero, suc, ◌+◌, ◌*◌, ◌/◌, ◌^◌, ◌≤◌, ◌<◌, zero-le, suc-le-suc}
use native.Mathlib.Nat.{le_trans, zero-lt-suc, add-zero, pow-suc, mod-add-div, div-lt_iff_lt-mul}
use native.Mathlib.Numerals.{add-one}
use native.Mathlib.Omega.{arith}
use mathlib.Core.Path.{◌≡◌, refl, sym, ap, ◌∙◌, subst}
use mathlib.Core.Bool.{Bool, true, false, not, ◌&&◌, ◌||◌, beq}
use mathlib.Core.List.{List, [], ◌∷◌, ◌++◌}
use lib.Dec.{T, ltb, lit≤}
use lib.Ieee.{Float, binary64, fits}
use lib.Ieee.Bits.{of_bits-to_bits, to_bits-lt}
use lib.IntN.{ℤ}
use lib.ListN.{length, length-append}
use mir.Syntax.{w32}
use mir.Val.{SFits, of_z}
use mir.Facts.{Fits-of_z, to_z-of_z}
use borrow.Author.Tests.{le-leb, lt-ltb, eq-eqb}
use Rattle.value.specs.Bits.{bit, weight}
use Rattle.value.specs.declared.Value.{Value}
use Rattle.value.specs.declared.Value.TheVariants.{Undefined, Null, Boolean, Integer32, Float64, String, Symbol, Object, Function}
use Rattle.value.specs.Words.{kind_of, payload_of, value_of, is_formed}
use Rattle.value.proofs.Bools.{and-true, and_both, beq-eq}
use Rattle.property.specs.declared.DescriptorObject.{DescriptorObject}
use Rattle.property.specs.Fields.{has, is_true, or_else}
use Rattle.internal_methods.specs.Monad.{Answer, value, descriptor, keys, throw}
use Rattle.record.specs.declared.Step.{Step}
use Rattle.record.specs.Bytes.{byte_at, number_at, bytes_of, are_zero, value_at, is_value_at, value_bytes, is_part_at}
use Rattle.record.specs.Descriptor.{flag_of, field_of, descriptor_at, is_descriptor_at, mask_of, flags_of, descriptor_bytes}
use Rattle.record.specs.Step.{step_of, step_bytes}
use Rattle.record.specs.Sheet.{values_at, are_values_at, key_count_at, answer_at, answer_end, is_answer_at, answers_at, are_answers_at, sheet_of, is_sheet, values_bytes, answer_bytes, answers_bytes, sheet_bytes}

-- Where bytes stand ---------------------------------------------------------------------

-- from i on the bytes are these
abbrev Stand : List ℕ → ℕ → List ℕ → Type 0
Stand bytes i [] = Unit {0}
Stand bytes i (x ∷ l) = (byte_at bytes i ≡ x) × Stand bytes (suc i) l

stand-cons : (x : ℕ) (bytes : List ℕ) (i : ℕ) (l : List ℕ) → Stand bytes i l → Stand (x ∷ bytes) (suc i) l
stand-cons x bytes i [] h = tt
stand-cons x bytes i (y ∷ l) h = (h.0, stand-cons x bytes (suc i) l h.1)

stand-self : (l : List ℕ) → Stand l 0 l
stand-self [] = tt
stand-self (x ∷ l) = (refl, stand-cons x l 0 l (stand-self l))

stand-first : (l post : List ℕ) → Stand (l ++ post) 0 l
stand-first [] post = tt
stand-first (x ∷ l) post = (refl, stand-cons x (l ++ post) 0 l (stand-first l post))

stand-between : (pre l post : List ℕ) → Stand (pre ++ (l ++ post)) (length pre) l
stand-between [] l post = stand-first l post
stand-between (x ∷ pre) l post = stand-cons x (pre ++ (l ++ post)) (length pre) l (stand-between pre l post)

pub length-bytes : (n x : ℕ) → length (bytes_of n x) ≡ n
unfolding bytes_of
length-bytes zero x = refl
length-bytes (suc n) x = ap suc (length-bytes n (x / 256))

module _ (bytes : List ℕ) where
  stand-at : (l : List ℕ) (i j : ℕ) → i ≡ j → Stand bytes i l → Stand bytes j l
  stand-at l i j e h = subst (λ (k : ℕ). Stand bytes k l) e h

  stand-left : (i : ℕ) (l m : List ℕ) → Stand bytes i (l ++ m) → Stand bytes i l
  stand-left i [] m h = tt
  stand-left i (x ∷ l) m h = (h.0, stand-left (suc i) l m h.1)

  stand-right : (i : ℕ) (l m : List ℕ) → Stand bytes i (l ++ m) → Stand bytes (i + length l) m
  stand-right i [] m h = stand-at m i (i + 0) (sym (add-zero i)) h
  stand-right i (x ∷ l) m h = stand-at m (suc i + length l) (i + suc (length l)) (omega arith) (stand-right (suc i) l m h.1)

  -- a number that n bytes hold
  number-at : (n i x : ℕ) → x < 256 ^ n → Stand bytes i (bytes_of n x) → number_at bytes i n ≡ x
  unfolding number_at bytes_of
  number-at zero i x h s = omega arith
  number-at (suc n) i x h s =
      rw (s.0, number-at n (suc i) (x / 256) ((div-lt_iff_lt-mul (zero-lt-suc 255)).1 (subst (λ (y : ℕ). x < y) (pow-suc 256 n) h)) s.1) (mod-add-div x 256)

  zero-at : (n i : ℕ) → Stand bytes i (bytes_of n 0) → are_zero bytes i n ≡ true
  unfolding are_zero bytes_of
  zero-at zero i s = refl
  zero-at (suc n) i s = rw s.0 (zero-at n (suc i) s.1)

-- Values --------------------------------------------------------------------------------

-- a value that the 9 bytes of a value can say
pub record Fits (v : Value) : Type 0 where
  pub small : payload_of v < 2 ^ 64
  pub back : value_of (kind_of v) (payload_of v) ≡ v
  pub formed : is_formed (kind_of v) (payload_of v) ≡ true

-- what is no Number fits, if its number is below 2 ^ 64
pub fits-undefined : Fits Undefined
unfolding payload_of value_of is_formed
fits-undefined = record { small = lit≤ tt; back = refl; formed = refl }

pub fits-null : Fits Null
unfolding payload_of value_of is_formed
fits-null = record { small = lit≤ tt; back = refl; formed = refl }

pub fits-boolean : (b : Bool) → Fits (Boolean b)
unfolding payload_of value_of is_formed
fits-boolean true = record { small = lit≤ tt; back = refl; formed = refl }
fits-boolean false = record { small = lit≤ tt; back = refl; formed = refl }

pub fits-string : (n : ℕ) → n < 2 ^ 64 → Fits (String n)
unfolding payload_of value_of is_formed
fits-string n h = record { small = h; back = refl; formed = refl }

pub fits-symbol : (n : ℕ) → n < 2 ^ 64 → Fits (Symbol n)
unfolding payload_of value_of is_formed
fits-symbol n h = record { small = h; back = refl; formed = refl }

pub fits-object : (n : ℕ) → n < 2 ^ 64 → Fits (Object n)
unfolding payload_of value_of is_formed
fits-object n h = record { small = h; back = refl; formed = refl }

pub fits-function : (n : ℕ) → n < 2 ^ 64 → Fits (Function n)
unfolding payload_of value_of is_formed
fits-function n h = record { small = h; back = refl; formed = refl }

-- an Integer32 of 32 bits fits, and a Float64 that is a binary64 number, NaN included
pub fits-integer : (z : ℤ) → SFits w32 z → Fits (Integer32 z)
unfolding payload_of value_of is_formed
fits-integer z h =
    let f = (Fits-of_z h).fits in
    let small : ltb (of_z w32 z) (2 ^ 32) ≡ true = lt-ltb (of_z w32 z) (2 ^ 32) f in
    record { small = le_trans f (lit≤ tt); back = rw (small, to_z-of_z h); formed = small }

pub fits-float : (x : Float) → T (fits binary64 x) → Fits (Float64 x)
unfolding payload_of value_of is_formed
fits-float x h = record { small = to_bits-lt binary64 x h; back = ap Float64 (of_bits-to_bits binary64 x h); formed = refl }

pub length-value : (v : Value) → length (value_bytes v) ≡ 9
unfolding value_bytes bytes_of
length-value v = refl

module _ (bytes : List ℕ) (i : ℕ) (v : Value) (f : Fits v) (s : Stand bytes i (value_bytes v)) where
  payload : number_at bytes (suc i) 8 ≡ payload_of v
  unfolding value_bytes
  payload = number-at bytes 8 (suc i) (payload_of v) f.small s.1

  value-is : value_at bytes i ≡ v
  unfolding value_at value_bytes
  value-is = rw (s.0, payload) f.back

  value-formed : is_value_at bytes i ≡ true
  unfolding is_value_at value_bytes
  value-formed = rw (s.0, payload) f.formed

module _ (pre post : List ℕ) (v : Value) (f : Fits v) where
  pub value-back : value_at (pre ++ (value_bytes v ++ post)) (length pre) ≡ v
  value-back = value-is _ (length pre) v f (stand-between pre (value_bytes v) post)

  pub value_passes : is_value_at (pre ++ (value_bytes v ++ post)) (length pre) ≡ true
  value_passes = value-formed _ (length pre) v f (stand-between pre (value_bytes v) post)

-- Descriptors ---------------------------------------------------------------------------

-- a test that both truth values pass
abbrev every : (Bool → Bool) → Bool
every test = test true && test false

every-passes : (test : Bool → Bool) → every test ≡ true → (b : Bool) → test b ≡ true
every-passes test h true = (and-true (test true) (test false) h).0
every-passes test h false = (and-true (test true) (test false) h).1

abbrev mask : Bool → Bool → Bool → Bool → Bool → Bool → ℕ
mask a b c d e f = weight a 1 + weight b 2 + weight c 4 + weight d 8 + weight e 16 + weight f 32

abbrev is_bit : ℕ → ℕ → Bool → Bool
is_bit n j b = beq (bit n j) b

-- the six bits of a number are what it was made of
abbrev is_made_of : Bool → Bool → Bool → Bool → Bool → Bool → Bool
is_made_of a b c d e f =
    let n = mask a b c d e f in
    ltb n 64 && (is_bit n 0 a && (is_bit n 1 b && (is_bit n 2 c && (is_bit n 3 d && (is_bit n 4 e && is_bit n 5 f)))))

mask-made : (a b c d e f : Bool) → is_made_of a b c d e f ≡ true
mask-made a b c d e f =
    every-passes (λ f. is_made_of a b c d e f)
    (every-passes (λ e. every (λ f. is_made_of a b c d e f))
    (every-passes (λ d. every (λ e. every (λ f. is_made_of a b c d e f)))
    (every-passes (λ c. every (λ d. every (λ e. every (λ f. is_made_of a b c d e f))))
    (every-passes (λ b. every (λ c. every (λ d. every (λ e. every (λ f. is_made_of a b c d e f)))))
    (every-passes (λ a. every (λ b. every (λ c. every (λ d. every (λ e. every (λ f. is_made_of a b c d e f)))))) refl a) b) c) d) e) f

abbrev is_made_of_three : Bool → Bool → Bool → Bool
is_made_of_three a b c =
    let n = weight a 1 + weight b 2 + weight c 4 in
    ltb n 8 && (is_bit n 0 a && (is_bit n 1 b && is_bit n 2 c))

flags-made : (a b c : Bool) → is_made_of_three a b c ≡ true
flags-made a b c =
    every-passes (λ c. is_made_of_three a b c)
    (every-passes (λ b. every (λ c. is_made_of_three a b c))
    (every-passes (λ a. every (λ b. every (λ c. is_made_of_three a b c))) refl a) b) c

-- the two bytes before a descriptor's values
record Bits (m n : ℕ) (d : DescriptorObject) : Type 0 where
  mask-small : ltb m 64 ≡ true
  flags-small : ltb n 8 ≡ true
  has-enumerable : bit m 0 ≡ has d.enumerable
  has-configurable : bit m 1 ≡ has d.configurable
  has-writable : bit m 2 ≡ has d.writable
  has_value : bit m 3 ≡ has d.value
  has-get : bit m 4 ≡ has d.get
  has-set : bit m 5 ≡ has d.set
  enumerable : bit n 0 ≡ is_true d.enumerable
  configurable : bit n 1 ≡ is_true d.configurable
  writable : bit n 2 ≡ is_true d.writable

bits : (d : DescriptorObject) → Bits (mask_of d) (flags_of d) d
bits d =
    let (small, h₀) = and-true _ _ (mask-made (has d.enumerable) (has d.configurable) (has d.writable) (has d.value) (has d.get) (has d.set)) in
    let (b₀, h₁) = and-true _ _ h₀ in
    let (b₁, h₂) = and-true _ _ h₁ in
    let (b₂, h₃) = and-true _ _ h₂ in
    let (b₃, h₄) = and-true _ _ h₃ in
    let (b₄, b₅) = and-true _ _ h₄ in
    let (low, g₀) = and-true _ _ (flags-made (is_true d.enumerable) (is_true d.configurable) (is_true d.writable)) in
    let (c₀, g₁) = and-true _ _ g₀ in
    let (c₁, c₂) = and-true _ _ g₁ in
    record {
      mask-small = small;
      flags-small = low;
      has-enumerable = beq-eq _ _ b₀;
      has-configurable = beq-eq _ _ b₁;
      has-writable = beq-eq _ _ b₂;
      has_value = beq-eq _ _ b₃;
      has-get = beq-eq _ _ b₄;
      has-set = beq-eq _ _ b₅;
      enumerable = beq-eq _ _ c₀;
      configurable = beq-eq _ _ c₁;
      writable = beq-eq _ _ c₂;
    }

flag_is : (x : Option Bool) (a b : Bool) → a ≡ has x → b ≡ is_true x → flag_of a b ≡ x
flag_is None a b e f = ap (λ (t : Bool). flag_of t b) e
flag_is (Some t) a b e f = ap (λ (u : Bool). flag_of u b) e ∙ ap Some f

flag-formed : (x : Option Bool) (a b : Bool) → a ≡ has x → b ≡ is_true x → (a || not b) ≡ true
flag-formed None a b e f = rw (e, f)
flag-formed (Some t) a b e f = rw e

-- the value of a field that is present fits
abbrev pub FitsField : Option Value → Type 0
FitsField None = Unit {0}
FitsField (Some v) = Fits v

pub record FitsDescriptor (d : DescriptorObject) : Type 0 where
  pub value : FitsField d.value
  pub get : FitsField d.get
  pub set : FitsField d.set

abbrev field_bytes : Option Value → List ℕ
field_bytes x = value_bytes (or_else x Undefined)

pub length-descriptor : (d : DescriptorObject) → length (descriptor_bytes d) ≡ 29
unfolding descriptor_bytes value_bytes bytes_of
length-descriptor d = refl

module _ (bytes : List ℕ) where
  field_is : (i : ℕ) (x : Option Value) (b : Bool) → b ≡ has x → FitsField x → Stand bytes i (field_bytes x) → field_of b bytes i ≡ x
  field_is i None b e f s = ap (λ (t : Bool). field_of t bytes i) e
  field_is i (Some v) b e f s = ap (λ (t : Bool). field_of t bytes i) e ∙ ap Some (value-is bytes i v f s)

  field-formed : (i : ℕ) (x : Option Value) (b : Bool) → b ≡ has x → FitsField x → Stand bytes i (field_bytes x) → is_part_at b bytes i ≡ true
  unfolding is_part_at are_zero value_bytes payload_of
  field-formed i None b e f s = rw e (rw s.0 (zero-at bytes 8 (suc i) s.1))
  field-formed i (Some v) b e f s = rw e (value-formed bytes i v f s)

-- the parts of a descriptor at i
record Parts (bytes : List ℕ) (i : ℕ) (d : DescriptorObject) : Type 0 where
  read : Bits (byte_at bytes i) (byte_at bytes (i + 1)) d
  value : Stand bytes (i + 2) (field_bytes d.value)
  get : Stand bytes (i + 11) (field_bytes d.get)
  set : Stand bytes (i + 20) (field_bytes d.set)

parts : (bytes : List ℕ) (i : ℕ) (d : DescriptorObject) → Stand bytes i (descriptor_bytes d) → Parts bytes i d
unfolding descriptor_bytes value_bytes bytes_of
parts bytes i d s =
    let v = field_bytes d.value in
    let g = field_bytes d.get in
    let t = field_bytes d.set in
    let rest = s.1.1 in
    let later = stand-right bytes (suc (suc i)) v (g ++ t) rest in
    record {
      read = rw (s.0, ap (byte_at bytes) (add-one i) ∙ s.1.0) (bits d);
      value = stand-at bytes v (suc (suc i)) (i + 2) (omega arith) (stand-left bytes (suc (suc i)) v (g ++ t) rest);
      get = stand-at bytes g (suc (suc i) + 9) (i + 11) (omega arith) (stand-left bytes (suc (suc i) + 9) g t later);
      set = stand-at bytes t (suc (suc i) + 9 + 9) (i + 20) (omega arith) (stand-right bytes (suc (suc i) + 9) g t later);
    }

module _ (bytes : List ℕ) (i : ℕ) (d : DescriptorObject) (f : FitsDescriptor d) (s : Stand bytes i (descriptor_bytes d)) where
  descriptor-is : descriptor_at bytes i ≡ d
  unfolding descriptor_at
  descriptor-is =
      let p = parts bytes i d s in
      let b = p.read in
      λ j. record {
        enumerable = flag_is d.enumerable _ _ b.has-enumerable b.enumerable j;
        configurable = flag_is d.configurable _ _ b.has-configurable b.configurable j;
        writable = flag_is d.writable _ _ b.has-writable b.writable j;
        value = field_is bytes (i + 2) d.value _ b.has_value f.value p.value j;
        get = field_is bytes (i + 11) d.get _ b.has-get f.get p.get j;
        set = field_is bytes (i + 20) d.set _ b.has-set f.set p.set j;
      }

  descriptor-formed : is_descriptor_at bytes i ≡ true
  unfolding is_descriptor_at
  descriptor-formed =
      let p = parts bytes i d s in
      let b = p.read in
      and_both _ _ b.mask-small
      (and_both _ _ b.flags-small
      (and_both _ _
      (and_both _ _ (flag-formed d.enumerable _ _ b.has-enumerable b.enumerable)
      (and_both _ _ (flag-formed d.configurable _ _ b.has-configurable b.configurable)
      (flag-formed d.writable _ _ b.has-writable b.writable)))
      (and_both _ _ (field-formed bytes (i + 2) d.value _ b.has_value f.value p.value)
      (and_both _ _ (field-formed bytes (i + 11) d.get _ b.has-get f.get p.get)
      (field-formed bytes (i + 20) d.set _ b.has-set f.set p.set)))))

module _ (pre post : List ℕ) (d : DescriptorObject) (f : FitsDescriptor d) where
  pub descriptor-back : descriptor_at (pre ++ (descriptor_bytes d ++ post)) (length pre) ≡ d
  descriptor-back = descriptor-is _ (length pre) d f (stand-between pre (descriptor_bytes d) post)

  pub descriptor-passes : is_descriptor_at (pre ++ (descriptor_bytes d ++ post)) (length pre) ≡ true
  descriptor-passes = descriptor-formed _ (length pre) d f (stand-between pre (descriptor_bytes d) post)

-- Steps ---------------------------------------------------------------------------------

pub record FitsStep (s : Step) : Type 0 where
  pub key : Fits s.key
  pub value : Fits s.value
  pub receiver : Fits s.receiver
  pub descriptor : FitsDescriptor s.descriptor

pub length-step : (s : Step) → length (step_bytes s) ≡ 58
unfolding step_bytes descriptor_bytes value_bytes bytes_of
length-step s = refl

pub step_back : (s : Step) → FitsStep s → step_of (step_bytes s) ≡ s
unfolding step_of step_bytes value_bytes bytes_of
step_back s f =
    let bytes = step_bytes s in
    let k = value_bytes s.key in
    let v = value_bytes s.value in
    let r = value_bytes s.receiver in
    let d = descriptor_bytes s.descriptor in
    let at = stand-self bytes in
    let after_key = stand-right bytes 2 k (v ++ (r ++ d)) at.1.1 in
    let after_value = stand-right bytes 11 v (r ++ d) after_key in
    λ j. record {
      code = s.code;
      object = s.object;
      key = value-is bytes 2 s.key f.key (stand-left bytes 2 k (v ++ (r ++ d)) at.1.1) j;
      value = value-is bytes 11 s.value f.value (stand-left bytes 11 v (r ++ d) after_key) j;
      receiver = value-is bytes 20 s.receiver f.receiver (stand-left bytes 20 r d after_value) j;
      descriptor = descriptor-is bytes 29 s.descriptor f.descriptor (stand-right bytes 20 r d after_value) j;
    }

-- Answers -------------------------------------------------------------------------------

abbrev pub FitsValues : List Value → Type 0
FitsValues [] = Unit {0}
FitsValues (v ∷ vs) = Fits v × FitsValues vs

-- a list of keys has at most 256
abbrev pub FitsAnswer : Answer → Type 0
FitsAnswer (value v) = Fits v
FitsAnswer (descriptor d) = FitsDescriptor d
FitsAnswer (keys vs) = FitsValues vs × (length vs ≤ 256)
FitsAnswer (throw v) = Fits v

abbrev pub FitsAnswers : List Answer → Type 0
FitsAnswers [] = Unit {0}
FitsAnswers (a ∷ rest) = FitsAnswer a × FitsAnswers rest

pub length-values : (vs : List Value) → length (values_bytes vs) ≡ 9 * length vs
unfolding values_bytes
length-values [] = refl
length-values (v ∷ vs) = length-append (value_bytes v) (values_bytes vs) ∙ (rw (length-value v, length-values vs) (omega arith))

module _ (bytes : List ℕ) where
  values-are : (i : ℕ) (vs : List Value) → FitsValues vs → Stand bytes i (values_bytes vs) → values_at bytes i (length vs) ≡ vs
  unfolding values_at values_bytes
  values-are i [] f s = refl
  values-are i (v ∷ vs) f s =
      rw (
        value-is bytes i v f.0 (stand-left bytes i (value_bytes v) (values_bytes vs) s),
        values-are (i + 9) vs f.1 (rw (length-value v) at (stand-right bytes i (value_bytes v) (values_bytes vs) s)),
      )

  values-formed : (i : ℕ) (vs : List Value) → FitsValues vs → Stand bytes i (values_bytes vs) → are_values_at bytes i (length vs) ≡ true
  unfolding are_values_at values_bytes
  values-formed i [] f s = refl
  values-formed i (v ∷ vs) f s =
      and_both _ _ (value-formed bytes i v f.0 (stand-left bytes i (value_bytes v) (values_bytes vs) s))
      (values-formed (i + 9) vs f.1 (rw (length-value v) at (stand-right bytes i (value_bytes v) (values_bytes vs) s)))

  -- the bytes after an answer's first
  after : (i x : ℕ) (l : List ℕ) → Stand bytes i (x ∷ l) → Stand bytes (i + 1) l
  after i x l s = stand-at bytes l (suc i) (i + 1) (sym (add-one i)) s.1

  module _ (i : ℕ) (vs : List Value) (few : length vs ≤ 256) (s : Stand bytes (i + 1) (bytes_of 2 (length vs) ++ values_bytes vs)) where
    key-count : key_count_at bytes i ≡ length vs
    key-count = number-at bytes 2 (i + 1) (length vs) (omega arith) (stand-left bytes (i + 1) (bytes_of 2 (length vs)) (values_bytes vs) s)

    keys-stand : Stand bytes (i + 3) (values_bytes vs)
    keys-stand = stand-at bytes (values_bytes vs) (i + 1 + 2) (i + 3) (omega arith) (rw (length-bytes 2 (length vs)) at (stand-right bytes (i + 1) (bytes_of 2 (length vs)) (values_bytes vs) s))

  answer-is : (i : ℕ) (a : Answer) → FitsAnswer a → Stand bytes i (answer_bytes a) → answer_at bytes i ≡ a
  unfolding answer_at answer_bytes
  answer-is i (value v) f s = rw s.0 (ap value (value-is bytes (i + 1) v f (after i 1 (value_bytes v) s)))
  answer-is i (descriptor d) f s = rw s.0 (ap descriptor (descriptor-is bytes (i + 1) d f (after i 2 (descriptor_bytes d) s)))
  answer-is i (keys vs) f s =
      let t = after i 3 (bytes_of 2 (length vs) ++ values_bytes vs) s in
      rw (s.0, key-count i vs f.1 t) (ap keys (values-are (i + 3) vs f.0 (keys-stand i vs f.1 t)))
  answer-is i (throw v) f s = rw s.0 (ap throw (value-is bytes (i + 1) v f (after i 4 (value_bytes v) s)))

  answer-ends : (i : ℕ) (a : Answer) → FitsAnswer a → Stand bytes i (answer_bytes a) → answer_end bytes i ≡ i + length (answer_bytes a)
  unfolding answer_end answer_bytes
  answer-ends i (value v) f s = rw (s.0, length-value v) (omega arith)
  answer-ends i (descriptor d) f s = rw (s.0, length-descriptor d) (omega arith)
  answer-ends i (keys vs) f s =
      let t = after i 3 (bytes_of 2 (length vs) ++ values_bytes vs) s in
      rw (s.0, key-count i vs f.1 t, length-append (bytes_of 2 (length vs)) (values_bytes vs), length-bytes 2 (length vs), length-values vs) (omega arith)
  answer-ends i (throw v) f s = rw (s.0, length-value v) (omega arith)

  answer-formed : (i : ℕ) (a : Answer) → FitsAnswer a → Stand bytes i (answer_bytes a) → answer_end bytes i ≤ length bytes → is_answer_at bytes i ≡ true
  unfolding is_answer_at answer_bytes
  answer-formed i (value v) f s h = and_both _ _ (le-leb _ _ h) (rw s.0 (value-formed bytes (i + 1) v f (after i 1 (value_bytes v) s)))
  answer-formed i (descriptor d) f s h = and_both _ _ (le-leb _ _ h) (rw s.0 (descriptor-formed bytes (i + 1) d f (after i 2 (descriptor_bytes d) s)))
  answer-formed i (keys vs) f s h =
      let t = after i 3 (bytes_of 2 (length vs) ++ values_bytes vs) s in
      and_both _ _ (le-leb _ _ h)
      (rw (s.0, key-count i vs f.1 t) (and_both _ _ (le-leb _ _ f.1) (values-formed (i + 3) vs f.0 (keys-stand i vs f.1 t))))
  answer-formed i (throw v) f s h = and_both _ _ (le-leb _ _ h) (rw s.0 (value-formed bytes (i + 1) v f (after i 4 (value_bytes v) s)))

  -- the first answer, and those after it
  module _ (i : ℕ) (a : Answer) (rest : List Answer) (f : FitsAnswer a) (s : Stand bytes i (answers_bytes (a ∷ rest))) where
    first-stands : Stand bytes i (answer_bytes a)
    unfolding answers_bytes
    first-stands = stand-left bytes i (answer_bytes a) (answers_bytes rest) s

    rest-stands : Stand bytes (answer_end bytes i) (answers_bytes rest)
    unfolding answers_bytes
    rest-stands = rw (answer-ends i a f first-stands) (stand-right bytes i (answer_bytes a) (answers_bytes rest) s)

    rest-ends : answer_end bytes i + length (answers_bytes rest) ≡ i + length (answers_bytes (a ∷ rest))
    unfolding answers_bytes
    rest-ends = rw (answer-ends i a f first-stands, length-append (answer_bytes a) (answers_bytes rest)) (omega arith)

  answers-are : (i : ℕ) (answers : List Answer) → FitsAnswers answers → Stand bytes i (answers_bytes answers) → i + length (answers_bytes answers) ≤ length bytes
      → answers_at bytes i (length answers) ≡ answers
  unfolding answers_at
  answers-are i [] f s h = refl
  answers-are i (a ∷ rest) f s h =
      let e = rest-ends i a rest f.0 s in
      rw (
        le-leb (answer_end bytes i) (length bytes) (omega arith),
        answer-is i a f.0 (first-stands i a rest f.0 s),
        answers-are (answer_end bytes i) rest f.1 (rest-stands i a rest f.0 s) (omega arith),
      )

  answers-formed : (i : ℕ) (answers : List Answer) → FitsAnswers answers → Stand bytes i (answers_bytes answers) → i + length (answers_bytes answers) ≡ length bytes
      → are_answers_at bytes i (length answers) ≡ true
  unfolding are_answers_at answers_bytes
  answers-formed i [] f s h = eq-eqb _ _ (sym (add-zero i) ∙ h)
  answers-formed i (a ∷ rest) f s h =
      let e = rest-ends i a rest f.0 s in
      and_both _ _ (answer-formed i a f.0 (first-stands i a rest f.0 s) (omega arith))
      (answers-formed (answer_end bytes i) rest f.1 (rest-stands i a rest f.0 s) (e ∙ h))

-- Sheets --------------------------------------------------------------------------------

module _ (answers : List Answer) (f : FitsAnswers answers) where
  pub sheet-back : sheet_of (sheet_bytes answers) ≡ answers
  unfolding sheet_of sheet_bytes
  sheet-back = answers-are (sheet_bytes answers) 1 answers f (stand-self (sheet_bytes answers)).1 (omega arith)

  pub sheet-passes : length answers ≤ 64 → is_sheet (sheet_bytes answers) ≡ true
  unfolding is_sheet sheet_bytes
  sheet-passes h = and_both _ _ (lt-ltb 0 (length (sheet_bytes answers)) (suc-le-suc zero-le)) (and_both _ _ (le-leb _ _ h) (answers-formed (sheet_bytes answers) 1 answers f (stand-self (sheet_bytes answers)).1 (omega arith)))
