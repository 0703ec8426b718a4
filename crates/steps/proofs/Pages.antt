-- How a call for a page ends, how long its lines are, and their order. Assumes nothing.
use Rattle.std.specs.Prelude.{Option, None, Some}
use Prim.Native.Nat.{ℕ, suc, ◌+◌, ◌*◌, ◌/◌, ◌%◌, ◌≤◌}
use native.Mathlib.Omega.{arith}
use mathlib.Core.Path.{◌≡◌, refl, sym, ap, ◌∙◌}
use mathlib.Core.Bool.{Bool, true, false, not, false≢true}
use mathlib.Core.List.{List, [], ◌∷◌, ◌++◌, map, append_assoc}
use lib.ListN.{length, take, drop, length-append}
use Rattle.value.specs.declared.Value.{Value}
use Rattle.value.specs.declared.PropertyKey.{PropertyKey}
use Rattle.value.specs.declared.PropertyKey.TheVariants.{String, Symbol}
use Rattle.value.specs.PropertyKey.{same_key, key_number}
use Rattle.value.proofs.Bools.{or_true_right}
use Rattle.value.proofs.SameKey.{key-refl}
use Rattle.property.specs.declared.Property.{Property}
use Rattle.property.specs.declared.Property.TheVariants.{Data, Accessor}
use Rattle.store.specs.declared.OrdinaryObject.{OrdinaryObject}
use Rattle.store.specs.declared.ProxyObject.{ProxyObject}
use Rattle.store.specs.declared.Object.{Object}
use Rattle.store.specs.declared.Object.TheVariants.{Ordinary, Proxy}
use Rattle.store.specs.Store.{Store, World, lookup, own}
use Rattle.store.specs.OwnKeys.{ordinary_own_property_keys}
use Rattle.record.specs.Bytes.{value_bytes}
use Rattle.record.specs.Characters.{space, line_feed, are_printable, hexadecimal}
use Rattle.record.proofs.RoundTrip.{length-value}
use Rattle.record.proofs.CharacterLaws.{length-hexadecimal, printable-one, printable-append, value-printable}
use Rattle.internal_methods.specs.KeyList.{has_key}
use Rattle.internal_methods.proofs.Base.{is_absent}
use Rattle.internal_methods.proofs.KeyListLaws.{own-keys-has}
use Rattle.steps.specs.Perform as result
use Rattle.steps.specs.Response.{Effect}
use Rattle.steps.specs.Response as ending
use Rattle.steps.specs.Step.{refusing, output_holds, output_after, output_after_ending}
use Rattle.steps.proofs.Outputs.{front, behind}
use Rattle.steps.specs.Page.{columns, padded, names, class_letter, key_column, mark, attributes_column, first_column, second_column, line, LineFormed, with_own, own_of, shown_on, lines, page, writing, paging, property_page}

-- Why a call for a page ended as it did, with all that it answered and left
pub data PageEnds (ω : World) (o : ℕ) (output : List ℕ) : Effect → Type 0 where
  missing : lookup ω.store o ≡ None → PageEnds ω o output (refusing 2 ω output)
  proxied : {p : ProxyObject} → lookup ω.store o ≡ Some (Proxy p) → PageEnds ω o output (refusing 3 ω output)
  short : {r : OrdinaryObject} → lookup ω.store o ≡ Some (Ordinary r) → output_holds (result.page (page ω o)) output ≡ false → PageEnds ω o output (refusing 11 ω output)
  writes : {r : OrdinaryObject} → lookup ω.store o ≡ Some (Ordinary r) → output_holds (result.page (page ω o)) output ≡ true
      → PageEnds ω o output (record { response = record { ending = ending.result (result.page (page ω o)); answers = 0; calls = 0 }; world = ω; output = output_after (result.page (page ω o)) output })

pub page-ends : (ω : World) (o : ℕ) (output : List ℕ) → PageEnds ω o output (property_page ω o output)
unfolding property_page
page-ends ω o output = by-object (lookup ω.store o) refl
  where
    by-room : (r : OrdinaryObject) → lookup ω.store o ≡ Some (Ordinary r) → (b : Bool) → output_holds (result.page (page ω o)) output ≡ b → PageEnds ω o output (writing ω (page ω o) output b)
    by-room r e false h = short e h
    by-room r e true h = writes e h

    by-object : (x : Option Object) → lookup ω.store o ≡ x → PageEnds ω o output (paging ω o output x)
    by-object None e = missing e
    by-object (Some (Ordinary r)) e = by-room r e (output_holds (result.page (page ω o)) output) refl
    by-object (Some (Proxy p)) e = proxied e

-- a page leaves the world, whatever its end
pub page-leaves : (ω : World) (o : ℕ) (output : List ℕ) → (property_page ω o output).world ≡ ω
page-leaves ω o output = go (page-ends ω o output)
  where
    go : {x : Effect} → PageEnds ω o output x → x.world ≡ ω
    go (missing e) = refl
    go (proxied e) = refl
    go (short e h) = refl
    go (writes e h) = refl

-- every output byte, by how the call ended
pub page-output-is : (ω : World) (o : ℕ) (output : List ℕ) → (property_page ω o output).output ≡ output_after_ending (property_page ω o output).response.ending output
page-output-is ω o output = go (page-ends ω o output)
  where
    go : {x : Effect} → PageEnds ω o output x → x.output ≡ output_after_ending x.response.ending output
    go (missing e) = refl
    go (proxied e) = refl
    go (short e h) = refl
    go (writes e h) = refl

-- Lengths -------------------------------------------------------------------------------

length-columns : (a b c d : List ℕ) → length (columns a b c d) ≡ length a + length b + length c + length d + 4
unfolding columns
length-columns a b c d = simp length-append (omega arith)

length_digits : (v : Value) → length (hexadecimal (value_bytes v)) ≡ 18
length_digits v = omega (arith, length-hexadecimal (value_bytes v), length-value v)

pub length-key : (k : PropertyKey) → length (key_column k) ≡ 4
unfolding key_column
length-key k = refl

pub length-attributes : (p : Property) → length (attributes_column p) ≡ 3
length-attributes (Data v w e c) = refl
length-attributes (Accessor g s e c) = refl

pub length-first : (p : Property) → length (first_column p) ≡ 18
length-first (Data v w e c) = length_digits v
length-first (Accessor g s e c) = length_digits g

pub length-second : (p : Property) → length (second_column p) ≡ 18
unfolding padded
length-second (Data v w e c) = refl
length-second (Accessor g s e c) = length_digits s

-- 46 characters and a line feed
pub length-line : (k : PropertyKey) (p : Property) → length (line k p) ≡ 47
length-line k p = length-columns (key_column k) (attributes_column p) (first_column p) (second_column p) ∙ omega (arith, length-key k, length-attributes p, length-first p, length-second p)

pub length-names : length names ≡ 47
unfolding columns padded
length-names = refl

columns-formed : (a b c d : List ℕ) → length a ≡ 4 → length b ≡ 3 → length c ≡ 18 → length d ≡ 18
    → are_printable a ≡ true → are_printable b ≡ true → are_printable c ≡ true → are_printable d ≡ true → LineFormed (columns a b c d)
unfolding columns
columns-formed a b c d x y z w e f g h =
    let body = a ++ (space ∷ (b ++ (space ∷ (c ++ (space ∷ d))))) in
    let n : length body ≡ 46 = simp length-append (omega arith) in
    let q : a ++ (space ∷ (b ++ (space ∷ (c ++ (space ∷ (d ++ (line_feed ∷ []))))))) ≡ body ++ (line_feed ∷ []) = simp append_assoc in
    record {
      printable = ap (λ (l : List ℕ). are_printable (take 46 l)) q ∙ (ap are_printable (front 46 body (line_feed ∷ []) n) ∙ joined);
      fed = ap (drop 46) q ∙ behind 46 0 body (line_feed ∷ []) n;
    }
  where
    after : (l : List ℕ) → are_printable l ≡ true → are_printable (space ∷ l) ≡ true
    after l i = printable-one space l (omega arith) (omega arith) i

    joined : are_printable (a ++ (space ∷ (b ++ (space ∷ (c ++ (space ∷ d)))))) ≡ true
    joined =
        printable-append a (space ∷ (b ++ (space ∷ (c ++ (space ∷ d))))) e (after (b ++ (space ∷ (c ++ (space ∷ d))))
        (printable-append b (space ∷ (c ++ (space ∷ d))) f (after (c ++ (space ∷ d))
        (printable-append c (space ∷ d) g (after d h)))))

nothing-printable : are_printable [] ≡ true
unfolding are_printable
nothing-printable = refl

digit-after : (n : ℕ) (l : List ℕ) → are_printable l ≡ true → are_printable ((48 + n % 10) ∷ l) ≡ true
digit-after n l e = printable-one (48 + n % 10) l (omega arith) (omega arith) e

printable-key : (k : PropertyKey) → are_printable (key_column k) ≡ true
unfolding key_column
printable-key k =
    letter k (digit-after (key_number k / 100) ((48 + key_number k / 10 % 10) ∷ (48 + key_number k % 10) ∷ [])
    (digit-after (key_number k / 10) ((48 + key_number k % 10) ∷ []) (digit-after (key_number k) [] nothing-printable)))
  where
    digits : List ℕ
    digits = (48 + key_number k / 100 % 10) ∷ (48 + key_number k / 10 % 10) ∷ (48 + key_number k % 10) ∷ []

    letter : (l : PropertyKey) → are_printable digits ≡ true → are_printable (class_letter l ∷ digits) ≡ true
    letter (String s) e = printable-one 115 digits (omega arith) (omega arith) e
    letter (Symbol s) e = printable-one 121 digits (omega arith) (omega arith) e

marked : (b : Bool) (letter : ℕ) (l : List ℕ) → 32 ≤ letter → letter ≤ 126 → are_printable l ≡ true → are_printable (mark b letter ∷ l) ≡ true
marked true letter l h i e = printable-one letter l h i e
marked false letter l h i e = printable-one 46 l (omega arith) (omega arith) e

printable-attributes : (p : Property) → are_printable (attributes_column p) ≡ true
printable-attributes (Data v w e c) =
    marked e 101 (mark c 99 ∷ mark w 119 ∷ []) (omega arith) (omega arith) (marked c 99 (mark w 119 ∷ []) (omega arith) (omega arith) (marked w 119 [] (omega arith) (omega arith) nothing-printable))
printable-attributes (Accessor g s e c) =
    marked e 101 (mark c 99 ∷ 45 ∷ []) (omega arith) (omega arith) (marked c 99 (45 ∷ []) (omega arith) (omega arith) (printable-one 45 [] (omega arith) (omega arith) nothing-printable))

printable-first : (p : Property) → are_printable (first_column p) ≡ true
printable-first (Data v w e c) = value-printable v
printable-first (Accessor g s e c) = value-printable g

printable-second : (p : Property) → are_printable (second_column p) ≡ true
unfolding padded are_printable
printable-second (Data v w e c) = refl
printable-second (Accessor g s e c) = value-printable s

pub line-formed : (k : PropertyKey) (p : Property) → LineFormed (line k p)
line-formed k p = columns-formed (key_column k) (attributes_column p) (first_column p) (second_column p) (length-key k) (length-attributes p) (length-first p) (length-second p)
    (printable-key k) (printable-attributes p) (printable-first p) (printable-second p)

pub names-formed : LineFormed names
unfolding columns padded are_printable
names-formed = record { printable = refl; fed = refl }

pub length-lines : (shown : List (PropertyKey × Property)) → length (lines shown) ≡ 47 * length shown
unfolding lines
length-lines [] = refl
length-lines ((k, p) ∷ shown) = omega (arith, length-append (line k p) (lines shown), length-line k p, length-lines shown)

-- Order ---------------------------------------------------------------------------------

abbrev pub shown_key : PropertyKey × Property → PropertyKey
shown_key x = x.0

-- every key has a property
keys-own : (σ : Store) (o : ℕ) (ks : List PropertyKey) → ((k : PropertyKey) → has_key k ks ≡ true → not (is_absent (own σ o k)) ≡ true) → map shown_key (own_of σ o ks) ≡ ks
unfolding own_of has_key
keys-own σ o [] h = refl
keys-own σ o (k ∷ ks) h = go (own σ o k) (h k (rw (key-refl k))) (keys-own σ o ks (λ l e. h l (or_true_right (same_key k l) (has_key l ks) e)))
  where
    go : (x : Option Property) → not (is_absent x) ≡ true → map shown_key (own_of σ o ks) ≡ ks → map shown_key (with_own k x (own_of σ o ks)) ≡ k ∷ ks
    go None e f = absurd (false≢true e)
    go (Some p) e f = ap (λ (ls : List PropertyKey). k ∷ ls) f

-- a page shows the own keys in their order
pub keys-shown : (ω : World) (o : ℕ) → map shown_key (shown_on ω o) ≡ ordinary_own_property_keys ω.strings ω.store o
keys-shown ω o = keys-own ω.store o _ (λ k h. sym (own-keys-has ω.strings ω.store o k) ∙ h)

length-map : (xs : List (PropertyKey × Property)) → length (map shown_key xs) ≡ length xs
length-map [] = refl
length-map (x ∷ xs) = omega (arith, length-map xs)

-- the names, and a line for each own key
pub length-page : (ω : World) (o : ℕ) → length (page ω o) ≡ 47 * suc (length (ordinary_own_property_keys ω.strings ω.store o))
unfolding page
length-page ω o = omega (arith, length-names, length-append names (lines (shown_on ω o)), length-lines (shown_on ω o), length-map (shown_on ω o), ap length (keys-shown ω o))
