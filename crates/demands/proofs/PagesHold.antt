-- What is said of pages holds. Assumes nothing.
use Rattle.std.specs.Prelude.{Option, None, Some, slice_get}
use Prim.Native.Nat.{ℕ, zero, suc, ◌+◌, ◌*◌, ◌/◌, ◌%◌, ◌≤◌, ◌<◌}
use native.Mathlib.Nat.{le_refl, le_trans, le-suc, le_of_lt}
use native.Mathlib.Omega.{arith}
use mathlib.Core.Path.{◌≡◌, refl, sym, ap, ◌∙◌, subst}
use mathlib.Core.Bool.{Bool, true, false, ◌||◌, false≢true}
use mathlib.Core.List.{List, [], ◌∷◌, map}
use lib.ListN.{length, get_or, take, drop, drop_of_length-le}
use borrow.Author.Tests.{leb-false, lt-leb}
use Rattle.value.specs.declared.Value.{Value}
use Rattle.value.specs.declared.PropertyKey.{PropertyKey}
use Rattle.value.specs.declared.PropertyKey.TheVariants.{String, Symbol}
use Rattle.value.specs.PropertyKey.{same_key, key_number}
use Rattle.value.proofs.SameKey.{key-eq}
use Rattle.property.specs.declared.Property.{Property}
use Rattle.property.specs.declared.Property.TheVariants.{Data, Accessor}
use Rattle.store.specs.declared.OrdinaryObject.{OrdinaryObject}
use Rattle.store.specs.declared.Object.TheVariants.{Ordinary}
use Rattle.store.specs.Store.{Store, World, empty, lookup, own}
use Rattle.store.specs.OwnKeys.{ordinary_own_property_keys}
use Rattle.internal_methods.specs.Monad.{done, state}
use Rattle.internal_methods.specs.KeyList.{has_key}
use Rattle.internal_methods.specs.Internal.{methods}
use Rattle.internal_methods.proofs.Base.{frozen_as, is_absent, here}
use Rattle.internal_methods.proofs.KeyListLaws.{own-keys-has}
use Rattle.internal_methods.proofs.OrdinaryRuns.{own-run, keys-run}
use Rattle.record.specs.Sheet.{sheet_of}
use Rattle.steps.specs.Operation.{Operation, get_own_property, own_property_keys, asked}
use Rattle.steps.specs.Perform.{Result, absent, keys, own_result, maximum_calls, perform}
use Rattle.steps.specs.Perform as result
use Rattle.steps.specs.Sequence.{Ran}
use Rattle.steps.specs.Response.{Response, refused, result, Effect}
use Rattle.steps.specs.Step.{context_of, refusing, ran, step}
use Rattle.steps.specs.Page.{columns, names, key_column, line, LineFormed, with_own, own_of, shown_on, lines, page, property_page}
use Rattle.steps.specs.Run.{Call, Event, At, effect, run, world_at}
use Rattle.steps.proofs.Steps.{ends, resulted}
use Rattle.steps.proofs.Outputs.{front, behind}
use Rattle.steps.proofs.Pages.{PageEnds, page-ends, page-leaves, length-key, length-line, line-formed, names-formed, length-names, length-lines, shown_key, keys-shown, length-page}
use Rattle.steps.proofs.Places.{happened-from}
use Rattle.steps.proofs.KnownKeys.{KnownKeys, known_at}
use Rattle.demands.specs.Pages.{PageRefusal, missing, proxied, short, PageDecided, line_at, key_at, Lists, Says, lacks, has, PagesSay, ShowsPage, SaysFixed, PagesLast}
use Rattle.demands.proofs.AcceptsHold.{reads-run}
use Rattle.demands.proofs.Carrying.{within}
use Rattle.demands.proofs.LastingHolds.{fixed-learnt, shut-learnt, absent-learnt}

-- Demand 1 ----------------------------------------------------------------------------------

element-below : {A : Type 0} (l : List A) (i : ℕ) → i < length l → (x : A) × (slice_get l i ≡ Some x)
element-below [] i h = absurd (omega (arith, h))
element-below (x ∷ l) zero h = (x, refl)
element-below (x ∷ l) (suc i) h = element-below l i (omega (arith, h))

above-none : {A : Type 0} (l : List A) (i : ℕ) → slice_get l i ≡ None → length l ≤ i
above-none [] i h = omega arith
above-none (x ∷ l) zero h = absurd (false≢true cc)
above-none (x ∷ l) (suc i) h = omega (arith, above-none l i h)

refused-is : (m n : ℕ) → refused m ≡ refused n → m ≡ n
refused-is m n h = cc

module _ (ω : World) (o : ℕ) (output : List ℕ) where
  page-refused-by : (n : ℕ) → PageRefusal ω o output n → (property_page ω o output).response.ending ≡ refused n
  unfolding property_page lookup
  page-refused-by n (missing h) = rw h
  page-refused-by n (proxied e) = rw e
  page-refused-by n (short e h) = rw (e, lt-leb (length (page ω o)) (length output) (omega (arith, h, length-page ω o)))

  page-only-by : (n : ℕ) {x : Effect} → PageEnds ω o output x → x.response.ending ≡ refused n → PageRefusal ω o output n × (x ≡ refusing n ω output)
  unfolding lookup
  page-only-by n (PageEnds.missing e) h = let q : 2 ≡ n = refused-is 2 n h in (subst (PageRefusal ω o output) q (missing e), ap (λ (i : ℕ). refusing i ω output) q)
  page-only-by n (PageEnds.proxied e) h = let q : 3 ≡ n = refused-is 3 n h in (subst (PageRefusal ω o output) q (proxied e), ap (λ (i : ℕ). refusing i ω output) q)
  page-only-by n (PageEnds.short e f) h = let q : 11 ≡ n = refused-is 11 n h in (subst (PageRefusal ω o output) q (short e (omega (arith, leb-false (length (page ω o)) (length output) f, length-page ω o))), ap (λ (i : ℕ). refusing i ω output) q)
  page-only-by n (PageEnds.writes e f) h = let z : result (result.page (page ω o)) ≡ refused n = h in absurd (false≢true cc)

  page-accepted : {x : Effect} → PageEnds ω o output x → ((n : ℕ) → x.response.ending ≡ refused n → ⊥) → x.response.ending ≡ result (result.page (page ω o))
  page-accepted (PageEnds.missing e) h = absurd (h 2 refl)
  page-accepted (PageEnds.proxied e) h = absurd (h 3 refl)
  page-accepted (PageEnds.short e f) h = absurd (h 11 refl)
  page-accepted (PageEnds.writes e f) h = refl

  pub page-decided : PageDecided ω o output
  page-decided = record {
    refuses = λ n. (λ h. (page-only-by n (page-ends ω o output) h).0, page-refused-by n);
    accepts = λ h. page-accepted (page-ends ω o output) (λ n e. h n (page-only-by n (page-ends ω o output) e).0);
    untouched = λ n h. (page-only-by n (page-ends ω o output) h).1;
    unchanged = page-leaves ω o output;
  }

-- Lines ---------------------------------------------------------------------------------------

pair_is : (x y : PropertyKey × Property) → Some x ≡ Some y → (x.0 ≡ y.0) × (x.1 ≡ y.1)
pair_is x y e = let i : x ≡ y = cc in (ap (λ (z : PropertyKey × Property). z.0) i, ap (λ (z : PropertyKey × Property). z.1) i)

line-stands : (xs : List (PropertyKey × Property)) (n : ℕ) (k : PropertyKey) (p : Property) → slice_get xs n ≡ Some (k, p) → take 47 (drop (47 * n) (lines xs)) ≡ line k p
unfolding lines
line-stands [] n k p e = absurd (false≢true cc)
line-stands ((l, q) ∷ xs) zero k p e =
    let (a, b) = pair_is (l, q) (k, p) e in
    front 47 (line l q) (lines xs) (length-line l q) ∙ rw (a, b)
line-stands ((l, q) ∷ xs) (suc n) k p e =
    let z : 47 * suc n ≡ 47 + 47 * n = omega arith in
    rw z (ap (take 47) (behind 47 (47 * n) (line l q) (lines xs) (length-line l q)) ∙ line-stands xs n k p e)

line-none : (xs : List (PropertyKey × Property)) (n : ℕ) → slice_get xs n ≡ None → take 47 (drop (47 * n) (lines xs)) ≡ []
line-none xs n e = rw (drop_of_length-le (lines xs) {i = 47 * n} (omega (arith, length-lines xs, above-none xs n e)))

-- the key's column stands first, and tells a key whose number has at most three digits
key-first : (k : PropertyKey) (p : Property) → take 4 (line k p) ≡ key_column k
unfolding columns
key-first k p = front 4 (key_column k) _ (length-key k)

-- a number below 1,000 is the sum of its three digits
pub digits_sum : (a : ℕ) → a < 1000 → a ≡ 100 * (a / 100 % 10) + (10 * (a / 10 % 10) + a % 10)
digits_sum a h = omega (arith, h)

sums_same : (a b x y z u v w : ℕ) → a ≡ 100 * x + (10 * y + z) → b ≡ 100 * u + (10 * v + w) → 48 + x ≡ 48 + u → 48 + y ≡ 48 + v → 48 + z ≡ 48 + w → a ≡ b
sums_same a b x y z u v w e f p q r = omega (arith, e, f, p, q, r)

digits-told : (a b : ℕ) → a < 1000 → b < 1000 → (48 + a / 100 % 10) ∷ (48 + a / 10 % 10) ∷ (48 + a % 10) ∷ [] ≡ (48 + b / 100 % 10) ∷ (48 + b / 10 % 10) ∷ (48 + b % 10) ∷ [] → a ≡ b
digits-told a b h i e = sums_same a b _ _ _ _ _ _ (digits_sum a h) (digits_sum b i) (ap (λ (c : List ℕ). get_or c 0 0) e) (ap (λ (c : List ℕ). get_or c 1 0) e) (ap (λ (c : List ℕ). get_or c 2 0) e)

key-told : (k l : PropertyKey) → key_number k < 1000 → key_number l < 1000 → key_column k ≡ key_column l → k ≡ l
unfolding key_column
key-told (String a) (String b) h i e = ap String (digits-told a b h i (ap (drop 1) e))
key-told (String a) (Symbol b) h i e = absurd (omega (arith, ap (λ (c : List ℕ). get_or c 0 0) e))
key-told (Symbol a) (String b) h i e = absurd (omega (arith, ap (λ (c : List ℕ). get_or c 0 0) e))
key-told (Symbol a) (Symbol b) h i e = ap Symbol (digits-told a b h i (ap (drop 1) e))

-- What is shown -------------------------------------------------------------------------------

module _ (σ : Store) (o : ℕ) where
  -- is what is there
  pub shown-own : (ks : List PropertyKey) (n : ℕ) (k : PropertyKey) (p : Property) → slice_get (own_of σ o ks) n ≡ Some (k, p) → own σ o k ≡ Some p
  unfolding own_of
  shown-own [] n k p e = absurd (false≢true cc)
  shown-own (l ∷ ks) n k p e = go (own σ o l) refl n e (λ m. shown-own ks m k p)
    where
      go : (x : Option Property) → own σ o l ≡ x → (m : ℕ) → slice_get (with_own l x (own_of σ o ks)) m ≡ Some (k, p)
          → ((i : ℕ) → slice_get (own_of σ o ks) i ≡ Some (k, p) → own σ o k ≡ Some p) → own σ o k ≡ Some p
      go None q m f rest = rest m f
      go (Some r) q zero f rest = let (a, b) = pair_is (l, r) (k, p) f in rw (← a, q, b)
      go (Some r) q (suc m) f rest = rest m f

  -- every key that is there is shown
  shown-has : (ks : List PropertyKey) (k : PropertyKey) (p : Property) → has_key k ks ≡ true → own σ o k ≡ Some p → (n : ℕ) × (slice_get (own_of σ o ks) n ≡ Some (k, p))
  unfolding own_of has_key
  shown-has [] k p h e = absurd (false≢true h)
  shown-has (l ∷ ks) k p h e = go (same_key l k) refl h (λ f. shown-has ks k p f e)
    where
      later : (x : Option Property) → (n : ℕ) × (slice_get (own_of σ o ks) n ≡ Some (k, p)) → (n : ℕ) × (slice_get (with_own l x (own_of σ o ks)) n ≡ Some (k, p))
      later None (n, f) = (n, f)
      later (Some r) (n, f) = (suc n, f)

      go : (b : Bool) → same_key l k ≡ b → (b || has_key k ks) ≡ true → (has_key k ks ≡ true → (n : ℕ) × (slice_get (own_of σ o ks) n ≡ Some (k, p)))
          → (n : ℕ) × (slice_get (with_own l (own σ o l) (own_of σ o ks)) n ≡ Some (k, p))
      go true q f rest = let a : l ≡ k = key-eq l k q in rw (a, e) (0, refl)
      go false q f rest = later (own σ o l) (rest f)

-- a key that is shown has its property beside it
key-paired : (xs : List (PropertyKey × Property)) (n : ℕ) (k : PropertyKey) → slice_get (map shown_key xs) n ≡ Some k → (p : Property) × (slice_get xs n ≡ Some (k, p))
key-paired [] n k e = absurd (false≢true cc)
key-paired ((l, p) ∷ xs) zero k e = let a : l ≡ k = cc in rw a (p, refl)
key-paired (x ∷ xs) (suc n) k e = key-paired xs n k e

module _ (ω : World) (o : ℕ) where
  page-line : (n : ℕ) → line_at (page ω o) (suc n) ≡ take 47 (drop (47 * n) (lines (shown_on ω o)))
  unfolding page
  page-line n =
      let z : 47 * suc n ≡ 47 + 47 * n = omega arith in
      rw z (ap (take 47) (behind 47 (47 * n) names (lines (shown_on ω o)) length-names))

  page-names : line_at (page ω o) 0 ≡ names
  unfolding page
  page-names = front 47 names (lines (shown_on ω o)) length-names

  shown-at-key : (n : ℕ) (k : PropertyKey) → slice_get (ordinary_own_property_keys ω.strings ω.store o) n ≡ Some k → (p : Property) × (slice_get (shown_on ω o) n ≡ Some (k, p))
  shown-at-key n k e = key-paired (shown_on ω o) n k (ap (λ (ks : List PropertyKey). slice_get ks n) (keys-shown ω o) ∙ e)

  page-lists : Lists (page ω o) (ordinary_own_property_keys ω.strings ω.store o)
  page-lists = record {
    sized = length-page ω o;
    formed = elim [
      | zero ↦ λ h. subst LineFormed (sym page-names) names-formed
      | suc n ↦ λ h.
          let (k, e) = element-below (ordinary_own_property_keys ω.strings ω.store o) n h in
          let (p, f) = shown-at-key n k e in
          subst LineFormed (sym (page-line n ∙ line-stands (shown_on ω o) n k p f)) (line-formed k p)
    ];
    headed = page-names;
    keyed = λ n k e.
        let (p, f) = shown-at-key n k e in
        ap (take 4) (page-line n ∙ line-stands (shown_on ω o) n k p f) ∙ key-first k p;
  }

  module _ (known : KnownKeys ω) where
    -- a line that has the key has its property
    same_line : (k : PropertyKey) → key_number k < 1000 → (m : ℕ) → key_at (page ω o) m ≡ key_column k → (p : Property) × (own ω.store o k ≡ Some p) × (line_at (page ω o) (suc m) ≡ line k p)
    same_line k small m h = go (slice_get (shown_on ω o) m) refl
      where
        go : (x : Option (PropertyKey × Property)) → slice_get (shown_on ω o) m ≡ x → (p : Property) × (own ω.store o k ≡ Some p) × (line_at (page ω o) (suc m) ≡ line k p)
        go None e =
            let z : take 4 (line_at (page ω o) (suc m)) ≡ [] = ap (take 4) (page-line m ∙ line-none (shown_on ω o) m e) in
            absurd (omega (arith, ap length (sym z ∙ h), length-key k))
        go (Some (l, q)) e =
            let there = shown-own ω.store o _ m l q e in
            let stands = page-line m ∙ line-stands (shown_on ω o) m l q e in
            let same : l ≡ k = key-told l k (omega (arith, known.keys o l q there)) small (sym (ap (take 4) stands ∙ key-first l q) ∙ h) in
            subst (λ (j : PropertyKey). (p : Property) × (own ω.store o j ≡ Some p) × (line_at (page ω o) (suc m) ≡ line j p)) same (q, there, stands)

    says : (k : PropertyKey) → key_number k < 1000 → (x : Option Property) → own ω.store o k ≡ x → Says (page ω o) k (own_result x)
    says k small None e = lacks (λ n h. let (p, there, stands) = same_line k small n h in false≢true cc)
    says k small (Some p) e =
        let (n, f) = shown-has ω.store o _ k p (own-keys-has ω.strings ω.store o k ∙ rw e) e in
        has p n (page-line n ∙ line-stands (shown_on ω o) n k p f) (λ m h.
        let (q, there, stands) = same_line k small m h in
        let same : q ≡ p = cc in
        rw same at stands)

-- What steps answer -----------------------------------------------------------------------------

module _ (ω : World) (bytes sheet output : List ℕ) (o : ℕ) (r : OrdinaryObject) (found : lookup ω.store o ≡ Some (Ordinary r)) where
  answers : (asks : Operation) (x y : Result) → asked bytes ≡ asks → (perform maximum_calls (context_of ω) asks).run (state (sheet_of sheet) maximum_calls) ≡ (done y (state (sheet_of sheet) 2047), ω.store)
      → (step ω bytes sheet output).response.ending ≡ result x → x ≡ y
  unfolding ran
  answers asks x y e run h =
      let d = resulted x (ends ω bytes sheet output) h in
      let f : (perform maximum_calls (context_of ω) asks).run (state (sheet_of sheet) maximum_calls) ≡ (done x d.rest, d.store) = subst (λ (z : Operation). (perform maximum_calls (context_of ω) z).run (state (sheet_of sheet) maximum_calls) ≡ (done x d.rest, d.store)) e d.runs in
      let g : done x d.rest ≡ done y (state (sheet_of sheet) 2047) = ap (λ (z : Ran Result). z.0) (sym f ∙ run) in
      cc

  own-answer : (k : PropertyKey) (x : Result) → asked bytes ≡ get_own_property o k → (step ω bytes sheet output).response.ending ≡ result x → x ≡ own_result (own ω.store o k)
  unfolding perform
  own-answer k x e h = answers (get_own_property o k) x _ e (reads-run ω.store own_result ((methods maximum_calls (context_of ω)).get_own_property o k) (own-run (context_of ω) o r found (sheet_of sheet) 2047 2047 k _ refl)) h

  keys-answer : (ks : List PropertyKey) → asked bytes ≡ own_property_keys o → (step ω bytes sheet output).response.ending ≡ result (keys ks) → ks ≡ ordinary_own_property_keys ω.strings ω.store o
  unfolding perform
  keys-answer ks e h =
      let q = answers (own_property_keys o) (keys ks) _ e (reads-run ω.store keys ((methods maximum_calls (context_of ω)).own_property_keys o) (keys-run (context_of ω) o r found (sheet_of sheet) 2047 2047)) h in
      cc

pub pages-say : (calls : List Call) → PagesSay calls
pages-say calls = record {
  listed = λ i o r bytes sheet output ks found e h. subst (Lists (page (world_at calls i) o)) (sym (keys-answer (world_at calls i) bytes sheet output o r found ks e h)) (page-lists (world_at calls i) o);
  told = λ i o r bytes sheet output k x found e small h. subst (Says (page (world_at calls i) o) k) (sym (own-answer (world_at calls i) bytes sheet output o r found k x e h)) (says (world_at calls i) o (known_at calls i) k small _ refl);
}

-- Lasting reports -------------------------------------------------------------------------------

-- a page that is shown is the object's
record Shown (ω : World) (o : ℕ) (text : List ℕ) : Type 0 where
  object : OrdinaryObject
  found : lookup ω.store o ≡ Some (Ordinary object)
  is : text ≡ page ω o

page-shown : {ω : World} {o : ℕ} {output : List ℕ} {x : Effect} (text : List ℕ) → PageEnds ω o output x → x.response.ending ≡ result (result.page text) → Shown ω o text
page-shown text (PageEnds.missing e) h = let z : refused 2 ≡ result (result.page text) = h in absurd (false≢true cc)
page-shown text (PageEnds.proxied e) h = let z : refused 3 ≡ result (result.page text) = h in absurd (false≢true cc)
page-shown text (PageEnds.short e f) h = let z : refused 11 ≡ result (result.page text) = h in absurd (false≢true cc)
page-shown {ω} {o} text (PageEnds.writes {r = r} e f) h =
    let z : result (result.page (page ω o)) ≡ result (result.page text) = h in
    record { object = r; found = e; is = cc }

module _ (calls : List Call) where
  shown-at : (j o : ℕ) (f : Event) (text : List ℕ) → At (run calls) j f → ShowsPage f o text → Shown (world_at calls j) o text
  unfolding run effect
  shown-at j o f text h s =
      let p = happened-from empty calls j f h in
      let q = ap (λ (c : Call). effect (world_at calls j) c) s.call in
      page-shown text (page-ends (world_at calls j) o s.output) (ap (λ (x : Effect). x.response.ending) (sym q) ∙ (ap (λ (x : Response). x.ending) (sym p.response) ∙ s.ending))

  fixed-says : (j o : ℕ) (k : PropertyKey) (v : Value) (d : Option Property) → own (world_at calls j).store o k ≡ d → frozen_as v d ≡ true → SaysFixed (page (world_at calls j) o) k v
  fixed-says j o k v None e h = absurd (false≢true h)
  fixed-says j o k v (Some (Accessor g s n c)) e h = absurd (false≢true h)
  fixed-says j o k v (Some (Data w true n c)) e h = absurd (false≢true h)
  fixed-says j o k v (Some (Data w false n true)) e h = absurd (false≢true h)
  fixed-says j o k v (Some (Data w false n false)) e h =
      let known = known_at calls j in
      record { current = w; enumerable = n; same = h; says = says (world_at calls j) o known k (omega (arith, known.keys o k _ e)) _ e }

  absent-says : (j o : ℕ) (k : PropertyKey) → key_number k < 1000 → (d : Option Property) → own (world_at calls j).store o k ≡ d → is_absent d ≡ true → Says (page (world_at calls j) o) k absent
  absent-says j o k small None e h = says (world_at calls j) o (known_at calls j) k small None e
  absent-says j o k small (Some p) e h = absurd (false≢true h)

  pub pages-last : PagesLast (run calls)
  pages-last = record {
    fixed = λ i j e f o k v text l n he hf t s.
        let shown = shown-at j o f text hf s in
        subst (λ (x : List ℕ). SaysFixed x k v) (sym shown.is) (fixed-says j o k v _ refl ((fixed-learnt calls i e o k v he t j l n).at (here shown.found)));
    hidden = λ i j m e f g o k text l n u he hf hg small t a s.
        let shown = shown-at m o g text hg s in
        subst (λ (x : List ℕ). Says x k absent) (sym shown.is) (absent-says m o k small _ refl ((absent-learnt calls j f o k hf (shut-learnt calls i e o he t j l (within (suc i) j u (le_refl (suc i)) (le_of_lt n))) a m n (within (suc j) m u (le_trans l (le-suc j)) (le_refl m))).at (here shown.found)).1);
  }
