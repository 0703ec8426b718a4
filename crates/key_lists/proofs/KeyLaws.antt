-- Laws of keys in bytes and in words. Assumes nothing.
use Rattle.std.specs.Prelude.{Option, None, Some}
use Prim.Native.Nat.{ℕ, zero, suc, ◌+◌, ◌*◌, ◌/◌, ◌%◌, ◌<◌, ◌≤◌}
use native.Mathlib.Omega.{arith}
use native.Mathlib.Numerals.{add-one}
use mathlib.Core.Path.{◌≡◌, refl, sym, ap, ◌∙◌}
use Rattle.std.specs.List.{list_all, range_with_len}
use mathlib.Core.Bool.{Bool, true, false, ◌&&◌, false≢true}
use mathlib.Core.List.{List, [], ◌∷◌, ◌++◌, map, append_assoc, append-nil}
use lib.Dec.{eqb, ltb}
use lib.ListN.{length, get_or, take, drop, length-append, length-drop, length-map}
use Rattle.std.proofs.lemmas.List.{get_or_append_left}
use lib.Seq.{sets, sets-eq, take-suc, take_at, drop_at, drop-drop, length-take-le}
use borrow.Author.Tests.{ne_eqb, eqb-true, eqb-false, ltb-true}
use Rattle.value.specs.declared.Value.{Value}
use Rattle.value.specs.declared.Value.TheVariants as value
use Rattle.value.specs.declared.PropertyKey.{PropertyKey}
use Rattle.value.specs.PropertyKey.{key_of, key_value}
use Rattle.value.specs.Words.{pick, value_of}
use Rattle.internal_methods.specs.Answers.{cons_key, keys_of}
use Rattle.record.specs.Bytes.{byte_at, number_at, value_at, value_bytes}
use Rattle.record.specs.Step.{is_some}
use Rattle.record.specs.Sheet.{values_at, values_pass}
use Rattle.record.proofs.RoundTrip.{length-value}
use Rattle.steps.proofs.Outputs.{length-keys}
use Rattle.store_read.specs.Answers.{key_from_word, Listed}
use Rattle.store_read.proofs.ListLaws.{map-append}
use Rattle.steps.specs.Step.{keys_bytes}
use Rattle.key_lists.specs.Keys.{keys_held, is_bounded_key}

-- A value by its kind ---------------------------------------------------------------------

pub is-string : (b : List ℕ) (i : ℕ) → byte_at b i ≡ 5 → value_at b i ≡ value.String (number_at b (suc i) 8)
unfolding value_at value_of
is-string b i h = rw h

pub is-symbol : (b : List ℕ) (i : ℕ) → byte_at b i ≡ 6 → value_at b i ≡ value.Symbol (number_at b (suc i) 8)
unfolding value_at value_of
is-symbol b i h = rw h

pick-none : (t : Bool) (v w : Value) → key_of v ≡ None → key_of w ≡ None → key_of (pick t v w) ≡ None
pick-none true v w e f = e
pick-none false v w e f = f

-- no other kind is a key's
no_key : (k p : ℕ) → eqb k 5 ≡ false → eqb k 6 ≡ false → key_of (value_of k p) ≡ None
unfolding value_of
no_key k p e f =
    rw (e, f)
    (pick-none (eqb k 1) _ _ refl
    (pick-none (eqb k 2) _ _ refl
    (pick-none (eqb k 3) _ _ (pick-none (ltb p 4294967296) _ _ refl refl)
    (pick-none (eqb k 4) _ _ refl
    (pick-none (eqb k 7) _ _ refl
    (pick-none (eqb k 8) _ _ refl refl))))))

module _ (b : List ℕ) (i : ℕ) where
  pub string-is-key : byte_at b i ≡ 5 → true ≡ is_some (key_of (value_at b i))
  string-is-key h = rw (is-string b i h)

  other_none : (byte_at b i ≡ 5 → ⊥) → eqb (byte_at b i) 6 ≡ false → key_of (value_at b i) ≡ None
  unfolding value_at
  other_none h e = no_key (byte_at b i) (number_at b (suc i) 8) (ne_eqb _ _ h) e

  pub symbol-is-key : byte_at b i ≡ 6 → true ≡ is_some (key_of (value_at b i))
  symbol-is-key h = rw (is-symbol b i h)

  pub other-is-none : (byte_at b i ≡ 5 → ⊥) → (byte_at b i ≡ 6 → ⊥) → false ≡ is_some (key_of (value_at b i))
  other-is-none h g = rw (other_none h (ne_eqb _ _ g))

  pub other-is-symbol : (byte_at b i ≡ 5 → ⊥) → is_some (key_of (value_at b i)) ≡ true → byte_at b i ≡ 6
  other-is-symbol h e = go (eqb (byte_at b i) 6) refl
    where
      go : (t : Bool) → eqb (byte_at b i) 6 ≡ t → byte_at b i ≡ 6
      go true q = eqb-true _ _ q
      go false q = absurd (false≢true (other-is-none h (eqb-false _ _ q) ∙ e))

-- a key is a string or a symbol, and known where its number is below 256
module _ (b : List ℕ) (i : ℕ) (known : is_bounded_key (value_at b i) ≡ true) (p : ℕ) (e : p ≡ number_at b (i + 1) 8) where
  payload : number_at b (suc i) 8 ≡ p
  payload = sym (rw add-one at e)

  pub string-word : byte_at b i ≡ 5 → (key_of (value_at b i) ≡ Some (key_from_word (2 * p))) × (p < 256)
  unfolding is_bounded_key key_from_word
  string-word h =
      let l : p < 256 = ltb-true _ _ (rw (is-string b i h, payload) at known) in
      let m : 2 * p % 2 ≡ 0 = omega arith in
      let d : 2 * p / 2 ≡ p = omega arith in
      (rw (is-string b i h, payload, m, d), l)

  symbol-word : byte_at b i ≡ 6 → (key_of (value_at b i) ≡ Some (key_from_word (2 * p + 1))) × (p < 256)
  unfolding is_bounded_key key_from_word
  symbol-word h =
      let l : p < 256 = ltb-true _ _ (rw (is-symbol b i h, payload) at known) in
      let m : (2 * p + 1) % 2 ≡ 1 = omega arith in
      let d : (2 * p + 1) / 2 ≡ p = omega arith in
      (rw (is-symbol b i h, payload, m, d), l)

  pub other_word : is_some (key_of (value_at b i)) ≡ true → (byte_at b i ≡ 5 → ⊥) → (key_of (value_at b i) ≡ Some (key_from_word (2 * p + 1))) × (p < 256)
  other_word key h = symbol-word (other-is-symbol b i h key)

-- Keys one by one ---------------------------------------------------------------------------

module _ (v : Value) (vs : List Value) where
  keys-less : is_some (key_of v) ≡ false → is_some (keys_of (v ∷ vs)) ≡ false
  unfolding keys_of
  keys-less e = go (key_of v) e
    where
      go : (o : Option PropertyKey) → is_some o ≡ false → is_some (cons_key o (keys_of vs)) ≡ false
      go None p = refl
      go (Some k) p = absurd (false≢true (sym p))

  keys-more : is_some (key_of v) ≡ true → is_some (keys_of (v ∷ vs)) ≡ is_some (keys_of vs)
  unfolding keys_of
  keys-more e = go (key_of v) (keys_of vs) e
    where
      go : (o : Option PropertyKey) (p : Option (List PropertyKey)) → is_some o ≡ true → is_some (cons_key o p) ≡ is_some p
      go None p q = absurd (false≢true q)
      go (Some k) None q = refl
      go (Some k) (Some ks) q = refl

  keys-head : is_some (keys_of (v ∷ vs)) ≡ true → is_some (key_of v) ≡ true
  keys-head e = go (is_some (key_of v)) refl
    where
      go : (t : Bool) → is_some (key_of v) ≡ t → t ≡ true
      go true p = refl
      go false p = sym (keys-less p) ∙ e

  keys-tail : is_some (keys_of (v ∷ vs)) ≡ true → is_some (keys_of vs) ≡ true
  keys-tail e = sym (keys-more (keys-head e)) ∙ e

  keys-held : (k : PropertyKey) → key_of v ≡ Some k → is_some (keys_of vs) ≡ true → keys_held (keys_of (v ∷ vs)) ≡ k ∷ keys_held (keys_of vs)
  unfolding keys_of
  keys-held k e f = rw e (go (keys_of vs) f)
    where
      go : (p : Option (List PropertyKey)) → is_some p ≡ true → keys_held (cons_key (Some k) p) ≡ k ∷ keys_held p
      go None q = absurd (false≢true q)
      go (Some ks) q = refl

known-head : (v : Value) (vs : List Value) → values_pass is_bounded_key (v ∷ vs) ≡ true → (is_bounded_key v ≡ true) × (values_pass is_bounded_key vs ≡ true)
unfolding values_pass
known-head v vs e = go (is_bounded_key v) (values_pass is_bounded_key vs) e
  where
    go : (s t : Bool) → (s && t) ≡ true → (s ≡ true) × (t ≡ true)
    go true t q = (refl, q)
    go false t q = absurd (false≢true q)

-- the values in turn
abbrev pub value_in : List ℕ → ℕ → ℕ → Value
value_in b first k = value_at b (first + 9 * k)

is-cons : (o : Option PropertyKey) (p : Option (List PropertyKey)) → is_some (cons_key o p) ≡ (is_some o && is_some p)
is-cons None p = refl
is-cons (Some k) None = refl
is-cons (Some k) (Some ks) = refl

module _ (b : List ℕ) where
  pub all-keys : (first k n : ℕ) → list_all (λ (j : ℕ). is_some (key_of (value_in b first j))) (range_with_len k n) ≡ is_some (keys_of (values_at b (first + 9 * k) n))
  unfolding values_at keys_of
  all-keys first k zero = refl
  all-keys first k (suc n) =
      let z : first + 9 * (k + 1) ≡ first + 9 * k + 9 = omega arith in
      rw is-cons (ap (λ (t : Bool). is_some (key_of (value_in b first k)) && t) (rw z at (all-keys first (k + 1) n)))

  -- each of n values is a key, and known
  pub key-in : (i n k : ℕ) → is_some (keys_of (values_at b i n)) ≡ true → k < n → is_some (key_of (value_in b i k)) ≡ true
  unfolding values_at
  key-in i zero k e h = absurd (omega arith)
  key-in i (suc n) zero e h = let z : i + 9 * 0 ≡ i = omega arith in rw z (keys-head _ _ e)
  key-in i (suc n) (suc k) e h = let z : i + 9 * suc k ≡ i + 9 + 9 * k = omega arith in rw z (key-in (i + 9) n k (keys-tail _ _ e) (omega arith))

  pub known-in : (i n k : ℕ) → values_pass is_bounded_key (values_at b i n) ≡ true → k < n → is_bounded_key (value_in b i k) ≡ true
  unfolding values_at
  known-in i zero k e h = absurd (omega arith)
  known-in i (suc n) zero e h = let z : i + 9 * 0 ≡ i = omega arith in rw z (known-head _ _ e).0
  known-in i (suc n) (suc k) e h = let z : i + 9 * suc k ≡ i + 9 + 9 * k = omega arith in rw z (known-in (i + 9) n k (known-head _ _ e).1 (omega arith))

  -- the words stand for the keys
  keys-loaded : (i : ℕ) (v : List ℕ) → is_some (keys_of (values_at b i (length v))) ≡ true
      → ((k : ℕ) → k < length v → key_of (value_in b i k) ≡ Some (key_from_word (get_or v k 0))) → map key_from_word v ≡ keys_held (keys_of (values_at b i (length v)))
  unfolding values_at keys_of
  keys-loaded i [] e h = refl
  keys-loaded i (w ∷ ws) e h =
      let z : i + 9 * 0 ≡ i = omega arith in
      let r = keys-tail (value_at b i) (values_at b (i + 9) (length ws)) e in
      let ih = keys-loaded (i + 9) ws r (λ k l. let y : i + 9 * suc k ≡ i + 9 + 9 * k = omega arith in rw y at (h (suc k) (omega arith))) in
      rw ih (sym (keys-held (value_at b i) (values_at b (i + 9) (length ws)) (key_from_word w) (rw z at (h 0 (omega arith))) r))

  pub loaded : (w v : List ℕ) (first n : ℕ) → n ≤ length w → length v ≡ n → is_some (keys_of (values_at b first n)) ≡ true
      → ((k : ℕ) → k < n → (key_of (value_in b first k) ≡ Some (key_from_word (get_or v k 0))) × (get_or v k 0 < 512))
      → Listed w (v ++ drop n w) n (keys_held (keys_of (values_at b first n))) × ((k : ℕ) → k < n → get_or (v ++ drop n w) k 0 < 512)
  loaded w v first n room l all each =
      let h : map key_from_word v ≡ keys_held (keys_of (values_at b first n)) =
      rw l at (keys-loaded first v (rw l all) (λ k g. (each k (omega arith)).0)) in (
        record {
          listed = rw (take_at v (drop n w) n l) h;
          rest = drop_at v (drop n w) n l;
          fits = room;
          size = rw (length-append, l, length-drop) (omega arith);
        },
        λ k g. rw (get_or_append_left v (drop n w) 0 k (omega arith)) (each k g).1,
      )

pub ruleset kinds = (string-is-key, symbol-is-key, other-is-none)

-- Writing keys --------------------------------------------------------------------------------

bytes-append : (ks ls : List PropertyKey) → keys_bytes (ks ++ ls) ≡ keys_bytes ks ++ keys_bytes ls
unfolding keys_bytes
bytes-append [] ls = refl
bytes-append (k ∷ ks) ls = ap (λ (r : List ℕ). value_bytes (key_value k) ++ r) (bytes-append ks ls) ∙ sym (append_assoc (value_bytes (key_value k)) (keys_bytes ks) (keys_bytes ls))

-- the output once the keys of the first i words are written
abbrev pub written : List ℕ → List ℕ → ℕ → List ℕ
written list out i = keys_bytes (map key_from_word (take i list)) ++ drop (9 * i) out

pub write-start : (list out : List ℕ) → out ≡ written list out 0
unfolding keys_bytes
write-start list out = refl

module _ (list out : List ℕ) (i : ℕ) (h : i < length list) (room : 9 * i + 9 ≤ length out) where
  abbrev now-written : List ℕ
  now-written = keys_bytes (map key_from_word (take i list))

  written-length : length now-written ≡ 9 * i
  written-length = length-keys (map key_from_word (take i list)) ∙ rw (length-map, length-take-le i list (omega arith))

  next-bytes : keys_bytes (map key_from_word (take (i + 1) list)) ≡ now-written ++ value_bytes (key_value (key_from_word (get_or list i 0)))
  unfolding keys_bytes
  next-bytes = rw (add-one i, take-suc list i 0 h, map-append, bytes-append, append-nil)

  abbrev next : List ℕ
  next = value_bytes (key_value (key_from_word (get_or list i 0)))

  next-drop : drop (9 * i + length next) (written list out i) ≡ drop (9 * (i + 1)) out
  next-drop =
      let k : 9 * i + 9 ≡ 9 * (i + 1) = omega arith in
      rw (length-value (key_value (key_from_word (get_or list i 0))), ← drop-drop 9 (9 * i) (written list out i), drop_at now-written (drop (9 * i) out) (9 * i) written-length, drop-drop 9 (9 * i) out, k)

  pub write_step : (v : List ℕ) → v ≡ written list out i → sets v (9 * i) next ≡ written list out (i + 1)
  write_step v e =
      let l : length next ≡ 9 = length-value (key_value (key_from_word (get_or list i 0))) in
      rw e
      (sets-eq next (written list out i) (9 * i) (rw (l, length-append, written-length, length-drop) (omega arith))
      ∙ rw (next-drop, take_at now-written (drop (9 * i) out) (9 * i) written-length) (ap (λ (r : List ℕ). r ++ drop (9 * (i + 1)) out) (sym next-bytes)))
