-- One walk over the eleven methods, for any relation between two computations that the rules of the definitions keep. Assumes nothing.
use Rattle.std.specs.Prelude.{Option, None, Some}
use Prim.Native.Nat.{ℕ, zero, suc, ◌≤◌}
use mathlib.Core.Path.{◌≡◌, refl, subst}
use mathlib.Core.Bool.{Bool, true, false, not, ◌&&◌, cond, false≢true}
use mathlib.Core.List.{List, [], ◌∷◌}
use lib.Dec.{T, leb, lit≤}
use lib.ListN.{length}
use Rattle.value.specs.declared.Value.{Value}
use Rattle.value.specs.declared.Value.TheVariants as value
use Rattle.value.specs.declared.PropertyKey.{PropertyKey}
use Rattle.value.specs.declared.PropertyKey.TheVariants.{String, Symbol}
use Rattle.value.specs.Value.{object_of, same_value}
use Rattle.property.specs.declared.DescriptorKind.TheVariants as kind
use Rattle.property.specs.declared.PropertyDescriptor.{PropertyDescriptor}
use Rattle.property.specs.declared.Property.TheVariants.{Data, Accessor}
use Rattle.property.specs.Validate.{validate}
use Rattle.property.proofs.ValueLaws.{DescriptorBy}
use Rattle.text.specs.Strings.{Strings}
use Rattle.store.specs.declared.OrdinaryObject.{OrdinaryObject}
use Rattle.store.specs.declared.ProxyObject.{ProxyObject}
use Rattle.store.specs.declared.Object.TheVariants.{Ordinary, Proxy}
use Rattle.store.specs.Store.{lookup, put, own, without_property}
use Rattle.internal_methods.specs.declared.Failure.TheVariants.{Refused, TypeError}
use Rattle.internal_methods.specs.Monad.{Answer, M, pure, fails, ◌>>=◌, throw_if, throw_any, ask, when◌then◌else◌, dispatch}
use Rattle.internal_methods.specs.Answers.{as_value, ask_value, ask_boolean, as_prototype, ask_prototype, undefined_descriptor, as_descriptor, ask_descriptor, keys_of, listed, unlisted, as_keys, ask_keys}
use Rattle.internal_methods.specs.Methods.{Context, Methods, Written}
use Rattle.internal_methods.specs.KeyList.{Sorted, has_key, duplicate_message, duplicate, is_empty, checked_off, remaining, required, rejected}
use Rattle.internal_methods.specs.Ordinary.{reaches, with_prototype, ordinary_set_prototype_of, apply_validation, ordinary_define_own_property, ordinary_has_property, ordinary_get, set_on_receiver, set_data, ordinary_set, ordinary_delete}
use Rattle.internal_methods.specs.Proxy.{has_trap, sorted, proxy_get_prototype_of, proxy_set_prototype_of, proxy_is_extensible, proxy_prevent_extensions, proxy_get_own_property, proxy_define_own_property, proxy_has_property, proxy_get, proxy_set, proxy_delete, proxy_own_property_keys}
use Rattle.internal_methods.specs.Internal.{level, methods}
use Rattle.property.specs.declared.Property.{Property}

-- the numbers of the messages
abbrev pub Message : ℕ → Type 0
Message n = (1 ≤ n) × (n ≤ 31)

abbrev pub is_message : ℕ → Bool
is_message n = leb 1 n && leb n 31

pub message : (n : ℕ) → T (is_message n) → Message n
message n t = go (leb 1 n) (leb n 31) lit≤ lit≤ t
  where
    go : (a b : Bool) → (T a → 1 ≤ n) → (T b → n ≤ 31) → T (a && b) → Message n
    go true b f g t = (f tt, g t)
    go false b f g t = absurd t

abbrev pub Messages : Option ℕ → Type 0
Messages x = (i : ℕ) → x ≡ Some i → Message i

no-messages : Messages None
no-messages i e = absurd (false≢true (cc))

one-message : (n : ℕ) → T (is_message n) → Messages (Some n)
one-message n t i e = let same : n ≡ i = cc in rw same at (message n t)

cond-messages : {x y : Option ℕ} (b : Bool) → Messages x → Messages y → Messages (cond b x y)
cond-messages true f g = f
cond-messages false f g = g

duplicate-messages : (before ks : List PropertyKey) → Messages (duplicate before ks)
unfolding duplicate
duplicate-messages before [] = no-messages
duplicate-messages before (k ∷ ks) = cond-messages (has_key k before) (found k) (duplicate-messages (k ∷ before) ks)
  where
    found : (k : PropertyKey) → Messages (Some (duplicate_message k))
    found (String s) = one-message 22 tt
    found (Symbol s) = one-message 23 tt

remaining-messages : (x : Option (List PropertyKey)) → Messages (remaining x)
remaining-messages None = one-message 25 tt
remaining-messages (Some unchecked) = cond-messages (is_empty unchecked) no-messages (one-message 26 tt)

required-messages : (extensible : Bool) (ks : List PropertyKey) (x : Option (List PropertyKey)) → Messages (required extensible ks x)
required-messages extensible ks None = one-message 24 tt
required-messages extensible ks (Some unchecked) = cond-messages extensible no-messages (remaining-messages (checked_off ks unchecked))

rejected-messages : (extensible : Bool) (target : Sorted) (ks : List PropertyKey) → Messages (rejected extensible target ks)
unfolding rejected
rejected-messages extensible target ks =
    cond-messages (extensible && is_empty target.nonconfigurable) no-messages
    (required-messages extensible target.configurable (checked_off target.nonconfigurable ks))

-- The rules ------------------------------------------------------------------------------

-- nothing is known
abbrev pub Any : {A : Type 0} → A → Type 0
Any a = Unit {0}

pub any-descriptor : (d : PropertyDescriptor) → DescriptorBy Any d
any-descriptor d = record { value = λ v e. tt; get = λ v e. tt; set = λ v e. tt }

-- the same store and strings, with another allowance
abbrev pub allowing : Context → ℕ → Context
allowing c allowance = record { store = c.store; strings = c.strings; allowance = allowance }

-- A relation of two computations, the second under another allowance; Obj, Val and Own are what is known of an object that is called, of a value,
-- and of what [[GetOwnProperty]] tells
pub record Relation (c : Context) (allowance : ℕ) (Obj : ℕ → Type 0) (Val : Value → Type 0) (Own : ℕ → PropertyKey → Option Property → Type 0) : Type 1 where
  -- of computations that read, with what is known of their result, and of those that end in a write
  pub reads : {A : Type 0} → (A → Type 0) → M A → M A → Type 0
  pub writes : M Written → M Written → Type 0
  pub weaken : {A : Type 0} {P Q : A → Type 0} {m m' : M A} → ((a : A) → P a → Q a) → reads P m m' → reads Q m m'
  pub gives : {A : Type 0} {Q : A → Type 0} (a : A) → Q a → reads Q (pure a) (pure a)
  pub throws : {A : Type 0} {Q : A → Type 0} (i : ℕ) → Message i → reads Q (fails (TypeError i)) (fails (TypeError i))
  pub binds : {A B : Type 0} {Q : B → Type 0} {m m' : M A} {k k' : A → M B} → reads Any m m' → ((a : A) → reads Q (k a) (k' a)) → reads Q (m >>= k) (m' >>= k')
  pub binds-value : {B : Type 0} {Q : B → Type 0} {m m' : M Value} {k k' : Value → M B} → reads Val m m' → ((v : Value) → Val v → reads Q (k v) (k' v)) → reads Q (m >>= k) (m' >>= k')
  pub writes-binds : {A : Type 0} {m m' : M A} {k k' : A → M Written} → reads Any m m' → ((a : A) → writes (k a) (k' a)) → writes (m >>= k) (m' >>= k')
  pub writes-binds-value : {m m' : M Value} {k k' : Value → M Written} → reads Val m m' → ((v : Value) → Val v → writes (k v) (k' v)) → writes (m >>= k) (m' >>= k')
  pub writes-binds-own : {o : ℕ} {k : PropertyKey} {m m' : M (Option Property)} {f f' : Option Property → M Written} → reads (Own o k) m m' → ((x : Option Property) → Own o k x → writes (f x) (f' x)) → writes (m >>= f) (m' >>= f')
  -- what is asked for
  pub asks-value : reads Val ask_value ask_value
  pub asks-boolean : reads Any (ask_boolean c.strings) (ask_boolean c.strings)
  pub asks-prototype : reads Val ask_prototype ask_prototype
  pub asks-descriptor : reads Any ask_descriptor ask_descriptor
  pub asks-keys : reads Any ask_keys ask_keys
  -- what is written
  pub idle : (b : Bool) → writes (pure (b, c.store)) (pure (b, c.store))
  pub puts : (o : ℕ) (r : OrdinaryObject) → Val r.prototype → writes (pure (true, put c.store o (Ordinary r))) (pure (true, put c.store o (Ordinary r)))
  pub removes : (o : ℕ) (k : PropertyKey) → writes (pure (true, without_property c.store o k)) (pure (true, without_property c.store o k))
  pub applies : (o : ℕ) (r : OrdinaryObject) → lookup c.store o ≡ Some (Ordinary r) → (k : PropertyKey) (current : Option Property) → Own o k current → (extensible : Bool) (d : PropertyDescriptor) → DescriptorBy Val d
      → writes (apply_validation c o k current (validate extensible d current)) (apply_validation (allowing c allowance) o k current (validate extensible d current))
  -- what values and objects lead to
  pub object : (v : Value) → Val v → (q : ℕ) → object_of v ≡ Some q → Obj q
  pub prototype : (o : ℕ) (r : OrdinaryObject) → lookup c.store o ≡ Some (Ordinary r) → Val r.prototype
  pub target : (o : ℕ) (p : ProxyObject) → lookup c.store o ≡ Some (Proxy p) → p.revoked ≡ false → Obj p.target
  pub own-found : (o : ℕ) (r : OrdinaryObject) → lookup c.store o ≡ Some (Ordinary r) → (k : PropertyKey) → Own o k (own c.store o k)
  pub own-answered : (o : ℕ) (p : ProxyObject) → lookup c.store o ≡ Some (Proxy p) → (k : PropertyKey) (x : Option Property) → Own o k x

-- a relation of each of the methods
pub record MethodsBy (reads : (A : Type 0) → (A → Type 0) → M A → M A → Type 0) (writes : M Written → M Written → Type 0) (Obj : ℕ → Type 0) (Val : Value → Type 0) (Own : ℕ → PropertyKey → Option Property → Type 0) (call call' : Methods) : Type 0 where
  pub get_prototype_of : (o : ℕ) → Obj o → reads Value Val (call.get_prototype_of o) (call'.get_prototype_of o)
  pub set_prototype_of : (o : ℕ) (v : Value) → Obj o → Val v → writes (call.set_prototype_of o v) (call'.set_prototype_of o v)
  pub is_extensible : (o : ℕ) → Obj o → reads Bool Any (call.is_extensible o) (call'.is_extensible o)
  pub prevent_extensions : (o : ℕ) → Obj o → writes (call.prevent_extensions o) (call'.prevent_extensions o)
  pub get_own_property : (o : ℕ) (k : PropertyKey) → Obj o → reads (Option Property) (Own o k) (call.get_own_property o k) (call'.get_own_property o k)
  pub define_own_property : (o : ℕ) (k : PropertyKey) (d : PropertyDescriptor) → Obj o → DescriptorBy Val d → writes (call.define_own_property o k d) (call'.define_own_property o k d)
  pub has_property : (o : ℕ) (k : PropertyKey) → Obj o → reads Bool Any (call.has_property o k) (call'.has_property o k)
  pub get : (o : ℕ) (k : PropertyKey) (receiver : Value) → Obj o → reads Value Any (call.get o k receiver) (call'.get o k receiver)
  pub set : (o : ℕ) (k : PropertyKey) (v receiver : Value) → Obj o → Val v → Val receiver → writes (call.set o k v receiver) (call'.set o k v receiver)
  pub delete : (o : ℕ) (k : PropertyKey) → Obj o → writes (call.delete o k) (call'.delete o k)
  pub own_property_keys : (o : ℕ) → Obj o → reads (List PropertyKey) Any (call.own_property_keys o) (call'.own_property_keys o)

module _ {c : Context} {allowance : ℕ} {Obj : ℕ → Type 0} {Val : Value → Type 0} {Own : ℕ → PropertyKey → Option Property → Type 0} where
  -- the choice by the object's kind, which counts the call: from a relation of the bodies to what is said of the methods
  pub record Enters (R : Relation c allowance Obj Val Own) (reads : (A : Type 0) → (A → Type 0) → M A → M A → Type 0) (writes : M Written → M Written → Type 0) : Type 1 where
    pub reading : {A : Type 0} {Q : A → Type 0} {f f' : OrdinaryObject → M A} {g g' : ProxyObject → M A} (o : ℕ) → Obj o
        → ((r : OrdinaryObject) → lookup c.store o ≡ Some (Ordinary r) → R.reads Q (f r) (f' r))
        → ((p : ProxyObject) → lookup c.store o ≡ Some (Proxy p) → p.revoked ≡ false → R.reads Q (g p) (g' p))
        → reads A Q (dispatch c.store o f g) (dispatch c.store o f' g')
    pub writing : {f f' : OrdinaryObject → M Written} {g g' : ProxyObject → M Written} (o : ℕ) → Obj o
        → ((r : OrdinaryObject) → lookup c.store o ≡ Some (Ordinary r) → R.writes (f r) (f' r))
        → ((p : ProxyObject) → lookup c.store o ≡ Some (Proxy p) → p.revoked ≡ false → R.writes (g p) (g' p))
        → writes (dispatch c.store o f g) (dispatch c.store o f' g')

  -- methods that may go no deeper
  pub record Stops (R : Relation c allowance Obj Val Own) : Type 1 where
    pub reads : {A : Type 0} {Q : A → Type 0} → R.reads Q (fails {A = A} (Refused 10)) (fails (Refused 10))
    pub writes : R.writes (fails (Refused 10)) (fails (Refused 10))

  abbrev pub RelatedMethods : Relation c allowance Obj Val Own → Methods → Methods → Type 0
  RelatedMethods R call call' = MethodsBy (λ A Q m m'. R.reads Q m m') R.writes Obj Val Own call call'

-- What follows from asking and from refusal 9 -----------------------------------------------

-- what is known of an answer, where so much is of a value
abbrev pub AnswerBy : (Value → Type 0) → Answer → Type 0
AnswerBy Val (Answer.value v) = Val v
AnswerBy Val (Answer.descriptor d) = Unit {0}
AnswerBy Val (Answer.keys ks) = Unit {0}
AnswerBy Val (Answer.throw v) = Unit {0}

-- the rules of a relation that refusal 9 keeps; what is asked for follows from them
pub record Asking (Val : Value → Type 0) : Type 1 where
  pub reads : {A : Type 0} → (A → Type 0) → M A → M A → Type 0
  pub gives : {A : Type 0} {Q : A → Type 0} (a : A) → Q a → reads Q (pure a) (pure a)
  pub throws : {A : Type 0} {Q : A → Type 0} (i : ℕ) → Message i → reads Q (fails (TypeError i)) (fails (TypeError i))
  pub unreadable : {A : Type 0} {Q : A → Type 0} → reads Q (fails {A = A} (Refused 9)) (fails (Refused 9))
  pub binds-value : {B : Type 0} {Q : B → Type 0} {m m' : M Value} {k k' : Value → M B} → reads Val m m' → ((v : Value) → Val v → reads Q (k v) (k' v)) → reads Q (m >>= k) (m' >>= k')
  pub asks : {B : Type 0} {Q : B → Type 0} {k k' : Answer → M B} → ((a : Answer) → AnswerBy Val a → reads Q (k a) (k' a)) → reads Q (ask >>= k) (ask >>= k')

module _ {Val : Value → Type 0} (J : Asking Val) where
  -- a number that is written is seen to be a message's
  type-error : {A : Type 0} {Q : A → Type 0} (i : ℕ) → T (is_message i) → J.reads Q (fails {A = A} (TypeError i)) (fails (TypeError i))
  type-error i t = J.throws i (message i t)

  as_value-by : (a : Answer) → AnswerBy Val a → J.reads Val (as_value a) (as_value a)
  unfolding as_value
  as_value-by (Answer.value v) m = J.gives v m
  as_value-by (Answer.descriptor d) m = J.unreadable
  as_value-by (Answer.keys ks) m = J.unreadable
  as_value-by (Answer.throw v) m = J.unreadable

  pub ask_value-by : J.reads Val ask_value ask_value
  unfolding ask_value
  ask_value-by = J.asks as_value-by

  pub ask_boolean-by : (strings : Strings) → J.reads Any (ask_boolean strings) (ask_boolean strings)
  unfolding ask_boolean
  ask_boolean-by strings = J.binds-value ask_value-by λ v _. J.gives _ tt

  as_prototype-by : (v : Value) → Val v → J.reads Val (as_prototype v) (as_prototype v)
  unfolding as_prototype
  as_prototype-by value.Null m = J.gives _ m
  as_prototype-by (value.Object o) m = J.gives _ m
  as_prototype-by (value.Function f) m = J.gives _ m
  as_prototype-by value.Undefined m = type-error 2 tt
  as_prototype-by (value.Boolean b) m = type-error 2 tt
  as_prototype-by (value.Integer32 i) m = type-error 2 tt
  as_prototype-by (value.Float64 x) m = type-error 2 tt
  as_prototype-by (value.String s) m = type-error 2 tt
  as_prototype-by (value.Symbol s) m = type-error 2 tt

  pub ask_prototype-by : J.reads Val ask_prototype ask_prototype
  unfolding ask_prototype
  ask_prototype-by = J.binds-value ask_value-by as_prototype-by

  undefined_descriptor-by : (v : Value) → J.reads Any (undefined_descriptor v) (undefined_descriptor v)
  undefined_descriptor-by value.Undefined = J.gives _ tt
  undefined_descriptor-by (value.Object o) = J.unreadable
  undefined_descriptor-by (value.Function f) = J.unreadable
  undefined_descriptor-by value.Null = type-error 7 tt
  undefined_descriptor-by (value.Boolean b) = type-error 7 tt
  undefined_descriptor-by (value.Integer32 i) = type-error 7 tt
  undefined_descriptor-by (value.Float64 x) = type-error 7 tt
  undefined_descriptor-by (value.String s) = type-error 7 tt
  undefined_descriptor-by (value.Symbol s) = type-error 7 tt

  as_descriptor-by : (a : Answer) → AnswerBy Val a → J.reads Any (as_descriptor a) (as_descriptor a)
  unfolding as_descriptor
  as_descriptor-by (Answer.value v) m = undefined_descriptor-by v
  as_descriptor-by (Answer.descriptor d) m = J.gives _ tt
  as_descriptor-by (Answer.keys ks) m = J.unreadable
  as_descriptor-by (Answer.throw v) m = J.unreadable

  pub ask_descriptor-by : J.reads Any ask_descriptor ask_descriptor
  unfolding ask_descriptor
  ask_descriptor-by = J.asks as_descriptor-by

  listed_by : (x : Option (List PropertyKey)) → J.reads Any (listed x) (listed x)
  listed_by None = type-error 30 tt
  listed_by (Some ks) = J.gives _ tt

  unlisted-by : (v : Value) → J.reads Any (unlisted v) (unlisted v)
  unlisted-by (value.Object o) = J.unreadable
  unlisted-by (value.Function f) = J.unreadable
  unlisted-by value.Undefined = type-error 31 tt
  unlisted-by value.Null = type-error 31 tt
  unlisted-by (value.Boolean b) = type-error 31 tt
  unlisted-by (value.Integer32 i) = type-error 31 tt
  unlisted-by (value.Float64 x) = type-error 31 tt
  unlisted-by (value.String s) = type-error 31 tt
  unlisted-by (value.Symbol s) = type-error 31 tt

  as_keys-by : (a : Answer) → AnswerBy Val a → J.reads Any (as_keys a) (as_keys a)
  unfolding as_keys
  as_keys-by (Answer.value v) m = unlisted-by v
  as_keys-by (Answer.descriptor d) m = J.unreadable
  as_keys-by (Answer.keys vs) m = listed_by (keys_of vs)
  as_keys-by (Answer.throw v) m = J.unreadable

  pub ask_keys-by : J.reads Any ask_keys ask_keys
  unfolding ask_keys
  ask_keys-by = J.asks as_keys-by

-- The methods -----------------------------------------------------------------------------

module _ {c : Context} {allowance : ℕ} {Obj : ℕ → Type 0} {Val : Value → Type 0} {Own : ℕ → PropertyKey → Option Property → Type 0} (R : Relation c allowance Obj Val Own) where
  abbrev c' : Context
  c' = allowing c allowance

  reads-if : {A : Type 0} {Q : A → Type 0} {m k m' k' : M A} (b : Bool) → R.reads Q m m' → R.reads Q k k' → R.reads Q (when◌then◌else◌ b m k) (when◌then◌else◌ b m' k')
  unfolding when◌then◌else◌
  reads-if true f g = f
  reads-if false f g = g

  writes-if : {m k m' k' : M Written} (b : Bool) → R.writes m m' → R.writes k k' → R.writes (when◌then◌else◌ b m k) (when◌then◌else◌ b m' k')
  unfolding when◌then◌else◌
  writes-if true f g = f
  writes-if false f g = g

  throws-if : (i : ℕ) (b : Bool) → T (is_message i) → R.reads Any (throw_if i b) (throw_if i b)
  unfolding throw_if
  throws-if i true t = R.throws i (message i t)
  throws-if i false t = R.gives tt tt

  throws-any : (x : Option ℕ) → Messages x → R.reads Any (throw_any x) (throw_any x)
  unfolding throw_any
  throws-any None m = R.gives tt tt
  throws-any (Some i) m = R.throws i (m i refl)

  -- either case of a value that is an object or none
  reads-object : {A : Type 0} {Q : A → Type 0} {m m' : M A} {k k' : ℕ → M A} (v : Value) → Val v → R.reads Q m m' → ((q : ℕ) → Obj q → R.reads Q (k q) (k' q))
      → R.reads Q (elim (object_of v) [ None ↦ m | Some q ↦ k q ]) (elim (object_of v) [ None ↦ m' | Some q ↦ k' q ])
  reads-object {A} {Q} {m} {m'} {k} {k'} v h hm hk = go (object_of v) refl
    where
      go : (x : Option ℕ) → object_of v ≡ x → R.reads Q (elim x [ None ↦ m | Some q ↦ k q ]) (elim x [ None ↦ m' | Some q ↦ k' q ])
      go None e = hm
      go (Some q) e = hk q (R.object v h q e)

  writes-object : {m m' : M Written} {k k' : ℕ → M Written} (v : Value) → Val v → R.writes m m' → ((q : ℕ) → Obj q → R.writes (k q) (k' q))
      → R.writes (elim (object_of v) [ None ↦ m | Some q ↦ k q ]) (elim (object_of v) [ None ↦ m' | Some q ↦ k' q ])
  writes-object {m} {m'} {k} {k'} v h hm hk = go (object_of v) refl
    where
      go : (x : Option ℕ) → object_of v ≡ x → R.writes (elim x [ None ↦ m | Some q ↦ k q ]) (elim x [ None ↦ m' | Some q ↦ k' q ])
      go None e = hm
      go (Some q) e = hk q (R.object v h q e)

  sorted-by : {get_own get_own' : PropertyKey → M (Option Property)} → ((k : PropertyKey) → R.reads Any (get_own k) (get_own' k))
      → (ks : List PropertyKey) → R.reads Any (sorted get_own ks) (sorted get_own' ks)
  unfolding sorted
  sorted-by h [] = R.gives _ tt
  sorted-by h (k ∷ ks) =
      R.binds (h k) λ desc.
      R.binds (sorted-by h ks) λ rest.
      R.gives _ tt

  set_prototype_of-ordinary : (o : ℕ) (r : OrdinaryObject) (v : Value) → Val v → R.writes (pure (ordinary_set_prototype_of c.store o r v)) (pure (ordinary_set_prototype_of c.store o r v))
  unfolding ordinary_set_prototype_of
  set_prototype_of-ordinary o r v m = go (same_value v r.prototype) (not r.extensible) (reaches (length c.store.objects) c.store o v)
    where
      go : (same fixed cyclic : Bool) → let w : Written = cond same (true, c.store) (cond fixed (false, c.store) (cond cyclic (false, c.store) (true, put c.store o (with_prototype r v)))) in R.writes (pure w) (pure w)
      go true fixed cyclic = R.idle true
      go false true cyclic = R.idle false
      go false false true = R.idle false
      go false false false = R.puts o _ m

  -- A proxy's method: what it does without the trap (b says that there is none), or the trap's answer asked for first

  pub data Trapped (b : Bool) {A B : Type 0} (P : A → Type 0) (Q : B → Type 0) (ask : M A) : M B → M B → Type 0 where
    trapped : {m m' : M B} {k k' : A → M B} → R.reads P ask ask → R.reads Q m m' → ((x : A) → P x → R.reads Q (k x) (k' x))
        → Trapped b P Q ask (when◌then◌else◌ b m (ask >>= k)) (when◌then◌else◌ b m' (ask >>= k'))

  pub data TrappedWrite (b : Bool) {A : Type 0} (P : A → Type 0) (ask : M A) : M Written → M Written → Type 0 where
    trapped : {m m' : M Written} {k k' : A → M Written} → R.reads P ask ask → R.writes m m' → ((x : A) → P x → R.writes (k x) (k' x))
        → TrappedWrite b P ask (when◌then◌else◌ b m (ask >>= k)) (when◌then◌else◌ b m' (ask >>= k'))

  -- a constructor's implicits are found only after its arguments, a function's before
  trap : {b : Bool} {A B : Type 0} {P : A → Type 0} {Q : B → Type 0} {ask : M A} {m m' : M B} {k k' : A → M B} → R.reads P ask ask → R.reads Q m m' → ((x : A) → P x → R.reads Q (k x) (k' x))
      → Trapped b P Q ask (when◌then◌else◌ b m (ask >>= k)) (when◌then◌else◌ b m' (ask >>= k'))
  trap ha hm hk = trapped ha hm hk

  trap-write : {b : Bool} {A : Type 0} {P : A → Type 0} {ask : M A} {m m' : M Written} {k k' : A → M Written} → R.reads P ask ask → R.writes m m' → ((x : A) → P x → R.writes (k x) (k' x))
      → TrappedWrite b P ask (when◌then◌else◌ b m (ask >>= k)) (when◌then◌else◌ b m' (ask >>= k'))
  trap-write ha hm hk = trapped ha hm hk

  by-trap : {b : Bool} {A B : Type 0} {Q : B → Type 0} {ask : M A} {m m' : M B} → Trapped b Any Q ask m m' → R.reads Q m m'
  by-trap {b} (trapped ha hm hk) = reads-if b hm (R.binds ha (λ x. hk x tt))

  by-trap-value : {b : Bool} {B : Type 0} {Q : B → Type 0} {ask : M Value} {m m' : M B} → Trapped b Val Q ask m m' → R.reads Q m m'
  by-trap-value {b} (trapped ha hm hk) = reads-if b hm (R.binds-value ha hk)

  by-trap-write : {b : Bool} {A : Type 0} {ask : M A} {m m' : M Written} → TrappedWrite b Any ask m m' → R.writes m m'
  by-trap-write {b} (trapped ha hm hk) = writes-if b hm (R.writes-binds ha (λ x. hk x tt))

  module _ (call call' : Methods) (h : RelatedMethods R call call') where
    own_of : (o : ℕ) (k : PropertyKey) → Obj o → R.reads Any (call.get_own_property o k) (call'.get_own_property o k)
    own_of o k m = R.weaken (λ _ _. tt) (h.get_own_property o k m)

    define_own_property-ordinary : (o : ℕ) (k : PropertyKey) (d : PropertyDescriptor) → Obj o → DescriptorBy Val d → (r : OrdinaryObject) → lookup c.store o ≡ Some (Ordinary r)
        → R.writes (ordinary_define_own_property c call o k d) (ordinary_define_own_property c' call' o k d)
    unfolding ordinary_define_own_property
    define_own_property-ordinary o k d m md r e =
        R.writes-binds-own (h.get_own_property o k m) λ current found.
        R.writes-binds (h.is_extensible o m) λ extensible.
        R.applies o r e k current found extensible d md

    has_property-ordinary : (o : ℕ) (k : PropertyKey) → Obj o
        → R.reads Any (ordinary_has_property call o k) (ordinary_has_property call' o k)
    unfolding ordinary_has_property
    has_property-ordinary o k m =
        R.binds (own_of o k m) (elim [
          | Some p ↦ R.gives _ tt
          | None ↦
              R.binds-value (h.get_prototype_of o m) λ parent mp.
              reads-object parent mp (R.gives _ tt) λ q mq. h.has_property q k mq
        ])

    get-ordinary : (o : ℕ) (k : PropertyKey) (receiver : Value) → Obj o
        → R.reads Any (ordinary_get call o k receiver) (ordinary_get call' o k receiver)
    unfolding ordinary_get
    get-ordinary o k receiver m =
        R.binds (own_of o k m) (elim [
          | None ↦
              R.binds-value (h.get_prototype_of o m) λ parent mp.
              reads-object parent mp (R.gives _ tt) λ q mq. h.get q k receiver mq
          | Some (Data v w e f) ↦ R.gives _ tt
          | Some (Accessor g s e f) ↦ reads-if _ (R.gives _ tt) (R.weaken (λ _ _. tt) R.asks-value)
        ])

    -- a descriptor of a value alone
    value-by : (e c w : Option Bool) (v : Value) → Val v → DescriptorBy Val (record { enumerable = e; configurable = c; kind = kind.Data (Some v) w })
    value-by e c w v m = record { value = λ u f. subst Val (let g : v ≡ u = cc in g) m; get = λ u f. absurd (false≢true cc); set = λ u f. absurd (false≢true cc) }

    set_on_receiver-by : (k : PropertyKey) (v : Value) (receiver : ℕ) → Val v → Obj receiver
        → R.writes (set_on_receiver c call k v receiver) (set_on_receiver c' call' k v receiver)
    unfolding set_on_receiver
    set_on_receiver-by k v receiver mv m =
        R.writes-binds (own_of receiver k m) (elim [
          | Some (Accessor g s e f) ↦ R.idle _
          | Some (Data w wr e f) ↦ writes-if _ (R.idle _) (h.define_own_property receiver k _ m (value-by _ _ _ v mv))
          | None ↦ h.define_own_property receiver k _ m (value-by _ _ _ v mv)
        ])

    set_data-by : (k : PropertyKey) (v : Value) (writable : Bool) (receiver : Value) → Val v → Val receiver
        → R.writes (set_data c call k v writable receiver) (set_data c' call' k v writable receiver)
    unfolding set_data
    set_data-by k v writable receiver mv mr =
        writes-if _ (R.idle _)
        (writes-object receiver mr (R.idle _) λ q m. set_on_receiver-by k v q mv m)

    set-ordinary : (o : ℕ) (k : PropertyKey) (v receiver : Value) → Obj o → Val v → Val receiver
        → R.writes (ordinary_set c call o k v receiver) (ordinary_set c' call' o k v receiver)
    unfolding ordinary_set
    set-ordinary o k v receiver m mv mr =
        R.writes-binds (own_of o k m) (elim [
          | None ↦
              R.writes-binds-value (h.get_prototype_of o m) λ parent mp.
              writes-object parent mp (set_data-by k v true receiver mv mr) λ q mq. h.set q k v receiver mq mv mr
          | Some (Data w wr e f) ↦ set_data-by k v wr receiver mv mr
          | Some (Accessor g s e f) ↦
              writes-if _ (R.idle _)
              (R.writes-binds-value R.asks-value λ _ _. R.idle _)
        ])

    delete-ordinary : (o : ℕ) (k : PropertyKey) → Obj o
        → R.writes (ordinary_delete c call o k) (ordinary_delete c' call' o k)
    unfolding ordinary_delete
    delete-ordinary o k m =
        R.writes-binds (own_of o k m) (elim [
          | None ↦ R.idle _
          | Some p ↦ writes-if _ (R.removes o k) (R.idle _)
        ])

    module _ (p : ProxyObject) (m : Obj p.target) where
      pub get_prototype_of-proxy : Trapped (not (has_trap p 0)) Val Val ask_prototype (proxy_get_prototype_of call p) (proxy_get_prototype_of call' p)
      unfolding proxy_get_prototype_of
      get_prototype_of-proxy =
          trap R.asks-prototype (h.get_prototype_of p.target m)
          (λ handler_proto mh.
          R.binds (h.is_extensible p.target m) λ extensible_target.
          reads-if _ (R.gives _ mh)
          (R.binds-value (h.get_prototype_of p.target m) λ target_proto _.
          R.binds (throws-if _ _ tt) λ _.
          R.gives _ mh))

      pub set_prototype_of-proxy : (v : Value) → Val v → TrappedWrite (not (has_trap p 1)) Any (ask_boolean c.strings) (proxy_set_prototype_of c call p v) (proxy_set_prototype_of c' call' p v)
      unfolding proxy_set_prototype_of
      set_prototype_of-proxy v mv =
          trap-write R.asks-boolean (h.set_prototype_of p.target v m mv)
          (λ boolean_trap_result _.
          writes-if _ (R.idle _)
          (R.writes-binds (h.is_extensible p.target m) λ extensible_target.
          writes-if _ (R.idle _)
          (R.writes-binds-value (h.get_prototype_of p.target m) λ target_proto _.
          R.writes-binds (throws-if _ _ tt) λ _.
          R.idle _)))

      pub is_extensible-proxy : Trapped (not (has_trap p 2)) Any Any (ask_boolean c.strings) (proxy_is_extensible c call p) (proxy_is_extensible c' call' p)
      unfolding proxy_is_extensible
      is_extensible-proxy =
          trap R.asks-boolean (h.is_extensible p.target m)
          (λ boolean_trap_result _.
          R.binds (h.is_extensible p.target m) λ target_result.
          R.binds (throws-if _ _ tt) λ _.
          R.gives _ tt)

      pub prevent_extensions-proxy : TrappedWrite (not (has_trap p 3)) Any (ask_boolean c.strings) (proxy_prevent_extensions c call p) (proxy_prevent_extensions c' call' p)
      unfolding proxy_prevent_extensions
      prevent_extensions-proxy =
          trap-write R.asks-boolean (h.prevent_extensions p.target m)
          (λ boolean_trap_result _.
          writes-if _ (R.idle _)
          (R.writes-binds (h.is_extensible p.target m) λ extensible_target.
          R.writes-binds (throws-if _ _ tt) λ _.
          R.idle _))

      pub get_own_property-proxy : (k : PropertyKey) → Trapped (not (has_trap p 4)) Any Any ask_descriptor (proxy_get_own_property call p k) (proxy_get_own_property call' p k)
      unfolding proxy_get_own_property
      get_own_property-proxy k =
          trap R.asks-descriptor (own_of p.target k m)
          (elim [
            | None ↦ λ _.
                R.binds (own_of p.target k m) (elim [
                  | None ↦ R.gives _ tt
                  | Some target ↦
                      R.binds (throws-if _ _ tt) λ _.
                      R.binds (h.is_extensible p.target m) λ extensible_target.
                      R.binds (throws-if _ _ tt) λ _.
                      R.gives _ tt
                ])
            | Some object ↦ λ _.
                R.binds (own_of p.target k m) λ target_desc.
                R.binds (h.is_extensible p.target m) λ extensible_target.
                R.binds (throws-if _ _ tt) λ _.
                R.binds (throws-if _ _ tt) λ _.
                R.binds (throws-if _ _ tt) λ _.
                R.binds (throws-if _ _ tt) λ _.
                R.binds (throws-if _ _ tt) λ _.
                R.binds (throws-if _ _ tt) λ _.
                R.gives _ tt
          ])

      pub define_own_property-proxy : (k : PropertyKey) (d : PropertyDescriptor) → DescriptorBy Val d → TrappedWrite (not (has_trap p 5)) Any (ask_boolean c.strings) (proxy_define_own_property c call p k d) (proxy_define_own_property c' call' p k d)
      unfolding proxy_define_own_property
      define_own_property-proxy k d md =
          trap-write R.asks-boolean (h.define_own_property p.target k d m md)
          (λ boolean_trap_result _.
          writes-if _ (R.idle _)
          (R.writes-binds (own_of p.target k m) (elim [
            | None ↦
                R.writes-binds (h.is_extensible p.target m) λ extensible_target.
                R.writes-binds (throws-if _ _ tt) λ _.
                R.writes-binds (throws-if _ _ tt) λ _.
                R.idle _
            | Some target ↦
                R.writes-binds (h.is_extensible p.target m) λ extensible_target.
                R.writes-binds (throws-if _ _ tt) λ _.
                R.writes-binds (throws-if _ _ tt) λ _.
                R.writes-binds (throws-if _ _ tt) λ _.
                R.idle _
          ])))

      pub has_property-proxy : (k : PropertyKey) → Trapped (not (has_trap p 6)) Any Any (ask_boolean c.strings) (proxy_has_property c call p k) (proxy_has_property c' call' p k)
      unfolding proxy_has_property
      has_property-proxy k =
          trap R.asks-boolean (h.has_property p.target k m)
          (λ boolean_trap_result _.
          reads-if _ (R.gives _ tt)
          (R.binds (own_of p.target k m) (elim [
            | None ↦ R.gives _ tt
            | Some target ↦
                R.binds (throws-if _ _ tt) λ _.
                R.binds (h.is_extensible p.target m) λ extensible_target.
                R.binds (throws-if _ _ tt) λ _.
                R.gives _ tt
          ])))

      pub get-proxy : (k : PropertyKey) (receiver : Value) → Trapped (not (has_trap p 7)) Val Any ask_value (proxy_get call p k receiver) (proxy_get call' p k receiver)
      unfolding proxy_get
      get-proxy k receiver =
          trap R.asks-value (h.get p.target k receiver m)
          (λ trap_result _.
          R.binds (own_of p.target k m) λ target_desc.
          R.binds (throws-if _ _ tt) λ _.
          R.binds (throws-if _ _ tt) λ _.
          R.gives _ tt)

      pub set-proxy : (k : PropertyKey) (v receiver : Value) → Val v → Val receiver → TrappedWrite (not (has_trap p 8)) Any (ask_boolean c.strings) (proxy_set c call p k v receiver) (proxy_set c' call' p k v receiver)
      unfolding proxy_set
      set-proxy k v receiver mv mr =
          trap-write R.asks-boolean (h.set p.target k v receiver m mv mr)
          (λ boolean_trap_result _.
          writes-if _ (R.idle _)
          (R.writes-binds (own_of p.target k m) λ target_desc.
          R.writes-binds (throws-if _ _ tt) λ _.
          R.writes-binds (throws-if _ _ tt) λ _.
          R.idle _))

      pub delete-proxy : (k : PropertyKey) → TrappedWrite (not (has_trap p 9)) Any (ask_boolean c.strings) (proxy_delete c call p k) (proxy_delete c' call' p k)
      unfolding proxy_delete
      delete-proxy k =
          trap-write R.asks-boolean (h.delete p.target k m)
          (λ boolean_trap_result _.
          writes-if _ (R.idle _)
          (R.writes-binds (own_of p.target k m) (elim [
            | None ↦ R.idle _
            | Some target ↦
                R.writes-binds (throws-if _ _ tt) λ _.
                R.writes-binds (h.is_extensible p.target m) λ extensible_target.
                R.writes-binds (throws-if _ _ tt) λ _.
                R.idle _
          ])))

      pub own_property_keys-proxy : Trapped (not (has_trap p 10)) Any Any ask_keys (proxy_own_property_keys call p) (proxy_own_property_keys call' p)
      unfolding proxy_own_property_keys
      own_property_keys-proxy =
          trap R.asks-keys (h.own_property_keys p.target m)
          (λ trap_result _.
          R.binds (throws-any _ (duplicate-messages [] trap_result)) λ _.
          R.binds (h.is_extensible p.target m) λ extensible_target.
          R.binds (h.own_property_keys p.target m) λ target_keys.
          R.binds (sorted-by (λ k. own_of p.target k m) target_keys) λ target.
          R.binds (throws-any _ (rejected-messages extensible_target target trap_result)) λ _.
          R.gives _ tt)

    pub level_by : (reads : (A : Type 0) → (A → Type 0) → M A → M A → Type 0) (writes : M Written → M Written → Type 0) → Enters R reads writes
        → MethodsBy reads writes Obj Val Own (level c call) (level c' call')
    level_by reads writes into = record {
      get_prototype_of = λ o m. into.reading o m (λ r e. R.gives _ (R.prototype o r e)) (λ p e l. by-trap-value (get_prototype_of-proxy p (R.target o p e l)));
      set_prototype_of = λ o v m mv. into.writing o m (λ r e. set_prototype_of-ordinary o r v mv) (λ p e l. by-trap-write (set_prototype_of-proxy p (R.target o p e l) v mv));
      is_extensible = λ o m. into.reading o m (λ r e. R.gives _ tt) (λ p e l. by-trap (is_extensible-proxy p (R.target o p e l)));
      prevent_extensions = λ o m. into.writing o m (λ r e. R.puts o _ (R.prototype o r e)) (λ p e l. by-trap-write (prevent_extensions-proxy p (R.target o p e l)));
      get_own_property = λ o k m. into.reading o m (λ r e. R.gives _ (R.own-found o r e k)) (λ p e l. R.weaken (λ x _. R.own-answered o p e k x) (by-trap (get_own_property-proxy p (R.target o p e l) k)));
      define_own_property = λ o k d m md. into.writing o m (λ r e. define_own_property-ordinary o k d m md r e) (λ p e l. by-trap-write (define_own_property-proxy p (R.target o p e l) k d md));
      has_property = λ o k m. into.reading o m (λ r e. has_property-ordinary o k m) (λ p e l. by-trap (has_property-proxy p (R.target o p e l) k));
      get = λ o k receiver m. into.reading o m (λ r e. get-ordinary o k receiver m) (λ p e l. by-trap-value (get-proxy p (R.target o p e l) k receiver));
      set = λ o k v receiver m mv mr. into.writing o m (λ r e. set-ordinary o k v receiver m mv mr) (λ p e l. by-trap-write (set-proxy p (R.target o p e l) k v receiver mv mr));
      delete = λ o k m. into.writing o m (λ r e. delete-ordinary o k m) (λ p e l. by-trap-write (delete-proxy p (R.target o p e l) k));
      own_property_keys = λ o m. into.reading o m (λ r e. R.gives _ tt) (λ p e l. by-trap (own_property_keys-proxy p (R.target o p e l)));
    }

  -- a relation that does not go by the depth
  pub methods-by : Stops R → Enters R (λ A Q m m'. R.reads Q m m') R.writes → (n : ℕ) → RelatedMethods R (methods n c) (methods n c')
  unfolding methods
  methods-by stops into zero = record {
    get_prototype_of = λ o _. stops.reads;
    set_prototype_of = λ o v _ _. stops.writes;
    is_extensible = λ o _. stops.reads;
    prevent_extensions = λ o _. stops.writes;
    get_own_property = λ o k _. stops.reads;
    define_own_property = λ o k d _ _. stops.writes;
    has_property = λ o k _. stops.reads;
    get = λ o k receiver _. stops.reads;
    set = λ o k v receiver _ _ _. stops.writes;
    delete = λ o k _. stops.writes;
    own_property_keys = λ o _. stops.reads;
  }
  methods-by stops into (suc n) = level_by (methods n c) (methods n c') (methods-by stops into n) _ _ into
