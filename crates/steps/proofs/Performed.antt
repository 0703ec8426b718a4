-- What each operation's result says of the store, and what it does to objects and their numbers. Assumes nothing.
use Rattle.std.specs.Prelude.{Option, None, Some}
use Prim.Native.Nat.{ℕ, ◌<◌}
use mathlib.Core.Path.{◌≡◌, refl, sym, ◌∙◌, subst}
use mathlib.Core.Bool.{Bool, true, false, false≢true, true≢false}
use mathlib.Core.List.{List}
use borrow.Author.Tests.{ltb-true}
use Rattle.value.specs.declared.Value.{Value}
use Rattle.value.specs.declared.PropertyKey.{PropertyKey}
use Rattle.value.specs.Value.{same_value}
use Rattle.store.specs.declared.Object.{Object}
use Rattle.store.specs.declared.Object.TheVariants.{Ordinary, Proxy}
use Rattle.store.specs.Store.{Store, lookup, add, next_number, live_count, named, maximum_objects}
use Rattle.store.specs.Release
use Rattle.internal_methods.specs.Monad.{State, Out, M}
use Rattle.internal_methods.specs.Methods.{Context, Written}
use Rattle.internal_methods.specs.Internal.{methods}
use Rattle.internal_methods.proofs.Ensures.{Ensures, ensures-pure, ensures-fails, ensures-bind, ensures-if, ensures-then, ensures-all}
use Rattle.internal_methods.proofs.Base.{Under, on-base, Frozen, Shut}
use Rattle.internal_methods.proofs.Later.{IsOrdinary, Remains, remains-refl, remains-proxy}
use Rattle.internal_methods.proofs.Reports.{Changed, Faithful, SamePrototype, Defined, Gone, KeysTied, HasTied, is_extensible-report, get_own_property-report, get-report, prevent_extensions-report, define_own_property-report, delete-report, get_prototype_of-report, set_prototype_of-report, own_property_keys-report, has_property-report, set-report}
use Rattle.steps.specs.Operation.{Level, Operation, makes_object, make_object, make_proxy, revoke, get_prototype_of, set_prototype_of, is_extensible, prevent_extensions, get_own_property, define_own_property, has_property, get, set, delete, own_property_keys, make_function, release, set_integrity_level, test_integrity_level}
use Rattle.steps.specs.Sequence.{Ran, written}
use Rattle.steps.specs.TestIntegrityLevel
use Rattle.steps.specs.Perform.{Result, value, keys, own_result, boolean, once, in_turn, reading, writing, make, revoked, perform}
use Rattle.steps.proofs.Sequences.{Led, leads-pure, leads-bind}
use Rattle.steps.proofs.Integrity.{integrity-remains}
use Rattle.property.specs.declared.Property.{Property}

-- what a result says, from the store before it and the store after it
abbrev pub Says : Store → Operation → Result → Store → Type 0
Says σ (make_object v) r τ = Unit {0}
Says σ (make_proxy o traps) r τ = Unit {0}
Says σ (revoke o) r τ = Unit {0}
Says σ (get_prototype_of o) r τ = (v : Value) × (r ≡ value v) × SamePrototype σ o v
Says σ (set_prototype_of o v) r τ = r ≡ boolean true → SamePrototype σ o v
Says σ (is_extensible o) r τ = (x : Bool) × (r ≡ boolean x) × Under σ o (λ b y. x ≡ y.extensible)
Says σ (prevent_extensions o) r τ = r ≡ boolean true → Shut τ o
Says σ (get_own_property o k) r τ = (d : Option Property) × (r ≡ own_result d) × Faithful σ o k d
Says σ (define_own_property o k d) r τ = r ≡ boolean true → Defined σ o k d τ
Says σ (has_property o k) r τ = (x : Bool) × (r ≡ boolean x) × HasTied σ o k x
Says σ (get o k receiver) r τ = (x : Value) × (r ≡ value x) × ((v : Value) → Frozen σ o k v → same_value x v ≡ true)
Says σ (set o k v receiver) r τ = r ≡ boolean true → (w : Value) → Frozen σ o k w → same_value v w ≡ true
Says σ (delete o k) r τ = r ≡ boolean true → Gone σ o k τ
Says σ (own_property_keys o) r τ = (ks : List PropertyKey) × (r ≡ keys ks) × Under σ o (λ b x. KeysTied σ b x ks)
Says σ (make_function v) r τ = Unit {0}
Says σ (release o) r τ = r ≡ boolean true
Says σ (set_integrity_level o level) r τ = r ≡ boolean true → Shut τ o
Says σ (test_integrity_level o level) r τ = r ≡ boolean true → Shut σ o

-- what an operation does to objects and their numbers: nothing of them ends, one is made, or one is released
pub data Moves (σ : Store) (asks : Operation) (r : Option Result) (τ : Store) : Type 0 where
  remains : Remains σ τ → Moves σ asks r τ
  makes : (x : Object) (b : Bool) → makes_object asks ≡ true → r ≡ Some (value (named b (next_number σ))) → live_count σ < maximum_objects → (b ≡ true → IsOrdinary x) → τ ≡ add σ x b → Moves σ asks r τ
  releases : (o : ℕ) → asks ≡ release o → r ≡ Some (boolean true) → τ ≡ Release.release σ o → Moves σ asks r τ

-- the result of a run, if it has one
abbrev pub result_of : Out Result → Option Result
result_of (Out.failed f s) = None
result_of (Out.done r s) = Some r

-- whatever the end; and a result says what it says
pub record Said (σ : Store) (asks : Operation) (x : Ran Result) : Type 0 where
  pub moves : Moves σ asks (result_of x.0) x.1
  pub says : (r : Result) (t : State) → x.0 ≡ Out.done r t → Says σ asks r x.1

pub boolean-is : (x y : Bool) → boolean x ≡ boolean y → x ≡ y
boolean-is x y h = cc

-- Operations that write at most once ----------------------------------------------------

-- what is ensured of a run that is done
record Gives (σ : Store) (asks : Operation) (a : Result × Store) : Type 0 where
  moves : Moves σ asks (Some a.0) a.1
  says : Says σ asks a.0 a.1

said-once : (σ : Store) (asks : Operation) (m : M (Result × Store)) → Ensures m (Gives σ asks) → (s : State) → Said σ asks ((once σ m).run s)
unfolding once
said-once σ asks m h s = go (m.run s) refl
  where
    go : (x : Out (Result × Store)) → m.run s ≡ x → Said σ asks (written σ x)
    go (Out.failed f t) e = record { moves = remains (remains-refl σ); says = λ r u i. absurd (false≢true cc) }
    go (Out.done a t) e = let g = h.at s a t e in record {
      moves = g.moves;
      says = λ r u i. let j : a.0 ≡ r = cc in subst (λ (y : Result). Says σ asks y a.1) j g.says;
    }

wrote : {σ : Store} {P : Store → Type 0} {asks : Operation} (m : M Written) → Ensures m (Changed σ P)
    → ((r : Result) (τ : Store) → (r ≡ boolean true → P τ) → Says σ asks r τ) → (s : State) → Said σ asks ((once σ (writing m)).run s)
wrote {σ} {P} {asks} m h f = said-once σ asks (writing m) (ensures-bind h (λ a c. ensures-pure _ (record { moves = remains c.remains; says = f _ _ (λ e. c.says (boolean-is a.0 true e)) })))

read : {A : Type 0} (σ : Store) {Q : A → Type 0} (result : A → Result) {asks : Operation} (m : M A) → Ensures m Q
    → ((a : A) → Q a → Says σ asks (result a) σ) → (s : State) → Said σ asks ((once σ (reading σ result m)).run s)
read σ result {asks} m h f = said-once σ asks (reading σ result m) (ensures-bind h (λ a q. ensures-pure _ (record { moves = remains (remains-refl σ); says = f a q })))

made : (σ : Store) (x : Object) (b : Bool) → (b ≡ true → IsOrdinary x) → (asks : Operation) → makes_object asks ≡ true → ((r : Result) (τ : Store) → Says σ asks r τ) → (s : State) → Said σ asks ((once σ (make σ x b)).run s)
unfolding make
made σ x b o asks m f = said-once σ asks _ (ensures-if _ (λ h. ensures-pure _ (record { moves = makes x b m refl (ltb-true _ _ h) o refl; says = f _ _ })) (λ _. ensures-fails _))

revoked-remains : (σ : Store) (o : ℕ) (x : Option Object) → lookup σ o ≡ x → Remains σ (revoked σ o x)
revoked-remains σ o None e = remains-refl σ
revoked-remains σ o (Some (Ordinary r)) e = remains-refl σ
revoked-remains σ o (Some (Proxy p)) e = remains-proxy σ o p _ e refl (λ h. absurd (true≢false h))

-- 7.3.16: only a non-extensible object passes
test-report : (n : ℕ) (c : Context) (o : ℕ) (level : Level) → Ensures (TestIntegrityLevel.test_integrity_level (methods n c) o level) (λ b. b ≡ true → Shut c.store o)
unfolding TestIntegrityLevel.test_integrity_level
test-report n c o level = ensures-bind (is_extensible-report n c o) (λ x u. ensures-if x
    (λ e. ensures-pure _ (λ f. absurd (false≢true f)))
    (λ e. ensures-then _ (λ ks. ensures-all _ (λ b _. on-base (record { number = u.number; object = u.object; base = u.base; holds = sym u.holds ∙ e })))))

-- What writes as it goes ---------------------------------------------------------------------

set-said : (n : ℕ) (c : Context) (o : ℕ) (level : Level) (s : State) → Said c.store (set_integrity_level o level) ((perform n c (set_integrity_level o level)).run s)
unfolding perform in_turn
set-said n c o level s = go ((leads-bind (integrity-remains n c o c.store level) (λ b. leads-pure {Q = Tells} (boolean b) (λ σ q. by σ b q))).from c.store (remains-refl _) s)
  where
    Tells : Result → Store → Type 0
    Tells r τ = Remains c.store τ × (r ≡ boolean true → Shut τ o)

    by : (τ : Store) (b : Bool) → (b ≡ true → Remains c.store τ × Shut τ o) × (b ≡ false → Remains c.store τ) → Tells (boolean b) τ
    by τ true q = ((q.0 refl).0, λ _. (q.0 refl).1)
    by τ false q = (q.1 refl, λ e. absurd (false≢true (boolean-is false true e)))

    go : {x : Out Result} {τ : Store} → Led Tells (λ f υ. Remains c.store υ) x τ → Said c.store (set_integrity_level o level) (x, τ)
    go (Led.failed g) = record { moves = remains g; says = λ r u i. absurd (false≢true cc) }
    go (Led.done {a} {τ = τ} q) = record { moves = remains q.0; says = λ r u i e. let j : a ≡ r = cc in q.1 (j ∙ e) }

pub performed : (n : ℕ) (c : Context) (asks : Operation) (s : State) → Said c.store asks ((perform n c asks).run s)
unfolding perform
performed n c (make_object v) = made c.store _ _ (λ e. absurd (false≢true e)) _ refl (λ _ _. tt)
performed n c (make_proxy o traps) = made c.store _ _ (λ e. absurd (false≢true e)) _ refl (λ _ _. tt)
performed n c (revoke o) = said-once c.store (revoke o) _ (ensures-pure _ (record { moves = remains (revoked-remains c.store o _ refl); says = tt }))
performed n c (get_prototype_of o) = read _ value _ (get_prototype_of-report n c o) (λ v u. (v, refl, u))
performed n c (set_prototype_of o v) = wrote _ (set_prototype_of-report n c o v) (λ r τ f. f)
performed n c (is_extensible o) = read _ boolean _ (is_extensible-report n c o) (λ x u. (x, refl, u))
performed n c (prevent_extensions o) = wrote _ (prevent_extensions-report n c o) (λ r τ f. f)
performed n c (get_own_property o k) = read _ own_result _ (get_own_property-report n c o k) (λ d u. (d, refl, u))
performed n c (define_own_property o k d) = wrote _ (define_own_property-report n c o k d) (λ r τ f. f)
performed n c (has_property o k) = read _ boolean _ (has_property-report n c o k) (λ x u. (x, refl, u))
performed n c (get o k receiver) = read _ value _ (get-report n c o k receiver) (λ x u. (x, refl, u))
performed n c (set o k v receiver) = wrote _ (set-report n c o k v receiver) (λ r τ f. f)
performed n c (delete o k) = wrote _ (delete-report n c o k) (λ r τ f. f)
performed n c (own_property_keys o) = read _ keys _ (own_property_keys-report n c o) (λ ks u. (ks, refl, u))
performed n c (make_function v) = made c.store _ _ (λ _. record { object = _; is = refl }) _ refl (λ _ _. tt)
performed n c (release o) = said-once c.store (release o) _ (ensures-pure _ (record { moves = releases o refl refl refl; says = refl }))
performed n c (set_integrity_level o level) = set-said n c o level
performed n c (test_integrity_level o level) = read _ boolean _ (test-report n c o level) (λ b u e. u (boolean-is b true e))
