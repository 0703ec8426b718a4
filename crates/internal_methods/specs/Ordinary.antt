-- ECMA-262 10.1 Ordinary Object Internal Methods and Internal Slots. Assumes nothing.
use Rattle.std.specs.Prelude.{ℕ, zero, suc, Bool, true, false, not, cond, eqb, ltb, length, Option, None, Some}
use Rattle.value.specs.declared.Value.{Value}
use Rattle.value.specs.declared.Value.TheVariants.{Undefined}
use Rattle.value.specs.declared.PropertyKey.{PropertyKey}
use Rattle.value.specs.Value.{same_value, is_undefined, object_of}
use Rattle.property.specs.declared.DescriptorKind.TheVariants as kind
use Rattle.property.specs.declared.PropertyDescriptor.{PropertyDescriptor}
use Rattle.property.specs.declared.Property.{Property}
use Rattle.property.specs.declared.Property.TheVariants.{Data, Accessor}
use Rattle.property.specs.declared.Validation.{Validation}
use Rattle.property.specs.declared.Validation.TheVariants.{Rejected, Unchanged, Becomes}
use Rattle.property.specs.Fields.{configurable}
use Rattle.property.specs.Descriptor.{descriptor_of}
use Rattle.property.specs.Validate.{validate}
use Rattle.store.specs.declared.OrdinaryObject.{OrdinaryObject}
use Rattle.store.specs.declared.Object.{Object}
use Rattle.store.specs.declared.Object.TheVariants.{Ordinary, Proxy}
use Rattle.store.specs.Store.{Store, lookup, put, own, with_property, without_property}
use Rattle.internal_methods.specs.declared.Failure.TheVariants.{Refused}
use Rattle.internal_methods.specs.Monad.{M, pure, fails, ◌>>=◌, ◌>>◌, when◌then◌else◌}
use Rattle.internal_methods.specs.Answers.{ask_value}
use Rattle.internal_methods.specs.Methods.{Context, Methods, Written}

-- 10.1.1.1 OrdinaryGetPrototypeOf ( O )
abbrev pub ordinary_get_prototype_of : OrdinaryObject → Value
ordinary_get_prototype_of r = r.prototype  -- 1

-- 10.1.2.1 step 7: does the chain of prototypes from v lead to o? It has at most as many members as there are objects.
unfoldable pub reaches : ℕ → Store → ℕ → Value → Bool
reaches zero σ o v = false
reaches (suc n) σ o v = elim (object_of v) [
  | None ↦ false  -- 7.a
  | Some p ↦ elim (eqb p o) [
    | true ↦ true  -- 7.b
    | false ↦ elim (lookup σ p) [
      | None ↦ false
      | Some (Proxy q) ↦ false  -- 7.c.i
      | Some (Ordinary r) ↦ reaches n σ o r.prototype  -- 7.c.ii
    ]
  ]
]

abbrev pub with_prototype : OrdinaryObject → Value → Object
with_prototype r v = Ordinary (record { prototype = v; extensible = r.extensible })

-- 10.1.2.1 OrdinarySetPrototypeOf ( O, V )
unfoldable pub ordinary_set_prototype_of : Store → ℕ → OrdinaryObject → Value → Written
ordinary_set_prototype_of σ o r v =
    cond (same_value v r.prototype) (true, σ)  -- 1, 2
    (cond (not r.extensible) (false, σ)  -- 3, 4
    (cond (reaches (length σ.objects) σ o v) (false, σ)  -- 5, 6, 7
    (true, put σ o (with_prototype r v))))  -- 8, 9

-- 10.1.3.1 OrdinaryIsExtensible ( O )
abbrev pub ordinary_is_extensible : OrdinaryObject → Bool
ordinary_is_extensible r = r.extensible  -- 1

-- 10.1.4.1 OrdinaryPreventExtensions ( O )
abbrev pub ordinary_prevent_extensions : Store → ℕ → OrdinaryObject → Written
ordinary_prevent_extensions σ o r = (true, put σ o (Ordinary (record { prototype = r.prototype; extensible = false })))  -- 1, 2

-- 10.1.5.1 OrdinaryGetOwnProperty ( O, P )
abbrev pub ordinary_get_own_property : Store → ℕ → PropertyKey → Option Property
ordinary_get_own_property σ o k = own σ o k

-- refusal 7: one more property is one too many
abbrev pub is_full : Context → Bool
is_full c = not (ltb (length c.store.properties) c.allowance)

-- the write of 10.1.6.3 steps 2.c, 2.d and 6
unfoldable pub apply_validation : Context → ℕ → PropertyKey → Option Property → Validation → M Written
apply_validation c o k current (Rejected t) = pure (false, c.store)
apply_validation c o k current Unchanged = pure (true, c.store)
apply_validation c o k None (Becomes p) = when is_full c then fails (Refused 7) else pure (true, with_property c.store o k p)
apply_validation c o k (Some q) (Becomes p) = pure (true, with_property c.store o k p)

-- 10.1.6.1 OrdinaryDefineOwnProperty ( O, P, Desc )
unfoldable pub ordinary_define_own_property : Context → Methods → ℕ → PropertyKey → PropertyDescriptor → M Written
ordinary_define_own_property c call o k d = do
  current ← call.get_own_property o k  -- 1
  extensible ← call.is_extensible o  -- 2
  apply_validation c o k current (validate extensible d current)  -- 3

-- 10.1.7.1 OrdinaryHasProperty ( O, P )
unfoldable pub ordinary_has_property : Methods → ℕ → PropertyKey → M Bool
ordinary_has_property call o k = do
  has_own ← call.get_own_property o k  -- 1
  elim has_own [
    | Some p ↦ pure true  -- 2
    | None ↦ do
      parent ← call.get_prototype_of o  -- 3
      elim (object_of parent) [
        | Some q ↦ call.has_property q k  -- 4
        | None ↦ pure false  -- 5
      ]
  ]

-- 10.1.8.1 OrdinaryGet ( O, P, Receiver )
unfoldable pub ordinary_get : Methods → ℕ → PropertyKey → Value → M Value
ordinary_get call o k receiver = do
  desc ← call.get_own_property o k  -- 1
  elim desc [
    | None ↦ do  -- 2
      parent ← call.get_prototype_of o  -- 2.a
      elim (object_of parent) [
        | None ↦ pure Undefined  -- 2.b
        | Some q ↦ call.get q k receiver  -- 2.c
      ]
    | Some (Data v w e c) ↦ pure v  -- 3
    | Some (Accessor g s e c) ↦  -- 4, 5
        when is_undefined g then pure Undefined  -- 6
        else ask_value  -- 7
  ]

-- { [[Value]]: V }
abbrev pub value_descriptor : Value → PropertyDescriptor
value_descriptor v = record {
  enumerable = None;
  configurable = None;
  kind = kind.Data (Some v) None;
}

-- 10.1.9.2 step 2.c to 2.e, on a receiver that is an object
unfoldable pub set_on_receiver : Context → Methods → PropertyKey → Value → ℕ → M Written
set_on_receiver c call k v receiver = do
  existing ← call.get_own_property receiver k  -- 2.c
  elim existing [
    | Some (Accessor g s e f) ↦ pure (false, c.store)  -- 2.d.i
    | Some (Data w wr e f) ↦  -- 2.d
        when not wr then pure (false, c.store)  -- 2.d.ii
        else call.define_own_property receiver k (value_descriptor v)  -- 2.d.iii, 2.d.iv
    | None ↦ call.define_own_property receiver k (descriptor_of (Data v true true true))  -- 2.e, 7.3.5 CreateDataProperty
  ]

-- 10.1.9.2 step 2
unfoldable pub set_data : Context → Methods → PropertyKey → Value → Bool → Value → M Written
set_data c call k v writable receiver =
    when not writable then pure (false, c.store)  -- 2.a
    else elim (object_of receiver) [
      | None ↦ pure (false, c.store)  -- 2.b
      | Some r ↦ set_on_receiver c call k v r
    ]

-- 10.1.9.1 OrdinarySet ( O, P, V, Receiver ), with 10.1.9.2 OrdinarySetWithOwnDescriptor
unfoldable pub ordinary_set : Context → Methods → ℕ → PropertyKey → Value → Value → M Written
ordinary_set c call o k v receiver = do
  own_desc ← call.get_own_property o k  -- 10.1.9.1 step 1
  elim own_desc [
    | None ↦ do  -- 1
      parent ← call.get_prototype_of o  -- 1.a
      elim (object_of parent) [
        | Some q ↦ call.set q k v receiver  -- 1.b
        | None ↦ set_data c call k v true receiver  -- 1.c
      ]
    | Some (Data w wr e f) ↦ set_data c call k v wr receiver  -- 2
    | Some (Accessor g s e f) ↦  -- 3, 4
        when is_undefined s then pure (false, c.store)  -- 5
        else ask_value >> pure (true, c.store)  -- 6, 7
  ]

-- 10.1.10.1 OrdinaryDelete ( O, P )
unfoldable pub ordinary_delete : Context → Methods → ℕ → PropertyKey → M Written
ordinary_delete c call o k = do
  desc ← call.get_own_property o k  -- 1
  elim desc [
    | None ↦ pure (true, c.store)  -- 2
    | Some p ↦
        when configurable p then pure (true, without_property c.store o k)  -- 3
        else pure (false, c.store)  -- 4
  ]
