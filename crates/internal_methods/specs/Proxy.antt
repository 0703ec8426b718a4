-- ECMA-262 10.5 Proxy Object Internal Methods and Internal Slots, with the message numbers of docs/REFERENCE.md.
-- Steps 1 to 5, the same in each, are `dispatch`, the proxy's fields and its trap mask. Assumes nothing.
use Rattle.std.specs.Prelude.{ℕ, ◌/◌, ◌%◌, ◌^◌, Bool, true, false, not, ◌&&◌, List, [], ◌∷◌, eqb, Option, None, Some}
use Rattle.std.specs.Bool.{beq}
use Rattle.value.specs.declared.Value.{Value}
use Rattle.value.specs.declared.PropertyKey.{PropertyKey}
use Rattle.value.specs.Value.{same_value, is_undefined}
use Rattle.property.specs.declared.PropertyDescriptor.{PropertyDescriptor}
use Rattle.property.specs.declared.Property.{Property}
use Rattle.property.specs.declared.Property.TheVariants.{Data, Accessor}
use Rattle.property.specs.Fields.{is_false, writable_field, configurable}
use Rattle.property.specs.Descriptor.{is_uncallable, is_mixed, to_property_descriptor, complete, descriptor_of}
use Rattle.property.specs.Validate.{is_compatible}
use Rattle.store.specs.declared.ProxyObject.{ProxyObject}
use Rattle.internal_methods.specs.Monad.{M, pure, ◌>>=◌, ◌>>◌, throw_if, throw_any, when◌then◌else◌}
use Rattle.internal_methods.specs.Answers.{ask_value, ask_boolean, ask_prototype, ask_descriptor, ask_keys}
use Rattle.internal_methods.specs.Methods.{Context, Methods, Written}
use Rattle.internal_methods.specs.KeyList.{Sorted, duplicate, rejected}

-- is bit i of the trap mask set?
unfoldable pub has_trap : ProxyObject → ℕ → Bool
has_trap p i = eqb (p.traps / 2 ^ i % 2) 1

abbrev pub absent_or_configurable : Option Property → Bool
absent_or_configurable None = true
absent_or_configurable (Some p) = configurable p

abbrev pub is_writable : Option Property → Bool
is_writable None = false
is_writable (Some (Data v w e c)) = w
is_writable (Some (Accessor g s e c)) = false

-- a data property that is not writable
abbrev pub is_read_only : Property → Bool
is_read_only (Data v w e c) = not w
is_read_only (Accessor g s e c) = false

-- 10.5.1 [[GetPrototypeOf]] ( )
unfoldable pub proxy_get_prototype_of : Methods → ProxyObject → M Value
proxy_get_prototype_of call p =
    when not (has_trap p 0) then call.get_prototype_of p.target  -- 6
    else do
      handler_proto ← ask_prototype  -- 7, 8
      extensible_target ← call.is_extensible p.target  -- 9
      when extensible_target then pure handler_proto  -- 10
          else do
            target_proto ← call.get_prototype_of p.target  -- 11
            throw_if 3 (not (same_value handler_proto target_proto))  -- 12
            pure handler_proto  -- 13

-- 10.5.2 [[SetPrototypeOf]] ( V )
unfoldable pub proxy_set_prototype_of : Context → Methods → ProxyObject → Value → M Written
proxy_set_prototype_of c call p v =
    when not (has_trap p 1) then call.set_prototype_of p.target v  -- 6
    else do
      boolean_trap_result ← ask_boolean c.strings  -- 7
      when not boolean_trap_result then pure (false, c.store)  -- 8
          else do
            extensible_target ← call.is_extensible p.target  -- 9
            when extensible_target then pure (true, c.store)  -- 10
                else do
                  target_proto ← call.get_prototype_of p.target  -- 11
                  throw_if 4 (not (same_value v target_proto))  -- 12
                  pure (true, c.store)  -- 13

-- 10.5.3 [[IsExtensible]] ( )
unfoldable pub proxy_is_extensible : Context → Methods → ProxyObject → M Bool
proxy_is_extensible c call p =
    when not (has_trap p 2) then call.is_extensible p.target  -- 6
    else do
      boolean_trap_result ← ask_boolean c.strings  -- 7
      target_result ← call.is_extensible p.target  -- 8
      throw_if 5 (not (beq boolean_trap_result target_result))  -- 9
      pure boolean_trap_result  -- 10

-- 10.5.4 [[PreventExtensions]] ( )
unfoldable pub proxy_prevent_extensions : Context → Methods → ProxyObject → M Written
proxy_prevent_extensions c call p =
    when not (has_trap p 3) then call.prevent_extensions p.target  -- 6
    else do
      boolean_trap_result ← ask_boolean c.strings  -- 7
      when not boolean_trap_result then pure (false, c.store)
          else do  -- 8
            extensible_target ← call.is_extensible p.target  -- 8.a
            throw_if 6 extensible_target  -- 8.b
            pure (true, c.store)  -- 9

-- 10.5.5 [[GetOwnProperty]] ( P )
unfoldable pub proxy_get_own_property : Methods → ProxyObject → PropertyKey → M (Option Property)
proxy_get_own_property call p k =
    when not (has_trap p 4) then call.get_own_property p.target k  -- 6
    else do
      trap_result_obj ← ask_descriptor  -- 7, 8
      target_desc ← call.get_own_property p.target k  -- 9
      elim trap_result_obj [
        | None ↦ elim target_desc [  -- 10
          | None ↦ pure None  -- 10.a
          | Some target ↦ do
            throw_if 8 (not (configurable target))  -- 10.b
            extensible_target ← call.is_extensible p.target  -- 10.c
            throw_if 9 (not extensible_target)  -- 10.d
            pure None  -- 10.e
        ]
        | Some object ↦ do
          extensible_target ← call.is_extensible p.target  -- 11
          throw_if 27 (is_uncallable object.get)  -- 12, 6.2.6.5 step 12.b
          throw_if 28 (is_uncallable object.set)  -- 12, 6.2.6.5 step 14.b
          throw_if 29 (is_mixed object)  -- 12, 6.2.6.5 step 15
          let result_desc = complete (to_property_descriptor object)  -- 12, 13
          throw_if 10 (not (is_compatible extensible_target (descriptor_of result_desc) target_desc))  -- 14, 15
          throw_if 12 (not (configurable result_desc) && absent_or_configurable target_desc)  -- 16.a
          throw_if 11 (not (configurable result_desc) && (is_read_only result_desc && is_writable target_desc))  -- 16.b
          pure (Some result_desc)  -- 17
      ]

-- 10.5.6 [[DefineOwnProperty]] ( P, Desc )
unfoldable pub proxy_define_own_property : Context → Methods → ProxyObject → PropertyKey → PropertyDescriptor → M Written
proxy_define_own_property c call p k d =
    when not (has_trap p 5) then call.define_own_property p.target k d  -- 6
    else do
      boolean_trap_result ← ask_boolean c.strings  -- 7, 8
      when not boolean_trap_result then pure (false, c.store)  -- 9
          else do
            target_desc ← call.get_own_property p.target k  -- 10
            extensible_target ← call.is_extensible p.target  -- 11
            let setting_config_false = is_false d.configurable  -- 12, 13
            elim target_desc [
              | None ↦ do  -- 14
                throw_if 13 (not extensible_target)  -- 14.a
                throw_if 13 setting_config_false  -- 14.b
                pure (true, c.store)
              | Some target ↦ do  -- 15
                throw_if 14 (not (is_compatible extensible_target d (Some target)))  -- 15.a
                throw_if 15 (setting_config_false && configurable target)  -- 15.b
                throw_if 16 (not (configurable target) && (is_writable (Some target) && is_false (writable_field d.kind)))  -- 15.c
                pure (true, c.store)  -- 16
            ]

-- 10.5.7 [[HasProperty]] ( P )
unfoldable pub proxy_has_property : Context → Methods → ProxyObject → PropertyKey → M Bool
proxy_has_property c call p k =
    when not (has_trap p 6) then call.has_property p.target k  -- 6
    else do
      boolean_trap_result ← ask_boolean c.strings  -- 7
      when boolean_trap_result then pure true
          else do  -- 8
            target_desc ← call.get_own_property p.target k  -- 8.a
            elim target_desc [
              | None ↦ pure false
              | Some target ↦ do  -- 8.b
                throw_if 10 (not (configurable target))  -- 8.b.i
                extensible_target ← call.is_extensible p.target  -- 8.b.ii
                throw_if 10 (not extensible_target)  -- 8.b.iii
                pure false  -- 9
            ]

-- 10.5.8 step 9.a and 10.5.9 step 10.a: the target's property fixes another value
abbrev pub fixes_other : Option Property → Value → Bool
fixes_other None v = false
fixes_other (Some (Data w wr e c)) v = not c && (not wr && not (same_value v w))
fixes_other (Some (Accessor g s e c)) v = false

-- 10.5.8 step 9.b: there is no getter, and a value is given
abbrev pub lacks_getter : Option Property → Value → Bool
lacks_getter None v = false
lacks_getter (Some (Data w wr e c)) v = false
lacks_getter (Some (Accessor g s e c)) v = not c && (is_undefined g && not (is_undefined v))

-- 10.5.8 [[Get]] ( P, Receiver )
unfoldable pub proxy_get : Methods → ProxyObject → PropertyKey → Value → M Value
proxy_get call p k receiver =
    when not (has_trap p 7) then call.get p.target k receiver  -- 6
    else do
      trap_result ← ask_value  -- 7
      target_desc ← call.get_own_property p.target k  -- 8
      throw_if 17 (fixes_other target_desc trap_result)  -- 9.a
      throw_if 18 (lacks_getter target_desc trap_result)  -- 9.b
      pure trap_result  -- 10

-- 10.5.9 step 10.b: there is no setter
abbrev pub lacks_setter : Option Property → Bool
lacks_setter None = false
lacks_setter (Some (Data w wr e c)) = false
lacks_setter (Some (Accessor g s e c)) = not c && is_undefined s

-- 10.5.9 [[Set]] ( P, V, Receiver )
unfoldable pub proxy_set : Context → Methods → ProxyObject → PropertyKey → Value → Value → M Written
proxy_set c call p k v receiver =
    when not (has_trap p 8) then call.set p.target k v receiver  -- 6
    else do
      boolean_trap_result ← ask_boolean c.strings  -- 7
      when not boolean_trap_result then pure (false, c.store)  -- 8
          else do
            target_desc ← call.get_own_property p.target k  -- 9
            throw_if 19 (fixes_other target_desc v)  -- 10.a
            throw_if 20 (lacks_setter target_desc)  -- 10.b
            pure (true, c.store)  -- 11

-- 10.5.10 [[Delete]] ( P )
unfoldable pub proxy_delete : Context → Methods → ProxyObject → PropertyKey → M Written
proxy_delete c call p k =
    when not (has_trap p 9) then call.delete p.target k  -- 6
    else do
      boolean_trap_result ← ask_boolean c.strings  -- 7
      when not boolean_trap_result then pure (false, c.store)  -- 8
          else do
            target_desc ← call.get_own_property p.target k  -- 9
            elim target_desc [
              | None ↦ pure (true, c.store)  -- 10
              | Some target ↦ do
                throw_if 21 (not (configurable target))  -- 11
                extensible_target ← call.is_extensible p.target  -- 12
                throw_if 21 (not extensible_target)  -- 13
                pure (true, c.store)  -- 14
            ]

abbrev pub sorted_by : PropertyKey → Bool → Sorted → Sorted
sorted_by k true s = record { configurable = k ∷ s.configurable; nonconfigurable = s.nonconfigurable }  -- 16.c
sorted_by k false s = record { configurable = s.configurable; nonconfigurable = k ∷ s.nonconfigurable }  -- 16.b

-- 10.5.11 steps 14 to 16
unfoldable pub sorted : (PropertyKey → M (Option Property)) → List PropertyKey → M Sorted
sorted get_own [] = pure (record { configurable = []; nonconfigurable = [] })  -- 14, 15
sorted get_own (k ∷ ks) = do
  desc ← get_own k  -- 16.a
  rest ← sorted get_own ks
  pure (sorted_by k (absent_or_configurable desc) rest)

-- 10.5.11 [[OwnPropertyKeys]] ( )
unfoldable pub proxy_own_property_keys : Methods → ProxyObject → M (List PropertyKey)
proxy_own_property_keys call p =
    when not (has_trap p 10) then call.own_property_keys p.target  -- 6
    else do
      trap_result ← ask_keys  -- 7, 8
      throw_any (duplicate [] trap_result)  -- 9
      extensible_target ← call.is_extensible p.target  -- 10
      target_keys ← call.own_property_keys p.target  -- 11
      target ← sorted (call.get_own_property p.target) target_keys  -- 14, 15, 16
      throw_any (rejected extensible_target target trap_result)  -- 17 to 22
      pure trap_result  -- 23
