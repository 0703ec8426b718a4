-- The internal methods of the objects of a store, each picked by the object's kind. Assumes nothing.
use Rattle.std.specs.Prelude.{ℕ, zero, suc}
use Rattle.store.specs.OwnKeys.{ordinary_own_property_keys}
use Rattle.internal_methods.specs.declared.Failure.TheVariants.{Refused}
use Rattle.internal_methods.specs.Monad.{pure, fails, dispatch}
use Rattle.internal_methods.specs.Methods.{Context, Methods}
use Rattle.internal_methods.specs.Ordinary.{ordinary_get_prototype_of, ordinary_set_prototype_of, ordinary_is_extensible, ordinary_prevent_extensions, ordinary_get_own_property, ordinary_define_own_property, ordinary_has_property, ordinary_get, ordinary_set, ordinary_delete}
use Rattle.internal_methods.specs.Proxy.{proxy_get_prototype_of, proxy_set_prototype_of, proxy_is_extensible, proxy_prevent_extensions, proxy_get_own_property, proxy_define_own_property, proxy_has_property, proxy_get, proxy_set, proxy_delete, proxy_own_property_keys}

-- the methods, where those that they call are `call`
abbrev pub level : Context → Methods → Methods
level c call = record {
  get_prototype_of = λ o. dispatch c.store o (λ r. pure (ordinary_get_prototype_of r)) (λ p. proxy_get_prototype_of call p);
  set_prototype_of = λ o v. dispatch c.store o (λ r. pure (ordinary_set_prototype_of c.store o r v)) (λ p. proxy_set_prototype_of c call p v);
  is_extensible = λ o. dispatch c.store o (λ r. pure (ordinary_is_extensible r)) (λ p. proxy_is_extensible c call p);
  prevent_extensions = λ o. dispatch c.store o (λ r. pure (ordinary_prevent_extensions c.store o r)) (λ p. proxy_prevent_extensions c call p);
  get_own_property = λ o k. dispatch c.store o (λ r. pure (ordinary_get_own_property c.store o k)) (λ p. proxy_get_own_property call p k);
  define_own_property = λ o k d. dispatch c.store o (λ r. ordinary_define_own_property c call o k d) (λ p. proxy_define_own_property c call p k d);
  has_property = λ o k. dispatch c.store o (λ r. ordinary_has_property call o k) (λ p. proxy_has_property c call p k);
  get = λ o k receiver. dispatch c.store o (λ r. ordinary_get call o k receiver) (λ p. proxy_get call p k receiver);
  set = λ o k v receiver. dispatch c.store o (λ r. ordinary_set c call o k v receiver) (λ p. proxy_set c call p k v receiver);
  delete = λ o k. dispatch c.store o (λ r. ordinary_delete c call o k) (λ p. proxy_delete c call p k);
  own_property_keys = λ o. dispatch c.store o (λ r. pure (ordinary_own_property_keys c.strings c.store o)) (λ p. proxy_own_property_keys call p);
}

-- at most n calls deep; `proofs/Budget` shows that the calls left always end a step before this depth does
unfoldable pub methods : ℕ → Context → Methods
methods zero c = record {
  get_prototype_of = λ o. fails (Refused 10);
  set_prototype_of = λ o v. fails (Refused 10);
  is_extensible = λ o. fails (Refused 10);
  prevent_extensions = λ o. fails (Refused 10);
  get_own_property = λ o k. fails (Refused 10);
  define_own_property = λ o k d. fails (Refused 10);
  has_property = λ o k. fails (Refused 10);
  get = λ o k receiver. fails (Refused 10);
  set = λ o k v receiver. fails (Refused 10);
  delete = λ o k. fails (Refused 10);
  own_property_keys = λ o. fails (Refused 10);
}
methods (suc n) c = level c (methods n c)
