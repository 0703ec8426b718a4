-- What the code answers for the operations that make no calls. Assumes nothing.
use Rattle.std.specs.Prelude.{Result, Ok, Err, ℕ, Bool, true, false, cond, ltb, Option, None, Some}
use Rattle.value.specs.declared.Value.{Value}
use Rattle.value.specs.declared.Value.TheVariants as value
use Rattle.store.specs.declared.Object.{Object}
use Rattle.store.specs.declared.Object.TheVariants.{Ordinary, Proxy}
use Rattle.store.specs.Store.{Store, next_number, live_count, named, maximum_objects}
use Rattle.store_write.specs.declared.write.Write.{Write}
use Rattle.store_write.specs.declared.write.Write.TheVariants as write
use Rattle.internal_methods.specs.declared.Failure.{Failure}
use Rattle.internal_methods.specs.declared.Failure.TheVariants.{Refused}
use Rattle.steps.specs.declared.Completion.TheVariants as completion
use Rattle.steps.specs.Operation.{natural_of}
use Rattle.reporting.specs.declared.Performed.{Performed}

abbrev pub performed : Value → Write → Performed
performed v w = record { completion = completion.Value v; write = w }

unfoldable pub make_out : Store → Object → Bool → Result Performed Failure
make_out σ x b = cond (ltb (live_count σ) maximum_objects) (Ok (performed (named b (next_number σ)) (write.NewObject x b))) (Err (Refused 7))

abbrev pub make_object_out : Store → Value → Bool → Result Performed Failure
make_object_out σ v b = make_out σ (Ordinary (record { prototype = v; extensible = true })) b

abbrev pub make_proxy_out : Store → ℕ → Value → Result Performed Failure
make_proxy_out σ o mask = make_out σ (Proxy (record { target = o; traps = natural_of mask; revoked = false })) false

abbrev pub revocation : ℕ → Object → Write
revocation o (Ordinary r) = write.Nothing
revocation o (Proxy p) = write.Object o (Proxy (record { target = p.target; traps = p.traps; revoked = true }))

abbrev pub revoke_out : ℕ → Option Object → Performed
revoke_out o None = performed (value.Boolean true) write.Nothing
revoke_out o (Some x) = performed (value.Boolean true) (revocation o x)

abbrev pub release_out : ℕ → Performed
release_out o = performed (value.Boolean true) (write.Release o)
