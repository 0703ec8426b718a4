-- Entering a string, by its code units. Assumes nothing.
use Rattle.std.specs.Prelude.{ℕ, List, []}
use Rattle.value.specs.declared.Value.TheVariants as value
use Rattle.text.specs.Strings.{Entry, enter}
use Rattle.text.specs.Strings as entry
use Rattle.store.specs.Store.{World}
use Rattle.steps.specs.Perform as result
use Rattle.steps.specs.Response.{Effect}
use Rattle.steps.specs.Response as ending
use Rattle.steps.specs.Step.{refusing}

abbrev pub entered : World → Entry → Effect
entered ω (entry.refused n) = refusing n ω []
entered ω (entry.entered n strings) = record {
  response = record { ending = ending.result (result.value (value.String n)); answers = 0; calls = 0 };
  world = record { store = ω.store; strings = strings };
  output = [];
}

unfoldable pub enter_string : World → List ℕ → Effect
enter_string ω units = entered ω (enter ω.strings units)
