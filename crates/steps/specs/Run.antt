-- Lists of calls: each finds the world that its predecessor left. Assumes nothing.
use Rattle.std.specs.Prelude.{ℕ, zero, suc, ◌≡◌, List, [], ◌∷◌, Some, slice_get}
use Rattle.store.specs.Store.{World, empty}
use Rattle.steps.specs.Response.{Response, Effect}
use Rattle.steps.specs.Step
use Rattle.steps.specs.StringEntry.{enter_string}
use Rattle.steps.specs.Page.{property_page}

-- a step with its sheet and its output, of any content and length; a string's code units; or an object's number, and an output for its page
pub data Call : Type 0 where
  step : (bytes sheet output : List ℕ) → Call
  enter : (units : List ℕ) → Call
  page : (object : ℕ) (output : List ℕ) → Call

unfoldable pub effect : World → Call → Effect
effect ω (step bytes sheet output) = Step.step ω bytes sheet output
effect ω (enter units) = enter_string ω units
effect ω (page object output) = property_page ω object output

-- a call that was made, and what it answered
pub record Event : Type 0 where
  pub call : Call
  pub response : Response

-- the event at a place of the list, counted from 0
abbrev pub At : List Event → ℕ → Event → Type 0
At events i e = slice_get events i ≡ Some e

unfoldable pub run_from : World → List Call → List Event
run_from ω [] = []
run_from ω (c ∷ cs) = record { call = c; response = (effect ω c).response } ∷ run_from (effect ω c).world cs

-- the events of a list of calls, from nothing made or entered
unfoldable pub run : List Call → List Event
run calls = run_from empty calls

-- the world that the call at place i finds, counted from 0
unfoldable pub world_from : World → List Call → ℕ → World
world_from ω cs zero = ω
world_from ω [] (suc i) = ω
world_from ω (c ∷ cs) (suc i) = world_from (effect ω c).world cs i

abbrev pub world_at : List Call → ℕ → World
world_at calls i = world_from empty calls i
