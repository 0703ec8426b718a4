-- A report as ten words, for C, and the report that ten words tell. What is not used is 0, as are the words of undefined. Assumes nothing.
use Rattle.std.specs.Prelude.{ℕ, ◌≡◌, List, [], ◌∷◌, eqb}
use Rattle.value.specs.declared.Value.{Value}
use Rattle.value.specs.declared.Value.TheVariants.{Undefined}
use Rattle.value.specs.Words.{pick, kind_of, payload_of, value_of}
use Rattle.store.specs.Words.{word_at, property_of, flags_of, primary, secondary}
use Rattle.store_write.specs.Write.{Fits}
use Rattle.steps.specs.declared.Completion.{Completion}
use Rattle.steps.specs.declared.Completion.TheVariants as completion
use Rattle.steps.specs.declared.Outcome.{Outcome}
use Rattle.steps.specs.declared.Outcome.TheVariants as outcome
use Rattle.steps.specs.declared.Report.{Report}
use Rattle.steps.specs.Response.{outcome_number, refusal_or_message}

abbrev pub completion_form : Completion → ℕ
completion_form (completion.Value v) = 1
completion_form (completion.Descriptor p) = 2
completion_form completion.Absent = 3
completion_form (completion.Keys n) = 4
completion_form (completion.Page n) = 5

-- a descriptor's flags, the number of keys, or of a page's bytes
abbrev pub completion_detail : Completion → ℕ
completion_detail (completion.Value v) = 0
completion_detail (completion.Descriptor p) = flags_of p
completion_detail completion.Absent = 0
completion_detail (completion.Keys n) = n
completion_detail (completion.Page n) = n

-- the value, or a descriptor's value or getter
abbrev pub completion_first : Completion → Value
completion_first (completion.Value v) = v
completion_first (completion.Descriptor p) = primary p
completion_first completion.Absent = Undefined
completion_first (completion.Keys n) = Undefined
completion_first (completion.Page n) = Undefined

-- a descriptor's setter
abbrev pub completion_second : Completion → Value
completion_second (completion.Value v) = Undefined
completion_second (completion.Descriptor p) = secondary p
completion_second completion.Absent = Undefined
completion_second (completion.Keys n) = Undefined
completion_second (completion.Page n) = Undefined

-- 0 nothing, 1 a value, a thrown one too, 2 a descriptor, 3 absent, 4 keys, 5 a page
abbrev pub outcome_form : Outcome → ℕ
outcome_form (outcome.Refused n) = 0
outcome_form (outcome.Result c) = completion_form c
outcome_form (outcome.TypeError n) = 0
outcome_form (outcome.Thrown v) = 1

abbrev pub outcome_detail : Outcome → ℕ
outcome_detail (outcome.Refused n) = 0
outcome_detail (outcome.Result c) = completion_detail c
outcome_detail (outcome.TypeError n) = 0
outcome_detail (outcome.Thrown v) = 0

abbrev pub outcome_first : Outcome → Value
outcome_first (outcome.Refused n) = Undefined
outcome_first (outcome.Result c) = completion_first c
outcome_first (outcome.TypeError n) = Undefined
outcome_first (outcome.Thrown v) = v

abbrev pub outcome_second : Outcome → Value
outcome_second (outcome.Refused n) = Undefined
outcome_second (outcome.Result c) = completion_second c
outcome_second (outcome.TypeError n) = Undefined
outcome_second (outcome.Thrown v) = Undefined

unfoldable pub report_words : Report → List ℕ
report_words r =
    outcome_number r.outcome
    ∷ refusal_or_message r.outcome
    ∷ r.answers
    ∷ r.calls
    ∷ outcome_form r.outcome
    ∷ outcome_detail r.outcome
    ∷ kind_of (outcome_first r.outcome)
    ∷ payload_of (outcome_first r.outcome)
    ∷ kind_of (outcome_second r.outcome)
    ∷ payload_of (outcome_second r.outcome)
    ∷ []

-- Reading them: form and detail, then the two values
unfoldable pub completion_from : ℕ → ℕ → Value → Value → Completion
completion_from form detail a b =
    pick (eqb form 1) (completion.Value a)
    (pick (eqb form 2) (completion.Descriptor (property_of detail a b))
    (pick (eqb form 3) completion.Absent
    (pick (eqb form 4) (completion.Keys detail)
    (completion.Page detail))))

unfoldable pub outcome_from : ℕ → ℕ → Completion → Value → Outcome
outcome_from number n c v =
    pick (eqb number 0) (outcome.Refused n)
    (pick (eqb number 1) (outcome.Result c)
    (pick (eqb number 2) (outcome.TypeError n)
    (outcome.Thrown v)))

unfoldable pub report_from : List ℕ → Report
report_from words =
    let first = value_of (word_at words 6) (word_at words 7) in
    let second = value_of (word_at words 8) (word_at words 9) in
    record {
      outcome = outcome_from (word_at words 0) (word_at words 1) (completion_from (word_at words 4) (word_at words 5) first second) first;
      answers = word_at words 2;
      calls = word_at words 3;
    }

abbrev pub report : Outcome → ℕ → ℕ → Report
report o answers calls = record { outcome = o; answers = answers; calls = calls }

-- ten words are a report's, and tell it again
abbrev pub Tells : Outcome → ℕ → ℕ → List ℕ → Type 0
Tells o answers calls words = (words ≡ report_words (report o answers calls)) × (report_from words ≡ report o answers calls)

-- ten words of a value that is a result or was thrown, by the outcome's number; the value is told again
pub record ValueTold (number : ℕ) (v : Value) (answers calls : ℕ) (words : List ℕ) : Type 0 where
  pub ten : words ≡ number ∷ 0 ∷ answers ∷ calls ∷ 1 ∷ 0 ∷ kind_of v ∷ payload_of v ∷ 0 ∷ 0 ∷ []
  pub fits : Fits v
