-- Ten words tell the report that they were made of, where its values are read back from theirs. Assumes nothing.
use Prim.Native.Nat.{ℕ}
use mathlib.Core.Path.{◌≡◌, refl, sym, ap, ◌∙◌, subst}
use mathlib.Core.List.{List}
use Rattle.value.specs.declared.Value.{Value}
use Rattle.value.specs.Words.{payload_of}
use Rattle.steps.specs.declared.Completion.{Completion}
use Rattle.steps.specs.declared.Completion.TheVariants as completion
use Rattle.steps.specs.declared.Outcome.{Outcome}
use Rattle.steps.specs.declared.Outcome.TheVariants as outcome
use Rattle.steps.specs.declared.Report.{Report}
use Rattle.steps.specs.Response.{outcome_number, refusal_or_message}
use Rattle.store_write.specs.Write.{Fits}
use Rattle.store_write.proofs.WriteLaws.{property-again, fits-undefined}
use Rattle.reporting.specs.ReportWords.{completion_form, completion_detail, completion_first, completion_second, outcome_form, outcome_detail, outcome_first, outcome_second, report_words, completion_from, outcome_from, report_from, Tells, ValueTold}

completion-told : (c : Completion) → completion_from (completion_form c) (completion_detail c) (completion_first c) (completion_second c) ≡ c
unfolding completion_from
completion-told (completion.Value v) = refl
completion-told (completion.Descriptor p) = ap completion.Descriptor (property-again p)
completion-told completion.Absent = refl
completion-told (completion.Keys n) = refl
completion-told (completion.Page n) = refl

outcome-told : (o : Outcome) → outcome_from (outcome_number o) (refusal_or_message o) (completion_from (outcome_form o) (outcome_detail o) (outcome_first o) (outcome_second o)) (outcome_first o) ≡ o
unfolding outcome_from
outcome-told (outcome.Refused n) = refl
outcome-told (outcome.Result c) = ap outcome.Result (completion-told c)
outcome-told (outcome.TypeError n) = refl
outcome-told (outcome.Thrown v) = refl

report-told : (r : Report) → Fits (outcome_first r.outcome) → Fits (outcome_second r.outcome) → report_from (report_words r) ≡ r
unfolding report_from report_words
report-told r first second = rw (first.again, second.again) (ap (λ (o : Outcome). record { outcome = o; answers = r.answers; calls = r.calls }) (outcome-told r.outcome))

pub words-tell : {r : Report} {words : List ℕ} → words ≡ report_words r → Fits (outcome_first r.outcome) → Fits (outcome_second r.outcome)
    → (words ≡ report_words r) × (report_from words ≡ r)
words-tell {r} e first second = (e, ap report_from e ∙ report-told r first second)

pub value_tells : {v : Value} {answers calls : ℕ} {words : List ℕ} → ValueTold 1 v answers calls words → Tells (outcome.Result (completion.Value v)) answers calls words
unfolding report_words payload_of
value_tells h = words-tell h.ten h.fits fits-undefined

pub thrown-tells : {v : Value} {answers calls : ℕ} {words : List ℕ} → ValueTold 3 v answers calls words → Tells (outcome.Thrown v) answers calls words
unfolding report_words payload_of
thrown-tells h = words-tell h.ten h.fits fits-undefined

-- a report whose outcome is known
pub outcome-tells : {r : Report} {o : Outcome} {words : List ℕ} → r.outcome ≡ o → Tells o r.answers r.calls words → (words ≡ report_words r) × (report_from words ≡ r)
outcome-tells {r} {o} {words} e h = subst (λ (x : Outcome). Tells x r.answers r.calls words) (sym e) h
