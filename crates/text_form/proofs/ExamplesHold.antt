-- What the definitions compute for each example is its output. Assumes nothing.
use mathlib.Core.Path.{◌≡◌, refl}
use mathlib.Core.List.{map}
use Rattle.value.specs.Words.{value_of, payload_of, is_formed}
use Rattle.text.specs.Strings.{same_text, number_of, enter}
use Rattle.internal_methods.specs.Monad.{pure, when◌then◌else◌}
use Rattle.record.specs.Bytes.{number_at, bytes_of, are_zero, value_at, is_value_at, value_bytes, is_part_at}
use Rattle.record.specs.Characters.{decimal_within, hexadecimal, digit_of, bytes_in}
use Rattle.record.specs.Descriptor.{descriptor_at}
use Rattle.record.specs.Sheet.{answers_at, are_answers_at, sheet_of, is_sheet, sheet_passes}
use Rattle.record.specs.Tests.{is_made, is_known, is_descriptor, first_failing}
use Rattle.record.specs.Step.{step_of, is_step, are_objects_made, are_kinds_usable}
use Rattle.steps.specs.Operation.{operation_of, asked}
use Rattle.steps.specs.Perform.{once, make, perform}
use Rattle.steps.specs.Step.{ran, step}
use Rattle.steps.specs.StringEntry.{enter_string}
use Rattle.steps.specs.Run.{effect, run_from, run}
use Rattle.text_form.specs.Cells.{pieces, units_of, is_dash, some_bytes_in, part_in, sheet_in, text_in}
use Rattle.text_form.specs.Lines.{all_of, columns_of, record_in, call_in}
use Rattle.text_form.specs.Rows.{row_of}
use Rattle.text_form.specs.Text.{without_empty_last, calls_of, rows, run_text}
use Rattle.text_form.specs.Examples.{Example, examples}

pub examples-hold : map (λ (x : Example). run_text x.input) examples ≡ map (λ (x : Example). x.output) examples
unfolding value_of payload_of is_formed same_text number_of enter pure when◌then◌else◌ number_at bytes_of are_zero value_at is_value_at value_bytes is_part_at descriptor_at answers_at are_answers_at sheet_of is_sheet sheet_passes is_made is_known is_descriptor first_failing step_of is_step are_objects_made are_kinds_usable operation_of asked once make perform ran step enter_string effect run_from run pieces digit_of bytes_in units_of is_dash some_bytes_in part_in sheet_in text_in all_of columns_of record_in call_in decimal_within hexadecimal row_of without_empty_last calls_of rows run_text
examples-hold = refl
