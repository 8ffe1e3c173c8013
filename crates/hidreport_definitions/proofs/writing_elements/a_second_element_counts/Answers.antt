use Rattle.std.proofs.Common.{◌≡◌, ℕ, List, Result, Err}
use Rattle.std.specs.Prelude.{pos}
use Rattle.hidreport_fields.specs.declared.field.insert_error.InsertError.{InsertError}
use Rattle.hidreport_fields.specs.declared.field.insert_error.InsertError.TheVariants as refused
use Rattle.hidreport_definitions.proofs.writing_elements.a_second_element_counts.Goals as goal

abbrev by : InsertError → Result (List ℕ) InsertError
by refusal = Err refusal

pub returns : goal.returns
returns c = λ law.
    let same : by refused.OutOfBounds ≡ by refused.MismatchingReportId = law.last (pos 0) in cc
