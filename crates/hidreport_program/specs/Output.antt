-- What a command writes of the bytes that it read, and how it ends.
use Rattle.std.specs.Prelude.{ℕ, List, ◌++◌, flat_map, Option, Some, None, Result, Ok, Err}
use Rattle.std.specs.Prelude.{string_bytes}
use Rattle.hidreport_items.specs.Spelling.{item_of}
use Rattle.hidreport_lists.specs.Answer.{Refusal, InvalidData, OutOfBounds, MismatchingReportId, BudgetExceeded}
use Rattle.hidreport_lists.specs.Entry.{Entry}
use Rattle.hidreport_lists.specs.Itemising.{as_refusal, itemise}
use Rattle.hidreport_lists.specs.Rebuilt.{rebuild_answer}
use Rattle.hidreport_lists.specs.declared.error.ParserError.{ParserError}
use Rattle.hidreport_lists.specs.declared.error.ParserError.TheVariants as errors
use Rattle.hidreport.specs.Budget.{parse_within, parse_within_by}
use Rattle.hidreport.specs.ItemState.{item_state_globals_only}
use Rattle.hidreport.specs.Lookup.{find_report}
use Rattle.hidreport.specs.Meaning.{parse, parse_globals_only}
use Rattle.hidreport.specs.Records.{ReportRecord, DescriptorRecord}
use Rattle.hidreport_program.specs.ItemLines.{items_text}
use Rattle.hidreport_program.specs.Lines.{line_of_field, report_line, refusal_line, no_report_line}
use Rattle.hidreport_program.specs.Lines.{rebuilt_line}
use Rattle.hidreport_program.specs.declared.program.commands.Command.{Command}
use Rattle.hidreport_program.specs.declared.program.commands.Command.TheVariants.{Items, Values}
use Rattle.hidreport_program.specs.declared.program.commands.Command.TheVariants.{ValuesWithin}
use Rattle.hidreport_program.specs.declared.program.commands.Command.TheVariants.{ValuesGlobals}
use Rattle.hidreport_program.specs.declared.program.commands.Command.TheVariants.{ValuesGlobalsWithin}
use Rattle.hidreport_program.specs.declared.program.commands.Command.TheVariants.{Rebuild}
use Rattle.hidreport_program.specs.declared.program.ending.Outcome.{Outcome}
use Rattle.hidreport_program.specs.declared.program.ending.Outcome.TheVariants.{Done, Refused}
use Rattle.hidreport.specs.declared.parser.usages_by.UsagesBy.TheVariants as usages_by

-- a whole text, and whether it is the command's or a refusal
pub record Output : Type 0 where
  pub text : List ℕ
  pub outcome : Outcome

-- a report's line, and one for each of its fields
abbrev pub report_text : ReportRecord → List ℕ → List ℕ
report_text report bytes = report_line report.id report.size ++ flat_map (line_of_field bytes)
    report.fields

abbrev pub found_output : Option ReportRecord → List ℕ → Output
found_output (Some report) bytes = record { text = report_text report bytes; outcome = Done }
found_output None bytes = record { text = no_report_line; outcome = Refused }

-- the values of the input report that the bytes are of, or why there are none
abbrev pub values_output : Result DescriptorRecord Refusal → List ℕ → Output
values_output (Ok descriptor) bytes = found_output (find_report descriptor.input bytes) bytes
values_output (Err refusal) bytes = record { text = refusal_line refusal; outcome = Refused }

-- a line for each item, or why the bytes are none
abbrev pub items_output : Result (List Entry) Refusal → Output
items_output (Ok entries) = record { text = items_text entries; outcome = Done }
items_output (Err refusal) = record { text = refusal_line refusal; outcome = Refused }

-- the rebuilt bytes in one line, or why there are none
abbrev pub rebuild_output : Result (List ℕ) Refusal → Output
rebuild_output (Ok bytes) = record { text = rebuilt_line bytes; outcome = Done }
rebuild_output (Err refusal) = record { text = refusal_line refusal; outcome = Refused }

-- the output of a command for the bytes of a descriptor and of a report
unfoldable pub output : Command → List ℕ → List ℕ → Output
output Items descriptor bytes = items_output (as_refusal (itemise item_of descriptor))
output Values descriptor bytes = values_output (parse descriptor) bytes
output (ValuesWithin limit) descriptor bytes =
    values_output (parse_within limit descriptor) bytes
output ValuesGlobals descriptor bytes = values_output (parse_globals_only descriptor) bytes
output (ValuesGlobalsWithin limit) descriptor bytes =
    values_output (parse_within_by (item_state_globals_only usages_by.Standard) limit descriptor) bytes
output Rebuild descriptor bytes =
    rebuild_output (as_refusal (rebuild_answer (itemise item_of descriptor)))

-- what an error says of a descriptor; want of memory says nothing
abbrev pub refusal_of : ParserError → Option Refusal
refusal_of (errors.InvalidData offset message) = Some (InvalidData offset (string_bytes message))
refusal_of errors.OutOfBounds = Some OutOfBounds
refusal_of errors.MismatchingReportId = Some MismatchingReportId
refusal_of errors.OutOfMemory = None
refusal_of (errors.BudgetExceeded offset) = Some (BudgetExceeded offset)
