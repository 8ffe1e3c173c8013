use Rattle.std.proofs.Common.{◌≡◌, ◌++◌, map, take, string_bytes}
use Rattle.std.specs.Prelude.{flat_map}
use Rattle.hidreport.specs.Views.{field_record}
use Rattle.hidreport_program.specs.Lines.{line_of_field}
use Rattle.hidreport_program.proofs.program.fields.add_report.Given as goal

-- the lines of the fields so far stand behind the heading
abbrev pub invariant-loop-field : goal.invariant-loop-field
invariant-loop-field l =
    string_bytes l.text ≡ string_bytes l.initial.text ++ flat_map (line_of_field l.bytes)
    (map field_record (take l.field-index l.field-items))
