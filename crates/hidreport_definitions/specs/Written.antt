-- Fields and reports whose written bytes rows tell.
use Rattle.std.specs.Prelude.{pos}
use Rattle.hidreport.specs.Records.{FieldRecord}
use Rattle.hidreport_definitions.specs.Summary.{array_at, of_report, variable_at}

-- a field of report 5 that was put upon the byte of its id, where none can be written
abbrev pub in_the_id : FieldRecord
in_the_id = of_report 5 (variable_at 0 8 (pos 0))

-- the same of an array with one element
abbrev pub array_in_the_id : FieldRecord
array_in_the_id = of_report 5 (array_at 0 8 1 (pos 0))
