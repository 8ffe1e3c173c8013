use Rattle.std.proofs.Common.{◌≡◌, map, take, Ok}
use Rattle.hidreport.specs.Views.{field_record}
use Rattle.hidreport_example.specs.Numbers.{numbers_of}
use Rattle.hidreport_example.proofs.values.values_of.Given as goal

-- the values of the fields so far
abbrev pub invariant-loop-field : goal.invariant-loop-field
invariant-loop-field l = numbers_of l.bytes (map field_record (take l.field-index l.fields)) ≡ Ok
    l.values.items
