use Rattle.std.proofs.Common.{◌≡◌, List, Ok, map, take}
use Rattle.hidreport.specs.Choosing.{value_number}
use Rattle.hidreport.specs.Reading.{ValueRecord}
use Rattle.hidreport_c.specs.Answer.{array_after}
use Rattle.hidreport_c.specs.Value.{elements_at}
use Rattle.hidreport_c.proofs.structs.HidreportField.write_each.Given as goal

-- all values can be read, and those so far are written
abbrev pub invariant-loop-index : goal.invariant-loop-index
invariant-loop-index l =
    (values : List ValueRecord) × (elements_at l.self l.report ≡ Ok values)
    × (l.values ≡ array_after (take l.index (map value_number values)) l.initial.values)
