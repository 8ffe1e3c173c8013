use Rattle.std.proofs.Common.{◌≡◌, length}
use Rattle.hidreport.specs.Reader.{each_alone, numbers_before}
use Rattle.hidreport_c.specs.Answer.{array_after}
use Rattle.hidreport_c.specs.Value.{element_at}
use Rattle.hidreport_c.proofs.structs.HidreportField.put_available.Given as goal

-- the values before this one are there, and their numbers in place
abbrev pub invariant-loop-index : goal.invariant-loop-index
invariant-loop-index l =
    (length (numbers_before (each_alone (element_at l.self l.report) 0 l.index)) ≡ l.index)
    × (l.values ≡ array_after (numbers_before (each_alone (element_at l.self l.report) 0 l.index))
    l.initial.values)
