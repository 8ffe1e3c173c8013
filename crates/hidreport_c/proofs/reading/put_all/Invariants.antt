use Rattle.std.proofs.Common.{◌≡◌, ℤ, List, Ok, length, take}
use Rattle.hidreport_c.specs.Answer.{array_after}
use Rattle.hidreport_c.specs.Reading.{numbers_in}
use Rattle.hidreport_c.proofs.reading.put_all.Given as goal

-- the numbers of the fields so far are in place, and counted
abbrev pub invariant-loop-field : goal.invariant-loop-field
invariant-loop-field l =
    (numbers : List ℤ) × (numbers_in (take l.field-index l.fields) l.report ≡ Ok numbers)
    × (l.count ≡ length numbers) × (l.values ≡ array_after numbers l.initial.values)
