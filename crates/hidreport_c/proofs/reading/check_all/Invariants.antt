use Rattle.std.proofs.Common.{◌≡◌, ℤ, List, Ok, take}
use Rattle.hidreport_c.specs.Reading.{numbers_in}
use Rattle.hidreport_c.proofs.reading.check_all.Given as goal

-- the fields so far are read
abbrev pub invariant-loop-field : goal.invariant-loop-field
invariant-loop-field l =
    (numbers : List ℤ) × (numbers_in (take l.field-index l.fields) l.report ≡ Ok numbers)
