use Rattle.std.proofs.Common.{◌≡◌, length, take}
use Rattle.hidreport_c.specs.Answer.{array_after}
use Rattle.hidreport_c.specs.Reading.{alone_in, there_in}
use Rattle.hidreport_c.proofs.reading.put_available.Given as goal

-- the values of the fields so far are all there, their numbers in place, and counted
abbrev pub invariant-loop-field : goal.invariant-loop-field
invariant-loop-field l =
    (length (there_in (take l.field-index l.fields) l.report)
    ≡ length (alone_in (take l.field-index l.fields) l.report))
    × (l.count ≡ length (there_in (take l.field-index l.fields) l.report))
    × (l.values ≡ array_after (there_in (take l.field-index l.fields) l.report) l.initial.values)
