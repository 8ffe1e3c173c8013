use Rattle.std.proofs.Common.{◌≡◌, ◌+◌, ◌<◌, ◌^◌, drop}
use Rattle.hidreport_c.specs.Writing.{count_at}
use Rattle.hidreport_c.proofs.reading.count_of.Given as goal

-- what is counted, and what the fields that are left have
abbrev pub invariant-loop-field : goal.invariant-loop-field
invariant-loop-field l = (l.count + count_at (drop l.field-index l.fields) ≡ count_at l.fields)
    × (l.count < 2 ^ 64)
