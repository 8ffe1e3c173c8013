use Rattle.std.proofs.Common.{◌≡◌, ◌+◌, drop}
use Rattle.hidreport_c.specs.Writing.{count_at}
use Rattle.hidreport_c.proofs.writing.have_count.Given as goal

-- what is left is for the fields that are left
abbrev pub invariant-loop-field : goal.invariant-loop-field
invariant-loop-field l =
    l.left + count_at l.fields ≡ l.count + count_at (drop l.field-index l.fields)
