use Rattle.std.proofs.Common.{◌≡◌, drop, length}
use Rattle.hidreport_c.specs.Writing.{count_at, put_all_at}
use Rattle.hidreport_c.proofs.writing.put_all.Given as goal

-- what is left to be put makes the bytes
abbrev pub invariant-loop-field : goal.invariant-loop-field
invariant-loop-field l = (length l.rest ≡ count_at (drop l.field-index l.fields))
    × (length l.report ≡ length l.initial.report)
    × (put_all_at l.fields l.values l.initial.report
    ≡ put_all_at (drop l.field-index l.fields) l.rest l.report)
