use Rattle.std.proofs.Common.{◌≡◌, drop, length}
use Rattle.hidreport_c.specs.Writing.{all_fit_at, count_at}
use Rattle.hidreport_c.proofs.writing.all_hold.Given as goal

-- what is left to be asked is the answer
abbrev pub invariant-loop-field : goal.invariant-loop-field
invariant-loop-field l = (length l.rest ≡ count_at (drop l.field-index l.fields))
    × (all_fit_at l.fields l.values ≡ all_fit_at (drop l.field-index l.fields) l.rest)
