use Rattle.std.proofs.Common.{◌≡◌, length, take}
use Rattle.hidreport.specs.Reader.{filled, numbers_before}
use Rattle.hidreport.specs.Runs.{count_in, runs_alone}
use Rattle.hidreport.proofs.report.reader.run_list.put_available.Given as goal

-- the values of the runs before this one are there, and their numbers in place
abbrev pub invariant-loop-run : goal.invariant-loop-run
invariant-loop-run l = (l.place ≡ count_in (take l.run-index l.runs))
    × (length (numbers_before (runs_alone (take l.run-index l.runs) l.bytes)) ≡ l.place)
    × (l.values ≡ filled (numbers_before (runs_alone (take l.run-index l.runs) l.bytes))
    l.initial.values)
