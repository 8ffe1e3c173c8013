use Rattle.std.proofs.Common.{◌≡◌, length}
use Rattle.hidreport.specs.Reader.{each_alone, numbers_before}
use Rattle.hidreport.specs.Runs.{run_value, set_from}
use Rattle.hidreport.proofs.report.reader.run.Run.put_available.Given as goal

-- the values before this one are there, and their numbers in place
abbrev pub invariant-loop-index : goal.invariant-loop-index
invariant-loop-index l =
    (length (numbers_before (each_alone (run_value l.self l.bytes) 0 l.index)) ≡ l.index)
    × (l.values ≡ set_from l.place (numbers_before (each_alone (run_value l.self l.bytes) 0 l.index))
    l.initial.values)
