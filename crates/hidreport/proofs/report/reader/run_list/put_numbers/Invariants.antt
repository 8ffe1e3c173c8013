use Rattle.std.proofs.Common.{◌≡◌, drop, length}
use Rattle.hidreport.specs.Runs.{count_in, runs_put}
use Rattle.hidreport.proofs.report.reader.run_list.put_numbers.Given as goal

-- what is left to be put makes the bytes
abbrev pub invariant-loop-run : goal.invariant-loop-run
invariant-loop-run l = (length l.rest ≡ count_in (drop l.run-index l.runs))
    × (length l.bytes ≡ length l.initial.bytes)
    × (runs_put l.runs l.values l.initial.bytes
    ≡ runs_put (drop l.run-index l.runs) l.rest l.bytes)
