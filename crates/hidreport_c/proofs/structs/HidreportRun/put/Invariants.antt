use Rattle.std.proofs.Common.{◌≡◌}
use Rattle.hidreport.specs.Runs.{numbers_from, set_from}
use Rattle.hidreport_c.specs.Prepared.{as_run}
use Rattle.hidreport_c.proofs.structs.HidreportRun.put.Given as goal

-- the numbers before this one are in place
abbrev pub invariant-loop-index : goal.invariant-loop-index
invariant-loop-index l =
    l.values ≡ set_from l.place (numbers_from (as_run l.self) l.report 0 l.index) l.initial.values
