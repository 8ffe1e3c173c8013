use Rattle.std.proofs.Common.{take}
use Rattle.hidreport.specs.Runs.{IsPlain}
use Rattle.hidreport_fields.specs.Tiling.{Each}
use Rattle.hidreport.proofs.report.reader.run_list.enough_for.Given as goal

-- as many bytes have the runs before this one
abbrev pub invariant-loop-run : goal.invariant-loop-run
invariant-loop-run l = Each (IsPlain l.report_id l.bytes) (take l.run-index l.runs)
