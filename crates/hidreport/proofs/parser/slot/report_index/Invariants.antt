use Rattle.std.proofs.Common.{◌≡◌, ◌+◌, drop}
use Rattle.hidreport.specs.Parser.Machine.{index_in}
use Rattle.hidreport.proofs.parser.slot.report_index.Given as goal

-- no report so far has the id
abbrev pub invariant-loop-index : goal.invariant-loop-index
invariant-loop-index l = l.index + index_in l.key (drop l.index l.reports) ≡ index_in l.key
    l.reports
