use Rattle.std.proofs.Common.{◌≡◌, ◌++◌, drop}
use Rattle.hidreport.specs.HostUsages.{spans}
use Rattle.hidreport.proofs.parser.host_usages.spans.Given as goal

-- what those so far name, and the minimum behind them
abbrev pub invariant-loop-local : goal.invariant-loop-local
invariant-loop-local l =
    spans 0 l.locals ≡ l.named.items ++ spans l.minimum (drop l.local-index l.locals)
