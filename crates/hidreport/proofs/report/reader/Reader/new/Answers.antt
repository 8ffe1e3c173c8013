use Rattle.std.proofs.Common.{rules}
use Rattle.hidreport.specs.Runs.{StandFor, runs_of}
use Rattle.hidreport.specs.SameRuns.{SameRuns}
use Rattle.hidreport.proofs.SameRunsLemmas.{if-is, same-stand}
use Rattle.hidreport.proofs.report.reader.Reader.new.Goals as goal

pub returns : goal.returns
returns c =
    let fields = c.args.report.now.fields in
    let runs = c.in_ok-runs.runs.items in
    let same : SameRuns runs (runs_of fields) = search rules in
    if-is (StandFor fields) c.by.result runs c.by.ensures (same-stand fields runs same)
