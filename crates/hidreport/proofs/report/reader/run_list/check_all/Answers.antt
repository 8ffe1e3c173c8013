use Rattle.std.proofs.Common.{rules}
use Rattle.hidreport_lists.specs.Answer.{Refuses}
use Rattle.hidreport.specs.Runs.{HasAllValues, runs_read}
use Rattle.hidreport.proofs.RunListLemmas.{each-taken, refused-there}
use Rattle.hidreport.proofs.report.reader.run_list.check_all.Goals as goal

pub returns-in_err-check-clause-refused : goal.returns-in_err-check-clause-refused
returns-in_err-check-clause-refused c =
    let refused : Refuses c.in_err-check.field-0.0 (runs_read c.args.runs.now c.args.bytes.now) =
    refused-there c.args.runs.now c.loop-run.run-index c.run-item.result c.args.bytes.now
    c.in_err-check.field-0.0 c.loop-run-test.true c.run-item.is c.loop-run.invariant
    (c.in_err-check.ensures.refused) in
    search rules

pub loop-run-preserved : goal.loop-run-preserved
loop-run-preserved c =
    each-taken (HasAllValues c.args.bytes.now) c.args.runs.now c.loop-run.run-index c.run-item.result
    c.loop-run-test.true c.run-item.is c.loop-run.invariant c.in_ok-check.ensures.there
