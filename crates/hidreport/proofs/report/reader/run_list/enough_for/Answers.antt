use Rattle.std.proofs.Common.{◌≤◌, arith, take}
use Rattle.hidreport.specs.Runs.{IsPlain}
use Rattle.hidreport.proofs.RunListLemmas.{each-taken, plain-more, plain-one}
use Rattle.hidreport.proofs.report.reader.run_list.enough_for.Goals as goal

pub loop-run-preserved : goal.loop-run-preserved
loop-run-preserved c =
    let id = c.args.report_id.now in
    let more = c.max-bytes.result in
    let before : c.loop-run.bytes ≤ more = omega (arith, c.max-bytes.ensures) in
    let here : c.in_ok-bytes_for.field-0 ≤ more = omega (arith, c.max-bytes.ensures) in
    each-taken (IsPlain id more) c.args.runs.now c.loop-run.run-index c.run-item.result
    c.loop-run-test.true c.run-item.is
    (plain-more id c.loop-run.bytes more (take c.loop-run.run-index c.args.runs.now) before
    c.loop-run.invariant)
    (plain-one id c.in_ok-bytes_for.field-0 more c.run-item.result here c.in_ok-bytes_for.ensures)
