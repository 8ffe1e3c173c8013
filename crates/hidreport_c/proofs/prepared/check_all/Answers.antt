use Rattle.std.proofs.Common.{◌≡◌, Err, IfErr, rules, subst, sym}
use Rattle.hidreport.specs.Runs.{HasAllValues, runs_read}
use Rattle.hidreport.proofs.RunListLemmas.{each-taken}
use Rattle.hidreport_c.proofs.RunsLemmas.{item-at, refused-there, run-at, run_item, within-runs}
use Rattle.hidreport_c.specs.Prepared.{IsRefused, as_run, as_runs}
use Rattle.hidreport_c.proofs.prepared.check_all.Goals as goal

pub returns-in_err-check-clause-refused : goal.returns-in_err-check-clause-refused
returns-in_err-check-clause-refused c =
    let runs = c.args.runs.now in
    let status = c.in_err-check.field-0.0 in
    let told : c.from_residual.result ≡ Err status = search rules in
    subst (λ r. IfErr r (λ s. IsRefused s (runs_read (as_runs runs) c.args.report.now))) (sym told)
    (refused-there runs c.loop-run.run-index (run_item c.args.runs.now c.loop-run.run-index) c.args.report.now status
    c.loop-run-test.true (item-at c.args.runs.now c.loop-run.run-index c.loop-run-test.true) c.loop-run.invariant c.in_err-check.ensures.refused)

pub loop-run-preserved : goal.loop-run-preserved
loop-run-preserved c =
    let runs = c.args.runs.now in
    let i = c.loop-run.run-index in
    let run = (run_item c.args.runs.now c.loop-run.run-index) in
    each-taken (HasAllValues c.args.report.now) (as_runs runs) i (as_run run)
    (within-runs runs i c.loop-run-test.true) (run-at runs i run c.loop-run-test.true (item-at c.args.runs.now c.loop-run.run-index c.loop-run-test.true))
    c.loop-run.invariant c.in_ok-check.ensures.there
