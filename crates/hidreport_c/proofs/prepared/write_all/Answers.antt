use Rattle.std.proofs.Common.{◌≡◌, ◌∙◌, ◌==◌, false, length, rules, sym, true}
use Rattle.std.specs.List.{list_any}
use Rattle.hidreport.specs.Runs.{HasAllValues, count_in, run_in_id, runs_fit}
use Rattle.hidreport.specs.Tiling.{Each}
use Rattle.hidreport.proofs.RunWriteLemmas.{open-narrow}
use Rattle.hidreport_c.proofs.RunsLemmas.{any-runs, runs-in-id, runs-unfit, runs-written, same-count}
use Rattle.hidreport_c.specs.Prepared.{as_run, as_runs}
use Rattle.hidreport_c.specs.declared.structs.HidreportRun.{HidreportRun}
use Rattle.hidreport_c.proofs.prepared.write_all.Goals as goal

pub returns-then-begin_in_id : goal.returns-then-begin_in_id
returns-then-begin_in_id c =
    let runs = as_runs c.args.runs.now in
    let counted : (length c.args.values.now == count_in runs) ≡ true = search rules in
    let each : Each (HasAllValues c.args.report.now) runs = search rules in
    let in_id : list_any (λ (r : HidreportRun). run_in_id (as_run r)) c.args.runs.now ≡ true =
    search rules in
    runs-in-id runs c.args.values.now c.args.report.now (same-count _ _ counted) each
    (sym (any-runs run_in_id c.args.runs.now) ∙ in_id)

pub all_hold-requires-clause-narrow : goal.all_hold-requires-clause-narrow
all_hold-requires-clause-narrow c =
    let each : Each (HasAllValues c.args.report.now) (as_runs c.args.runs.now) = search rules in
    open-narrow c.args.report.now (as_runs c.args.runs.now) each

pub returns-then-not-all_hold : goal.returns-then-not-all_hold
returns-then-not-all_hold c =
    let runs = as_runs c.args.runs.now in
    let counted : (length c.args.values.now == count_in runs) ≡ true = search rules in
    let each : Each (HasAllValues c.args.report.now) runs = search rules in
    let away : list_any (λ (r : HidreportRun). run_in_id (as_run r)) c.args.runs.now ≡ false =
    search rules in
    let unfit : runs_fit runs c.args.values.now ≡ false = search rules in
    runs-unfit runs c.args.values.now c.args.report.now (same-count _ _ counted) each
    (sym (any-runs run_in_id c.args.runs.now) ∙ away) unfit

pub returns : goal.returns
returns c =
    let runs = as_runs c.args.runs.now in
    let counted : (length c.args.values.now == count_in runs) ≡ true = search rules in
    let each : Each (HasAllValues c.args.report.now) runs = search rules in
    let away : list_any (λ (r : HidreportRun). run_in_id (as_run r)) c.args.runs.now ≡ false =
    search rules in
    let fit : runs_fit runs c.args.values.now ≡ true = search rules in
    runs-written runs c.args.values.now c.args.report.now c.put_numbers.new.report
    (same-count _ _ counted) each (sym (any-runs run_in_id c.args.runs.now) ∙ away) fit
    c.put_numbers.ensures
