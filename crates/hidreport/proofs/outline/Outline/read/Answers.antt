use Rattle.std.proofs.Common.{◌∙◌, Result, subst, sym}
use Rattle.std.proofs.lemmas.Result.{err_from_is_err_and}
use Rattle.hidreport_lists.specs.Answer.{Refusal, Refuses}
use Rattle.hidreport.specs.Groups.{OutlineRecord, listed}
use Rattle.hidreport.specs.Options.{reading_of}
use Rattle.hidreport.proofs.BudgetBoundLemmas.{limited-plain}
use Rattle.hidreport.proofs.OutlineWalkLemmas.{groups-as, outline-read}
use Rattle.hidreport.proofs.TilingWalkLemmas.{parse-tiled}
use Rattle.hidreport.proofs.outline.Outline.read.Goals as goal

pub returns-in_err-reports : goal.returns-in_err-reports
returns-in_err-reports c =
    let p = err_from_is_err_and c.from_residual.result c.from_residual.ensures.1 in
    rw (p.1, p.2) (subst (λ (r : Result OutlineRecord Refusal). Refuses
    c.in_err-reports.field-0.0 r)
    (groups-as c.args.options c.args.bytes.now)
    c.in_err-reports.ensures)

pub returns : goal.returns
returns c = sym (groups-as c.args.options c.args.bytes.now)
    ∙ c.in_ok-reports.ensures

pub invariant_of-result : goal.invariant_of-result
invariant_of-result c = parse-tiled c.args.options c.args.bytes.now
    (listed c.in_ok-reports.reports)
    (limited-plain (reading_of c.args.options) c.args.options.limit c.args.bytes.now
    (listed c.in_ok-reports.reports)
    (outline-read c.args.options c.args.bytes.now c.in_ok-reports.reports (returns c)))
