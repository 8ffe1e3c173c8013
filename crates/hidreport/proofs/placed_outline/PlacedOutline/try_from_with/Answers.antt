use Rattle.std.proofs.Common.{◌∙◌, Result, ap, Ok, subst, sym, refl}
use Rattle.std.proofs.lemmas.Result.{err_from_is_err_and}
use Rattle.hidreport_lists.specs.Answer.{Refusal, Refuses}
use Rattle.hidreport.specs.Groups.{OutlineRecord, listed}
use Rattle.hidreport.specs.Options.{reading_of}
use Rattle.hidreport_lists.specs.Itemising.{itemise}
use Rattle.hidreport_items.specs.Spelling.{item_of}
use Rattle.hidreport.proofs.BudgetBoundLemmas.{limited-plain}
use Rattle.hidreport.proofs.ItemPlaceLemmas.{placed-ascend, walked-outline, walked-places}
use Rattle.hidreport.proofs.OutlineWalkLemmas.{groups-as, outline-read}
use Rattle.hidreport.proofs.TilingWalkLemmas.{parse-tiled}
use Rattle.hidreport.proofs.placed_outline.PlacedOutline.try_from_with.Goals as goal

pub returns-in_err-reports-clause-exact : goal.returns-in_err-reports-clause-exact
returns-in_err-reports-clause-exact c =
    let p = err_from_is_err_and c.from_residual.result c.from_residual.ensures.1 in
    rw (p.1, p.2) (subst (λ (r : Result OutlineRecord Refusal). Refuses
    c.in_err-reports.field-0.0 r)
    (walked-outline c.args.options c.args.bytes.now (sym c.in_default.is ∙ c.past_longest.ensures))
    c.in_err-reports.ensures.reports)

pub of-outline-requires : goal.of-outline-requires
of-outline-requires c = parse-tiled c.args.options c.args.bytes.now
    (listed c.in_ok-reports.field-0.reports)
    (limited-plain (reading_of c.args.options) c.args.options.limit c.args.bytes.now
    (listed c.in_ok-reports.field-0.reports)
    (outline-read c.args.options c.args.bytes.now c.in_ok-reports.field-0.reports
    (sym (groups-as c.args.options c.args.bytes.now) ∙ c.in_ok-reports.ensures.reports)))

pub invariant_of-result : goal.invariant_of-result
invariant_of-result c = placed-ascend c.args.options (itemise item_of c.args.bytes.now)
    c.in_ok-reports.field-0.places.items (c.in_ok-reports.ensures.places refl)

pub returns-clause-exact : goal.returns-clause-exact
returns-clause-exact c =
    sym (walked-outline c.args.options c.args.bytes.now
    (sym c.in_default.is ∙ c.past_longest.ensures))
    ∙ c.in_ok-reports.ensures.reports ∙ ap Ok (sym c.of-outline.ensures)

pub returns-clause-places : goal.returns-clause-places
returns-clause-places c = walked-places c.args.options c.args.bytes.now
    c.in_ok-reports.field-0.reports c.in_ok-reports.field-0.places.items
    c.in_ok-reports.ensures.reports (c.in_ok-reports.ensures.places refl)
