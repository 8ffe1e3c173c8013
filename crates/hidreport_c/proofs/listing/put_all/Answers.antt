use Rattle.std.proofs.Common.{◌≡◌, length, ap, ◌∙◌, arith, take, drop, ◌-◌, refl}
use Rattle.std.specs.Prelude.{flat_map}
use Rattle.hidreport.specs.Records.{ReportRecord}
use Rattle.hidreport_c.proofs.ListsLemmas.{more-joined}
use Rattle.hidreport_c.proofs.ReadingLemmas.{at-least}
use Rattle.hidreport_c.proofs.ListingLemmas.{by-report, flat-all, flat-next, flat-within}
use Rattle.hidreport_c.specs.Answer.{array_after}
use Rattle.hidreport_c.proofs.listing.put_all.Goals as goal

pub returns-in_err-listed-clause-none : goal.returns-in_err-listed-clause-none
returns-in_err-listed-clause-none g c = λ none.
    let own = λ (r : ReportRecord). flat_map g.L.Listing.listed r.fields in
    let reports = c.args.reports.now in
    let i = c.loop-report.report-index in
    omega (
      arith,
      c.in_err-listed.ensures.none refl,
      ap (λ l. length (flat_map g.L.Listing.listed l)) c.fields.ensures,
      flat-within own reports i c.report-item.result c.loop-report-test.true c.report-item.is,
      ap length (by-report g.L.Listing.listed reports),
    )

pub returns-in_err-count-clause-none : goal.returns-in_err-count-clause-none
returns-in_err-count-clause-none g c = λ none.
    let own = λ (r : ReportRecord). flat_map g.L.Listing.listed r.fields in
    let reports = c.args.reports.now in
    let i = c.loop-report.report-index in
    let past = at-least _ _ c.in_err-count.ensures in
    omega (
      arith,
      past,
      c.in_ok-listed.ensures.some.0,
      ap (λ l. length (flat_map g.L.Listing.listed l)) c.fields.ensures,
      flat-within own reports i c.report-item.result c.loop-report-test.true c.report-item.is,
      c.loop-report.invariant.0,
      ap length (by-report g.L.Listing.listed reports),
    )

pub loop-report-preserved : goal.loop-report-preserved
loop-report-preserved g c =
    let own = λ (r : ReportRecord). flat_map g.L.Listing.listed r.fields in
    let reports = c.args.reports.now in
    let i = c.loop-report.report-index in
    let listed = ap (flat_map g.L.Listing.listed) c.fields.ensures in
    let size : c.in_ok-listed.listed ≡ length (own c.report-item.result) =
    omega (arith, c.in_ok-listed.ensures.some.0, ap length listed) in
    let rest = take (length c.loop-report.array - c.min-begun.result)
    (drop c.min-begun.result c.loop-report.array) in
    more-joined (flat_map own (take i reports)) (own c.report-item.result) c.args.array.now
    (flat-next own reports i c.report-item.result c.loop-report-test.true c.report-item.is)
    c.loop-report.invariant.0 size c.in_ok-count.ensures.1 c.loop-report.invariant.1
    c.min-begun.ensures (c.in_ok-listed.ensures.some.1 ∙ ap (λ l. array_after l rest) listed)

pub returns-clause-some : goal.returns-clause-some
returns-clause-some g c =
    flat-all (λ (r : ReportRecord). flat_map g.L.Listing.listed r.fields) c.args.reports.now
    c.args.array.now (by-report g.L.Listing.listed c.args.reports.now) c.loop-report-test.false
    c.loop-report.invariant.0 c.loop-report.invariant.1
