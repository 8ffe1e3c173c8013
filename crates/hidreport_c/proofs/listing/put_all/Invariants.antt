use Rattle.std.proofs.Common.{◌≡◌, length, take}
use Rattle.std.specs.Prelude.{flat_map}
use Rattle.hidreport.specs.Records.{ReportRecord}
use Rattle.hidreport_c.specs.Answer.{array_after}
use Rattle.hidreport_c.proofs.listing.put_all.Given as goal

-- what is listed of the reports so far is in place, and counted
abbrev pub invariant-loop-report : goal.invariant-loop-report
invariant-loop-report g l =
    let own = λ (r : ReportRecord). flat_map g.L.Listing.listed r.fields in
    (l.count ≡ length (flat_map own (take l.report-index l.reports)))
    × (l.array ≡ array_after (flat_map own (take l.report-index l.reports)) l.initial.array)
