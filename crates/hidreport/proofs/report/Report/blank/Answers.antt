use Rattle.std.proofs.Common.{◌≡◌, rules}
use Rattle.hidreport.specs.Blank.{blank_bytes}
use Rattle.hidreport_fields.specs.Records.{ReportRecord}
use Rattle.hidreport.proofs.BlankLemmas.{takes-all}
use Rattle.hidreport.proofs.WholeLemmas.{is-whole}
use Rattle.hidreport.proofs.report.Report.blank.Goals as goal

pub returns-clause-whole : goal.returns-clause-whole
returns-clause-whole g c = is-whole _ c.in_ok-bytes.bytes.items c.in_ok-bytes.ensures.bytes

pub returns-clause-takes : goal.returns-clause-takes
returns-clause-takes g c =
    let report : ReportRecord = record {
      id = g.Self.Report.id c.args.self.now;
      size = g.Self.Report.size c.args.self.now;
      fields = g.Self.Report.parts c.args.self.now;
    } in
    let blank : c.in_ok-bytes.bytes.items ≡ blank_bytes report.id report.size = search rules in
    takes-all report c.in_ok-bytes.bytes.items c.in_ok-bytes.ensures.bytes blank
