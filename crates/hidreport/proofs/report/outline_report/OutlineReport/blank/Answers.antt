use Rattle.std.proofs.Common.{◌≡◌, rules}
use Rattle.hidreport.specs.Blank.{blank_bytes}
use Rattle.hidreport.specs.Groups.{listed_report}
use Rattle.hidreport.proofs.BlankLemmas.{takes-all}
use Rattle.hidreport.proofs.WholeLemmas.{is-whole}
use Rattle.hidreport.proofs.report.outline_report.OutlineReport.blank.Goals as goal

pub returns-clause-whole : goal.returns-clause-whole
returns-clause-whole c = is-whole _ c.in_ok-bytes.bytes.items c.in_ok-bytes.ensures.bytes

pub returns-clause-takes : goal.returns-clause-takes
returns-clause-takes c =
    let report = c.args.self.now in
    let blank : c.in_ok-bytes.bytes.items ≡ blank_bytes report.id report.size = search rules in
    takes-all (listed_report report) c.in_ok-bytes.bytes.items c.in_ok-bytes.ensures.bytes blank
