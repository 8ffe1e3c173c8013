use Rattle.std.proofs.Common.{◌≤◌, ◌∙◌, [], length, ap, sym, arith}
use Rattle.hidreport.specs.Groups.{GroupedReport}
use Rattle.hidreport.specs.Parser.Machine.{index_in}
use Rattle.hidreport.proofs.ReportListLemmas.{added_to-found, added_to-new}
use Rattle.hidreport.proofs.parser.slot.size_at.Goals as goal

pub returns-then-slot-reports : goal.returns-then-slot-reports
returns-then-slot-reports c =
    let found = added_to-found c.args.slot.now.key 0 [] c.args.reports.now c.args.slot.now.index
    c.index-reports-slot.result c.requires c.if-slot-reports.true c.index-reports-slot.is in
    ap (λ (r : GroupedReport). r.size) c.report.view_is ∙ sym found.1

pub returns-else-slot-reports : goal.returns-else-slot-reports
returns-else-slot-reports c =
    let none : length c.args.reports.now ≤ index_in c.args.slot.now.key c.args.reports.now =
    omega (arith, c.if-slot-reports.false, c.requires) in
    c.id_bits.ensures ∙ sym (added_to-new c.args.slot.now.key 0 [] c.args.reports.now none).1
