use Rattle.std.proofs.Common.{rules}
use Rattle.hidreport.specs.Runs.{IsPlain}
use Rattle.hidreport_fields.specs.Tiling.{Each}
use Rattle.hidreport.proofs.RunListLemmas.{plain-open}
use Rattle.hidreport.proofs.report.reader.run_list.RunList.has_all.Goals as goal

pub returns-then-enough-bytes : goal.returns-then-enough-bytes
returns-then-enough-bytes c = λ passes.
    let plain : Each (IsPlain c.self.inside.report_id c.in-Some.enough) c.args.self.now = search rules in
    plain-open c.self.inside.report_id c.in-Some.enough c.args.bytes.now c.args.self.now
    c.if-enough-bytes.true (c.begin_with.ensures passes) plain
