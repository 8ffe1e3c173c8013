use Rattle.std.proofs.Common.{◌∙◌, sym}
use Rattle.hidreport.proofs.ListedLemmas.{key-listed, start-listed}
use Rattle.hidreport.proofs.parser.report_lists.ReportLists.begin.Goals as goal

pub returns-clause-key : goal.returns-clause-key
returns-clause-key c =
    c.room.ensures.key ∙ sym (key-listed c.args.direction c.args.self.now c.args.id)

pub returns-clause-first : goal.returns-clause-first
returns-clause-first c = c.room.ensures.first
    ∙ sym (start-listed c.args.direction c.args.self.now c.room.result.slot.key)
