use Rattle.std.proofs.Common.{◌∙◌, ◌∷◌, [], List, IfSome, ap, sym, subst}
use Rattle.hidreport.specs.Parser.Ids.{AllBelow}
use Rattle.hidreport.specs.Groups.{GroupRecord, GroupedReport}
use Rattle.hidreport.specs.Parser.Groups.{group_of}
use Rattle.hidreport.specs.Parser.Machine.{index_in}
use Rattle.hidreport.specs.Parser.Usages.{usage_list}
use Rattle.hidreport.proofs.ReportListLemmas.{below-added, index_in-added}
use Rattle.hidreport.proofs.parser.report_list.ReportList.add.Goals as goal

pub invariant_of-self-2 : goal.invariant_of-self-2
invariant_of-self-2 c =
    let groups : List GroupRecord = group_of c.args.layout.now (usage_list c.args.usages.now) ∷ [] in
    let items = c.self.inside.reports.items in (
      c.requires.slot ∙ ap (index_in c.args.slot.key) (sym c.self.view_is)
          ∙ sym (index_in-added c.args.slot.key c.args.bits groups items)
          ∙ ap (index_in c.args.slot.key) (sym c.in_ok-add_fields.ensures),
      subst (λ (rs : List GroupedReport). IfSome c.widened-ids_below.result
          (λ bound. AllBelow bound rs)) (sym c.in_ok-add_fields.ensures)
          (below-added c.self.inside.ids_below c.widened-ids_below.result c.args.slot.key
          c.args.bits groups items c.self.invariant.1 c.widened-ids_below.ensures),
    )
