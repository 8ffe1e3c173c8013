use Rattle.std.proofs.Common.{◌∙◌, ap, sym}
use Rattle.hidreport_items.specs.declared.item.ItemType.TheVariants as item
use Rattle.hidreport.specs.Parser.Machine.{fault_in}
use Rattle.hidreport.specs.Repair.{is_missing_usages}
use Rattle.hidreport.proofs.UsageFaultLemmas.{collection-other}
use Rattle.hidreport.proofs.parser.state.State.lacks_usages.Goals as goal

pub returns-in-Collection : goal.returns-in-Collection
returns-in-Collection c =
    sym (ap (λ x. is_missing_usages (fault_in c.args.self.now x))
    (c.in-Main.is ∙ ap item.Main c.in-Collection.is)
    ∙ collection-other c.args.self.now.item_state _)
