use Rattle.std.proofs.Common.{length, map, sym, ap, ◌∙◌}
use Rattle.hidreport.specs.Repair.{change_view}
use Rattle.hidreport_c.proofs.RepairLemmas.{lists-changes}
use Rattle.hidreport_c.specs.Answer.{array_after, counted}
use Rattle.hidreport_c.specs.Options.{options_of}
use Rattle.hidreport_c.specs.Repair.{change_as_c, repair_options_of}
use Rattle.hidreport_c.proofs.change.hidreport_changes.Goals as goal

pub returns-in-Ok : goal.returns-in-Ok
returns-in-Ok c =
    lists-changes (repair_options_of c.args.mends (options_of c.args.options)) c.in-Some.options
    c.args.descriptor.now c.in-Ok.repaired c.args.changes.now c.write.new.array c.write.result
    (sym c.for_repair.ensures ∙ c.in-Some.is) c.in-Ok.ensures.exact
    (c.write.ensures.count ∙ ap (λ l. counted (length l)) c.deref.ensures.value)
    (c.write.ensures.written
    ∙ ap (λ l. array_after (map (λ x. change_as_c (change_view x)) l) c.args.changes.now)
    c.deref.ensures.value)
