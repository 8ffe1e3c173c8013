use Rattle.std.proofs.Common.{sym, ◌∙◌}
use Rattle.hidreport.specs.Repair.{repaired, repaired_view}
use Rattle.hidreport_c.proofs.ListsLemmas.{says-nothing}
use Rattle.hidreport_c.specs.Options.{options_of}
use Rattle.hidreport_c.specs.Repair.{repair_options_of}
use Rattle.hidreport_c.proofs.message.hidreport_repair_message.Goals as goal

pub returns-in-Ok : goal.returns-in-Ok
returns-in-Ok c =
    says-nothing (repair_options_of c.args.mends (options_of c.args.options)) c.in-Some.options
    (λ chosen. repaired chosen c.args.descriptor.now) (repaired_view c.in-Ok.field-0)
    c.args.text.now c.counted.result (sym c.for_repair.ensures ∙ c.in-Some.is)
    c.in-Ok.ensures.exact c.counted.ensures
