use Rattle.std.proofs.Common.{sym, ◌∙◌}
use Rattle.hidreport_c.proofs.ListsLemmas.{says-nothing}
use Rattle.hidreport_c.specs.Options.{read_by, reading_of}
use Rattle.hidreport_c.proofs.message.hidreport_message.Goals as goal

pub returns-in-Ok : goal.returns-in-Ok
returns-in-Ok c =
    says-nothing (reading_of c.args.options) c.in-Some.reading
    (λ chosen. read_by chosen c.args.descriptor.now) c.in-Ok.field-0 c.args.text.now
    c.counted.result (sym c.reading.ensures ∙ c.in-Some.is) c.in-Ok.ensures c.counted.ensures
