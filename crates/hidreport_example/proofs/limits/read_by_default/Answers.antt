use Rattle.std.proofs.Common.{ap}
use Rattle.hidreport.specs.declared.parse_options.ParseOptions.{ParseOptions}
use Rattle.hidreport_example.proofs.LimitLemmas.{of-descriptor}
use Rattle.hidreport_example.proofs.limits.read_by_default.Goals as goal

pub returns : goal.returns
returns c = of-descriptor c.try_from_with.result c.try_from_with.ensures.own_bytes
    (c.try_from_with.ensures.unlimited
    (ap (λ (options : ParseOptions). options.limit) c.default.ensures)
    (ap (λ (options : ParseOptions). options.longest) c.default.ensures))
