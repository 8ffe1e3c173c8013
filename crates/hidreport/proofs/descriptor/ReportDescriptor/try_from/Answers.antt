use Rattle.hidreport.specs.Options.{default_options}
use Rattle.hidreport.proofs.SegmentLemmas.{parse-struck}
use Rattle.hidreport.proofs.descriptor.ReportDescriptor.try_from.Goals as goal

pub returns-clause-struck : goal.returns-clause-struck
returns-clause-struck c = parse-struck default_options c.args.bytes.now
