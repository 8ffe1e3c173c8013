use Rattle.hidreport.specs.Options.{globals_only_options}
use Rattle.hidreport.proofs.NoPushLemmas.{parse-same}
use Rattle.hidreport.proofs.SegmentLemmas.{parse-struck}
use Rattle.hidreport.proofs.descriptor.ReportDescriptor.try_from_globals_only.Goals as goal

pub returns-clause-agree : goal.returns-clause-agree
returns-clause-agree c = parse-same c.args.bytes.now

pub returns-clause-struck : goal.returns-clause-struck
returns-clause-struck c = parse-struck globals_only_options c.args.bytes.now
