use Rattle.std.proofs.Common.{refl}
use Rattle.hidreport_definitions.proofs.faults.an_empty_descriptor_is_refused.Goals as goal

pub returns : goal.returns
returns c = refl
