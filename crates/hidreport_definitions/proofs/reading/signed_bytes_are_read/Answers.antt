use Rattle.std.proofs.Common.{refl}
use Rattle.hidreport_definitions.proofs.reading.signed_bytes_are_read.Goals as goal

pub returns : goal.returns
returns c = refl
