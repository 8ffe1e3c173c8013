use Rattle.std.proofs.Common.{refl}
use Rattle.hidreport_definitions.proofs.keeping.globals_come_back_by_both.Goals as goal

pub returns : goal.returns
returns c = record { fault = refl; size = refl }
