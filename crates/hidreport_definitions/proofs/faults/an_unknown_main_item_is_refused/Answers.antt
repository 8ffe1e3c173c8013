use Rattle.std.proofs.Common.{refl}
use Rattle.std.specs.Fmt.{digits}
use Rattle.hidreport_definitions.proofs.faults.an_unknown_main_item_is_refused.Goals as goal

pub returns : goal.returns
unfolding digits
returns c = record { zero = refl; seven_digits = refl; missing_data = refl }
