use Rattle.std.proofs.Common.{refl}
use Rattle.hidreport_definitions.proofs.mouse_reports.a_mouse_has_eighteen_fields_in_seven_collections.Goals as goal

pub returns : goal.returns
returns c = record { input = refl; feature = refl }
