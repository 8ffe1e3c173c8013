use Rattle.std.proofs.Common.{refl}
use Rattle.hidreport_definitions.proofs.mouse_reports.a_mouse_has_two_input_and_two_feature_reports.Goals as goal

pub returns : goal.returns
returns c = refl
