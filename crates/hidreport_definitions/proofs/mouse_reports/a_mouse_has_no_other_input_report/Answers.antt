use Rattle.std.proofs.Common.{refl}
use Rattle.hidreport_definitions.proofs.mouse_reports.a_mouse_has_no_other_input_report.Goals as
    goal

pub returns : goal.returns
returns c = refl
