use Rattle.std.proofs.Common.{refl}
use Rattle.hidreport_definitions.proofs.mouse_reports.a_mouse_report_gives_its_values.Goals as goal

pub returns : goal.returns
returns c = refl
