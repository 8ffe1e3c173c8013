use Rattle.std.proofs.Common.{refl}
use Rattle.hidreport_definitions.proofs.mouse_reports.a_segment_without_fields_changes_no_mouse_report.Goals as goal

pub returns : goal.returns
returns c = record { before_a_collection = refl; before_a_data_item = refl }
