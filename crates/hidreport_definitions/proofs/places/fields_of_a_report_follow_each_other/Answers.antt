use Rattle.std.proofs.Common.{refl}
use Rattle.hidreport_definitions.proofs.places.fields_of_a_report_follow_each_other.Goals as goal

pub returns : goal.returns
returns c = record { two_reports = refl }
