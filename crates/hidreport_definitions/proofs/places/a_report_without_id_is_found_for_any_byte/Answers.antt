use Rattle.std.proofs.Common.{refl}
use Rattle.hidreport_definitions.proofs.places.a_report_without_id_is_found_for_any_byte.Goals as
    goal

pub returns : goal.returns
returns c = record { reports = refl; lookup = refl }
