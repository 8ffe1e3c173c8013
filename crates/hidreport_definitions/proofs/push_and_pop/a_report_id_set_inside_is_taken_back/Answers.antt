use Rattle.std.proofs.Common.{refl}
use Rattle.hidreport_definitions.proofs.push_and_pop.a_report_id_set_inside_is_taken_back.Goals as
    goal

pub returns : goal.returns
returns c = record { reports = refl; lookup = refl; values = refl }
