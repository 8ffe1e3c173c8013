use Rattle.std.proofs.Common.{refl}
use Rattle.hidreport_definitions.proofs.working.fields_of_a_found_report_are_its_own.Goals as goal

pub returns : goal.returns
returns c = record { first = λ own. own.0 refl; second = λ own. own.1.0 refl }
