use Rattle.std.proofs.Common.{refl}
use Rattle.hidreport_definitions.proofs.reading.array_elements_are_signed_one_by_one.Goals as goal

pub returns : goal.returns
returns c = record { reports = refl; values = refl; past_the_count = refl; past_the_bytes = refl }
