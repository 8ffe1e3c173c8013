use Rattle.std.proofs.Common.{refl}
use Rattle.hidreport_definitions.proofs.reading.an_array_may_have_bits_left_over.Goals as goal

pub returns : goal.returns
returns c = record { without = refl; other_bits = refl }
