use Rattle.std.proofs.Common.{refl}
use Rattle.hidreport_definitions.proofs.low_bits.wide_values_are_fields_of_their_low_bits.Goals as goal

pub returns : goal.returns
returns c = record { narrow = refl; wide = refl; behind = refl; padding = refl }
