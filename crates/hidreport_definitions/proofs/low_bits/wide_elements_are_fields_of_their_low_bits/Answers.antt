use Rattle.std.proofs.Common.{refl}
use Rattle.hidreport_definitions.proofs.low_bits.wide_elements_are_fields_of_their_low_bits.Goals as
    goal

pub returns : goal.returns
returns c = record { narrow = refl; wide = refl }
