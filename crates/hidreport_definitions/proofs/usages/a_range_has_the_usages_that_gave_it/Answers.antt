use Rattle.std.proofs.Common.{true, refl, arith}
use Rattle.hidreport.specs.Tiling.{IsRangeOf}
use Rattle.hidreport.specs.Usages.{range_from}
use Rattle.hidreport_fields.proofs.RangeLemmas.{range_of-exact}
use Rattle.hidreport_definitions.specs.Summary.{four_keys}
use Rattle.hidreport_definitions.proofs.usages.a_range_has_the_usages_that_gave_it.Goals as goal

gave : IsRangeOf (range_from 7 4 4)
gave = record { page = 7; low = 4; count = 4; is = refl }

pub returns-clause-gave : goal.returns-clause-gave
returns-clause-gave c = gave

pub returns-clause-exactly : goal.returns-clause-exactly
returns-clause-exactly c = range_of-exact true (range_from 7 4 4) four_keys refl gave

pub returns-clause-fewer : goal.returns-clause-fewer
returns-clause-fewer c = λ counts. absurd (omega (arith, counts))
