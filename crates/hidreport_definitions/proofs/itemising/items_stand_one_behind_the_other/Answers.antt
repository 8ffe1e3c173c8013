use Rattle.std.proofs.Common.{arith}
use Rattle.hidreport_definitions.proofs.itemising.items_stand_one_behind_the_other.Goals as goal

pub returns-clause-first : goal.returns-clause-first
returns-clause-first c = λ items. omega (arith, items.offsets.0)

pub returns-clause-second : goal.returns-clause-second
returns-clause-second c = λ items. omega (arith, items.offsets.1.0)

pub returns-clause-first_short : goal.returns-clause-first_short
returns-clause-first_short c = λ items. omega (arith, items.offsets.0)

pub returns-clause-second_short : goal.returns-clause-second_short
returns-clause-second_short c = λ items. omega (arith, items.offsets.1.0)
