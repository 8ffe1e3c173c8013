use Rattle.std.proofs.Common.{arith, refl}
use Rattle.hidreport_definitions.proofs.ByteLemmas.{two}
use Rattle.hidreport_definitions.proofs.building.what_is_built_is_its_items.Goals as goal

pub returns-clause-built : goal.returns-clause-built
returns-clause-built c = λ some. record {
  some = some;
  whole = refl;
  each = ((two 5 1 (omega arith) (omega arith), refl, refl), tt);
  offsets = (refl, tt);
}

pub returns-clause-nothing : goal.returns-clause-nothing
returns-clause-nothing c = λ some. absurd (some refl)
