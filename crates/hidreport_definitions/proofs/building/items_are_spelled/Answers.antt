use Rattle.std.proofs.Common.{[], ◌∷◌, arith, refl}
use Rattle.hidreport_definitions.proofs.ByteLemmas.{one, two}
use Rattle.hidreport_definitions.proofs.building.items_are_spelled.Goals as goal

pub returns : goal.returns
returns c = record {
  two = (
    refl,
    (5 ∷ 1 ∷ [], (two 5 1 (omega arith) (omega arith), refl, refl)),
    (refl, (0xb4 ∷ [], (one 0xb4 (omega arith), refl, refl)), tt),
  );
  none = tt;
}
