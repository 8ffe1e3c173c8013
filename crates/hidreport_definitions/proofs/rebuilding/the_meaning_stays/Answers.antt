use Rattle.std.proofs.Common.{refl}
use Rattle.hidreport_definitions.proofs.rebuilding.the_meaning_stays.Goals as goal

pub returns : goal.returns
returns c = record {
  fault_before = refl;
  fault_behind = refl;
  long_item_before = refl;
  reserved_among_the_locals = refl;
  rebuilt = refl;
  without_them = refl;
}
