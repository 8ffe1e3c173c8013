use Rattle.std.proofs.Common.{refl}
use Rattle.hidreport_definitions.proofs.items.items_are_kept.Goals as goal

pub returns : goal.returns
returns c = record {
  page = refl;
  push = refl;
  usage = refl;
  later_global = refl;
  later_local = refl;
  long = refl;
}
