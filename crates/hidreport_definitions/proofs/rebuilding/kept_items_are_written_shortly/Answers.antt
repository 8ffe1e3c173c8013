use Rattle.std.proofs.Common.{refl}
use Rattle.hidreport_definitions.proofs.rebuilding.kept_items_are_written_shortly.Goals as goal

pub returns : goal.returns
returns c = record {
  shorter = refl;
  page_of_its_own = refl;
  idle_items_stay = refl;
  nothing_kept = refl;
  no_item = refl;
  no_bytes = refl;
  signs = refl;
}
