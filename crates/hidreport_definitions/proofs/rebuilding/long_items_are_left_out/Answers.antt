use Rattle.std.proofs.Common.{refl}
use Rattle.hidreport_definitions.proofs.rebuilding.long_items_are_left_out.Goals as goal

pub returns : goal.returns
returns c = record {
  alone = refl;
  without_data = refl;
  in_front = refl;
  between = refl;
  no_length = refl;
  no_tag = refl;
  cut_data = refl;
}
