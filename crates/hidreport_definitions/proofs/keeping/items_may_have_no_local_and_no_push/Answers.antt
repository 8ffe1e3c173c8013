use Rattle.std.proofs.Common.{◌≡◌, true, false, refl}
use Rattle.hidreport_definitions.proofs.keeping.items_may_have_no_local_and_no_push.Goals as goal

pub returns : goal.returns
returns c = record {
  no_local = refl;
  a_local = λ none. let is : true ≡ false = none in cc;
  no_push = refl;
  a_push = λ none. let is : true ≡ false = none in cc;
}
