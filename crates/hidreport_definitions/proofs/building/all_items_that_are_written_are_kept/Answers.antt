use Rattle.std.proofs.Common.{◌≡◌, Bool, false, true}
use Rattle.hidreport_definitions.proofs.building.all_items_that_are_written_are_kept.Goals as goal

abbrev is : Bool → Bool
is answer = answer

pub returns : goal.returns
returns c = λ spelled. let kept : is false ≡ is true = spelled.2.0 in cc
