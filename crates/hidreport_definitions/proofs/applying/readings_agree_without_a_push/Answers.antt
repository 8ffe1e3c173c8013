use Rattle.std.proofs.Common.{refl}
use Rattle.hidreport_definitions.specs.Cut.{page_and_pop}
use Rattle.hidreport_definitions.proofs.applying.readings_agree_without_a_push.Goals as goal

pub returns : goal.returns
returns c = λ agree. agree page_and_pop refl refl
