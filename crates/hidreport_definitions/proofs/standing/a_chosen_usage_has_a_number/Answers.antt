use Rattle.std.proofs.Common.{refl}
use Rattle.std.specs.Prelude.{pos}
use Rattle.hidreport_definitions.proofs.standing.a_chosen_usage_has_a_number.Goals as goal

pub returns : goal.returns
returns c = λ law. law (pos 7) refl
