use Rattle.hidreport_fields.proofs.ScalingLemmas.{line-is-scale}
use Rattle.hidreport_definitions.proofs.ScaleLemmas.{level-is-scale}
use Rattle.hidreport_definitions.proofs.scaling.values_on_a_line_are_scaled.Goals as goal

pub returns-clause-rising : goal.returns-clause-rising
returns-clause-rising c = line-is-scale _ _ _ _

pub returns-clause-falling : goal.returns-clause-falling
returns-clause-falling c = line-is-scale _ _ _ _

pub returns-clause-level : goal.returns-clause-level
returns-clause-level c = level-is-scale
