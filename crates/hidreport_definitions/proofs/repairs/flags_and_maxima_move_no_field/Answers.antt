use Rattle.std.proofs.Common.{refl}
use Rattle.hidreport.specs.Options.{default_options, globals_only_options}
use Rattle.hidreport.proofs.OutlineLemmas.{same-places}
use Rattle.hidreport_definitions.proofs.repairs.flags_and_maxima_move_no_field.Goals as goal

pub returns-clause-flags : goal.returns-clause-flags
returns-clause-flags c = same-places default_options _ _ refl

pub returns-clause-maximum : goal.returns-clause-maximum
returns-clause-maximum c = same-places globals_only_options _ _ refl
