use Rattle.std.proofs.Common.{refl}
use Rattle.hidreport_definitions.proofs.keeping.a_usage_set_inside_stays_with_globals_alone.Goals
    as goal

pub returns : goal.returns
returns c = record { locals = refl; globals = refl }
