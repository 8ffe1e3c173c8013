use Rattle.std.proofs.Common.{refl}
use Rattle.hidreport_definitions.proofs.keeping.a_usage_used_inside_comes_back_with_locals_alone.Goals as goal

pub returns : goal.returns
returns c = record { locals = refl; globals = refl }
