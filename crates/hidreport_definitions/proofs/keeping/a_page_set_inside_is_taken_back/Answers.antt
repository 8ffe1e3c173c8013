use Rattle.std.proofs.Common.{refl}
use Rattle.hidreport_definitions.proofs.keeping.a_page_set_inside_is_taken_back.Goals as goal

pub returns : goal.returns
returns c = record { locals = refl; globals = refl }
