use Rattle.std.proofs.Common.{refl}
use Rattle.hidreport_definitions.proofs.faults.a_pop_needs_a_push.Goals as goal

pub returns : goal.returns
returns c = record { alone = refl; behind_a_usage_page = refl; before_a_grammar_fault = refl }
