use Rattle.std.proofs.Common.{ap, arith, length}
use Rattle.hidreport_definitions.proofs.itemising.items_have_all_bytes.Goals as goal

pub returns-clause-any : goal.returns-clause-any
returns-clause-any c = λ items. omega (arith, ap length items.whole)

pub returns-clause-short : goal.returns-clause-short
returns-clause-short c = λ items. omega (arith, ap length items.whole)
