use Rattle.std.proofs.Common.{refl}
use Rattle.hidreport_definitions.proofs.itemising.no_bytes_are_no_items.Goals as goal

pub returns-clause-any : goal.returns-clause-any
returns-clause-any c = λ items. items.some refl

pub returns-clause-short : goal.returns-clause-short
returns-clause-short c = λ items. items.some refl
