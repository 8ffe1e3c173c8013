use Rattle.hidreport_definitions.proofs.canonical.another_item_is_not_canonical.Goals as goal

pub returns : goal.returns
returns c = λ canonical. let read = canonical.spells.2 in cc
