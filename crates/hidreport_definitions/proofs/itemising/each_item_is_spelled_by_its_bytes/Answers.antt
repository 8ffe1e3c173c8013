use Rattle.hidreport_definitions.proofs.itemising.each_item_is_spelled_by_its_bytes.Goals as goal

pub returns-clause-any : goal.returns-clause-any
returns-clause-any c = λ items. let read = items.each.0.2 in cc

pub returns-clause-short : goal.returns-clause-short
returns-clause-short c = λ items. let read = items.each.0.3 in cc
