use Rattle.hidreport_definitions.proofs.itemising.a_long_item_is_not_short.Goals as goal

pub returns : goal.returns
returns c = λ items. let short = items.each.0.1 in cc
