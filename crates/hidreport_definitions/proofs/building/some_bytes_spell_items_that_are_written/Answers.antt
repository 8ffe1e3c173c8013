use Rattle.hidreport_definitions.proofs.building.some_bytes_spell_items_that_are_written.Goals as
    goal

pub returns : goal.returns
returns c = λ x spelled. spelled.1
