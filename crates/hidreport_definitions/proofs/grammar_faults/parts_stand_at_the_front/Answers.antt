use Rattle.hidreport_definitions.proofs.grammar_faults.parts_stand_at_the_front.Goals as goal

pub returns-clause-there : goal.returns-clause-there
returns-clause-there c = λ parts bytes law. law.0

pub returns-clause-spelled : goal.returns-clause-spelled
returns-clause-spelled c = λ parts bytes law. law.1
