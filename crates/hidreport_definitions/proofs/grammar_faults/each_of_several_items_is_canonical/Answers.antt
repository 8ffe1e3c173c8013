use Rattle.hidreport_definitions.proofs.grammar_faults.each_of_several_items_is_canonical.Goals as
    goal

pub returns : goal.returns
returns c = record {
  first = λ law. let read = law.0.spells.2 in cc;
  second = λ law. let read = law.1.0.spells.2 in cc;
}
