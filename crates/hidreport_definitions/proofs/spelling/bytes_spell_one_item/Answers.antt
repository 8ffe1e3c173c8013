use Rattle.hidreport_definitions.proofs.spelling.bytes_spell_one_item.Goals as goal

pub returns : goal.returns
returns c = record {
  spelled = λ law. let read = law.2 in cc;
  read = λ law. let read = law.2 in cc;
  short = λ law. let read = law.3 in cc;
}
