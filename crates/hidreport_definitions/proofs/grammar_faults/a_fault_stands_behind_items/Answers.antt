use Rattle.hidreport_definitions.proofs.grammar_faults.a_fault_stands_behind_items.Goals as goal

pub returns : goal.returns
returns c = record {
  whole = λ bytes at law. law.whole;
  each = λ bytes at law. law.each;
  starts = λ bytes at law. law.starts;
  none = λ bytes at law. law.none;
  why = λ bytes at law. law.why;
}
