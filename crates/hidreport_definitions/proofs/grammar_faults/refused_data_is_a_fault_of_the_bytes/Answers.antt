use Rattle.hidreport_definitions.proofs.grammar_faults.refused_data_is_a_fault_of_the_bytes.Goals as
    goal

pub returns : goal.returns
returns c = record {
  fault = λ bytes message law. law.1;
  message = λ bytes message law. law.2;
  bounds = λ law. law;
  report_id = λ law. law;
  budget = λ law. law;
}
