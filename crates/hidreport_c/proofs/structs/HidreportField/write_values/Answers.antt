use Rattle.std.proofs.Common.{pos, int_lt, ap, sym, ◌∙◌}
use Rattle.std.proofs.lemmas.List.{length-map}
use Rattle.hidreport.specs.Choosing.{value_number}
use Rattle.hidreport_c.proofs.ValuesLemmas.{elements-length, ok-is}
use Rattle.hidreport_c.specs.Answer.{as_answer, counted}
use Rattle.hidreport_c.specs.Value.{elements_at, value_numbers}
use Rattle.hidreport_c.proofs.structs.HidreportField.write_values.Goals as goal

pub returns-clause-answer : goal.returns-clause-answer
returns-clause-answer c =
    let f = c.args.self.now in
    let bytes = c.args.report.now in
    let all = ok-is (elements_at f bytes) c.requires.read in
    let size = length-map all.0 value_number
    ∙ elements-length f.first_bit f.end_bit f.value_count (int_lt f.measures.logical_minimum (pos 0))
    bytes 0 f.value_count all.0 all.1 in
    c.counted.ensures ∙ ap counted (sym size)
    ∙ ap (λ r. as_answer (value_numbers r)) (sym all.1)
