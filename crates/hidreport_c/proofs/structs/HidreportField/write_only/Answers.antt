use Rattle.std.proofs.Common.{◌<◌, ◌∙◌, FitsSigned, arith, rules, w64, pos, int_lt, map, ap, sym}
use Rattle.std.proofs.lemmas.Int.{to_z-of_z}
use Rattle.std.proofs.lemmas.List.{length-map}
use Rattle.std.proofs.lemmas.Option.{slice_get-map}
use Rattle.std.specs.Prelude.{option_map, slice_set}
use Rattle.hidreport.specs.Choosing.{value_number}
use Rattle.hidreport_c.proofs.NumberLemmas.{number-of, written-only}
use Rattle.hidreport_c.proofs.ValuesLemmas.{element-listed, elements-length, ok-is}
use Rattle.hidreport_c.specs.Answer.{list_or_nothing, array_after}
use Rattle.hidreport_c.specs.Value.{element_at, elements_at, value_numbers}
use Rattle.hidreport_c.proofs.structs.HidreportField.write_only.Goals as goal

pub returns : goal.returns
returns c =
    let f = c.args.self.now in
    let bytes = c.args.report.now in
    let old = c.args.values.now in
    let n = c.number-number.result in
    let s = int_lt f.measures.logical_minimum (pos 0) in
    let all = ok-is (elements_at f bytes) c.requires.read in
    let size = length-map all.0 value_number
    ∙ elements-length f.first_bit f.end_bit f.value_count s bytes 0 f.value_count all.0 all.1
    ∙ c.requires.one in
    let within : 0 < f.value_count = omega (arith, c.requires.one) in
    let fits : FitsSigned w64 n = search rules in
    let told = number-of (element_at f bytes 0) n c.number-number.ensures in
    let at = slice_get-map value_number all.0 0
    ∙ ap (option_map value_number) (element-listed f.first_bit f.end_bit f.value_count s bytes 0
    f.value_count all.0 0 told.0 all.1 within told.1) in
    c.put_first.ensures ∙ ap (slice_set old 0) (to_z-of_z w64 n fits ∙ told.2)
    ∙ written-only (map value_number all.0) old (value_number told.0) size at
    ∙ ap (λ r. array_after (list_or_nothing (value_numbers r)) old) (sym all.1)
