use Rattle.std.proofs.Common.{◌≡◌, ◌<◌, pos, int_lt, length, map, slice_set, take, suc, ◌+◌, min}
use Rattle.std.proofs.Common.{FitsSigned, rules, w64, ap, sym, ◌∙◌, arith}
use Rattle.std.proofs.lemmas.List.{length-map}
use Rattle.std.proofs.Math.Nat.{min-le_left, min-le_right}
use Rattle.std.proofs.lemmas.Int.{to_z-of_z}
use Rattle.std.proofs.lemmas.Option.{slice_get-map}
use Rattle.std.specs.Prelude.{option_map}
use Rattle.hidreport.specs.Reading.{element}
use Rattle.hidreport.specs.Choosing.{value_number}
use Rattle.hidreport_c.proofs.ListsLemmas.{past-least}
use Rattle.hidreport_c.proofs.NumberLemmas.{number-of}
use Rattle.hidreport_c.proofs.ValuesLemmas.{element-listed, elements-length}
use Rattle.hidreport_c.proofs.ValuesLemmas.{set-written, written-whole}
use Rattle.hidreport_c.specs.Answer.{list_or_nothing, array_after}
use Rattle.hidreport_c.specs.Value.{element_at, value_numbers}
use Rattle.hidreport_c.proofs.structs.HidreportField.write_each.Goals as goal

pub loop-index-preserved : goal.loop-index-preserved
loop-index-preserved c =
    let f = c.args.self.now in
    let all = c.loop-index.invariant.0 in
    let is_signed = int_lt f.measures.logical_minimum (pos 0) in
    let bytes = c.args.report.now in
    let old = c.args.values.now in
    let index = c.loop-index.index in
    let start : 0 + index ≡ index = omega arith in
    let next : suc index ≡ index + 1 = omega arith in
    let least : index < min f.value_count (length old) =
    rw (sym c.min-index-end.ensures) c.loop-index-test.true in
    let within : index < f.value_count =
    omega (arith, least, min-le_left f.value_count (length old)) in
    let inside : index < length old =
    omega (arith, least, min-le_right f.value_count (length old)) in
    let fits : FitsSigned w64 c.number.result = search rules in
    let told = number-of (element_at f bytes index) c.number.result c.number.ensures in
    let at = element-listed f.first_bit f.end_bit f.value_count is_signed bytes 0 f.value_count all
    index told.0 c.loop-index.invariant.1 within
    (ap (λ i. element f.first_bit f.end_bit f.value_count is_signed bytes i) start ∙ told.1) in
    let number_at = slice_get-map value_number all index ∙ ap (option_map value_number) at in (
      all,
      c.loop-index.invariant.1,
      ap (slice_set c.loop-index.values index) (to_z-of_z w64 c.number.result fits ∙ told.2)
          ∙ ap (λ l. slice_set l index (value_number told.0)) c.loop-index.invariant.2
          ∙ set-written (map value_number all) old index (value_number told.0) number_at inside
          ∙ ap (λ n. array_after (take n (map value_number all)) old) next,
    )

pub returns : goal.returns
returns c =
    let f = c.args.self.now in
    let all = c.loop-index.invariant.0 in
    let size = length-map all value_number
    ∙ elements-length f.first_bit f.end_bit f.value_count (int_lt f.measures.logical_minimum (pos 0))
    c.args.report.now 0 f.value_count all c.loop-index.invariant.1 in
    let past = past-least (length (map value_number all)) (length c.args.values.now)
    c.loop-index.index (rw (size, sym c.min-index-end.ensures) c.loop-index-test.false) in
    c.loop-index.invariant.2
    ∙ written-whole (map value_number all) c.args.values.now c.loop-index.index past
    ∙ ap (λ r. array_after (list_or_nothing (value_numbers r)) c.args.values.now)
    (sym c.loop-index.invariant.1)
