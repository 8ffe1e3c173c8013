use Rattle.std.proofs.Common.{◌+◌, ◌-◌, ◌++◌, length, map, min, ap, ◌∙◌, arith, take, drop}
use Rattle.hidreport.specs.Choosing.{value_number}
use Rattle.hidreport_c.proofs.ListsLemmas.{part-joined}
use Rattle.hidreport_c.proofs.ReadingLemmas.{among-at, among-next, count-among, count-next, item}
use Rattle.hidreport_c.proofs.ReadingLemmas.{item-at, numbers-count, ok-among, ok-numbers}
use Rattle.hidreport_c.specs.Answer.{array_after, list_or_nothing}
use Rattle.hidreport_c.specs.Reading.{numbers_in}
use Rattle.hidreport_c.specs.Value.{value_numbers}
use Rattle.hidreport_c.proofs.reading.put_all.Goals as goal

pub write_values-requires-clause-read : goal.write_values-requires-clause-read
write_values-requires-clause-read c =
    let inv = c.loop-field.invariant in
    let one = among-at c.args.fields.now c.loop-field.field-index c.args.report.now inv.0
    c.requires.read c.loop-field-test.true inv.1 in
    ok-among _ _ _ _ one

pub overflow_add-count : goal.overflow_add-count
overflow_add-count c =
    let fields = c.args.fields.now in
    let bytes = c.args.report.now in
    let inv = c.loop-field.invariant in
    let one = among-at fields c.loop-field.field-index bytes inv.0
    c.requires.read c.loop-field-test.true inv.1 in
    let all = ok-numbers (numbers_in fields bytes) c.requires.read in
    omega (
      arith,
      count-among _ _ _ _ one,
      inv.2,
      numbers-count fields bytes all.0 all.1,
      c.requires.counted,
    )

pub loop-field-preserved : goal.loop-field-preserved
loop-field-preserved c =
    let fields = c.args.fields.now in
    let bytes = c.args.report.now in
    let i = c.loop-field.field-index in
    let inv = c.loop-field.invariant in
    let f = item fields i in
    let one = among-at fields i bytes inv.0 c.requires.read c.loop-field-test.true inv.1 in
    let own = map value_number one.values in
    let rest = take (length c.loop-field.values - c.min-begun.result)
    (drop c.min-begun.result c.loop-field.values) in (
      inv.0 ++ own,
      among-next fields i f bytes inv.0 _ c.loop-field-test.true
          (item-at fields i c.loop-field-test.true) inv.1 one,
      ap (λ n. n + f.value_count) inv.2
          ∙ count-next bytes f inv.0 _ one,
      part-joined inv.0 own c.args.values.now c.loop-field.values c.write_values.new.values
          c.min-begun.result inv.3
          (c.min-begun.ensures ∙ ap (λ n. min n (length c.loop-field.values)) inv.2)
          (c.write_values.ensures.written
          ∙ ap (λ r. array_after (list_or_nothing (value_numbers r)) rest) one.read),
    )
