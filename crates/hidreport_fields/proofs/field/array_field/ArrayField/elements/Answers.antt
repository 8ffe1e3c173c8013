use Rattle.std.proofs.Common.{◌<◌, pos, int_lt, arith, rules}
use Rattle.hidreport_fields.proofs.ElementLemmas.{elements-more, elements-outside}
use Rattle.hidreport_fields.proofs.field.array_field.ArrayField.elements.Goals as goal

pub returns-in_default-clause-answer : goal.returns-in_default-clause-answer
returns-in_default-clause-answer c =
    let f = c.args.self.now in
    let is_signed = int_lt f.logical_minimum (pos 0) in
    let within : c.loop-idx.idx < f.report_count = omega arith in
    elements-outside f.bits.start f.bits.end f.report_count is_signed c.args.bytes.now
    f.report_count c.loop-idx.idx within (c.element.ensures.outside (search rules))

pub loop-idx-preserved : goal.loop-idx-preserved
loop-idx-preserved c =
    let f = c.args.self.now in
    let is_signed = int_lt f.logical_minimum (pos 0) in (
      rw c.push_reserved.ensures.items
          (elements-more f.bits.start f.bits.end f.report_count is_signed c.args.bytes.now
          c.loop-idx.idx c.loop-idx.values.items c.in-Some.value c.loop-idx.invariant.0
          (search rules)),
      omega (arith, c.push_reserved.ensures.len, c.loop-idx.invariant.1),
      omega (arith, c.push_reserved.ensures.capacity, c.loop-idx.invariant.2),
    )
