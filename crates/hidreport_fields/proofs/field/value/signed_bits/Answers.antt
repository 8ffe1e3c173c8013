use Rattle.std.proofs.Common.{arith}
use Rattle.hidreport_fields.proofs.BitLemmas.{top-clear, top-set}
use Rattle.hidreport_fields.proofs.field.value.signed_bits.Goals as goal

pub returns-then-sum-width : goal.returns-then-sum-width
returns-then-sum-width c =
    top-clear c.args.bytes.now c.args.first c.args.width c.sum_of_bits-sum.result c.requires.some
    c.requires.narrow c.sum_of_bits-sum.ensures.value c.if-sum-width.true

pub returns-else-sum-width : goal.returns-else-sum-width
returns-else-sum-width c =
    top-set c.args.bytes.now c.args.first c.args.width c.sum_of_bits-sum.result c.requires.some
    c.requires.narrow c.sum_of_bits-sum.ensures.value (omega (arith, c.if-sum-width.false))
