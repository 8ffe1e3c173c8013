use Rattle.std.proofs.Common.{◌≡◌, ◌∙◌, ◌-◌, ◌*◌, ◌%◌, ◌^◌, ℕ, ◌<◌, ap, arith}
use Rattle.std.specs.Int.{bit_at}
use Rattle.hidreport_items.specs.Spelling.{AreBytes}
use Rattle.hidreport_lists.proofs.CutLemmas.{are_bytes}
use Rattle.hidreport_fields.specs.WritingValues.{number_bit}
use Rattle.hidreport_fields.proofs.PutBitsLemmas.{of_z-bit, replaced, word-bits}
use Rattle.hidreport_fields.proofs.field.written_bits.word_with.Goals as goal

pub returns : goal.returns
returns c = λ i lt.
    let bytes = c.args.bytes.now in
    let are : AreBytes bytes = are_bytes bytes (λ k. omega (arith, c.type_inv.bytes k)) in
    let V = c.cast_unsigned.result in
    let value : (j : ℕ) → j < 64 → bit_at V j ≡ number_bit c.args.number j =
    λ j below. ap (λ n. bit_at n j) c.cast_unsigned.ensures
    ∙ of_z-bit c.args.number j c.ranges.number below in
    ap (λ n. bit_at (replaced n V (1 * 2 ^ c.args.width % 18446744073709551616 - 1)
    c.args.first) i) c.word.ensures
    ∙ word-bits bytes are c.requires.short V c.args.width c.args.first i c.args.number
    c.requires.low c.requires.narrow lt value
