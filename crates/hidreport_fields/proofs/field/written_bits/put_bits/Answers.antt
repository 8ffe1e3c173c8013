use Rattle.std.proofs.Common.{◌-◌, ◌/◌, ◌%◌, ◌∙◌, [], ◌∷◌, take, drop, ap, arith}
use Rattle.std.specs.Int.{w64}
use Rattle.std.proofs.lemmas.Int.{to_z-of_z}
use Rattle.hidreport_lists.proofs.CutLemmas.{are_bytes}
use Rattle.hidreport_fields.specs.WritingValues.{bit_after}
use Rattle.hidreport_fields.proofs.PutBitsLemmas.{put-in-place}
use Rattle.hidreport_fields.proofs.field.written_bits.put_bits.Goals as goal

pub returns : goal.returns
returns c =
    let end = c.div_ceil.result in
    put-in-place c.args.bytes.now c.put_touched.new.bytes c.args.first c.args.width end
    c.put_touched.result c.args.number (omega (arith, c.div_ceil.ensures))
    (omega (arith, c.div_ceil.ensures, c.requires.within)) (omega (arith, c.div_ceil.ensures))
    c.put_touched.ensures.length c.put_touched.ensures.bytes
    (λ i lt. c.put_touched.ensures.bits i lt
    ∙ ap (λ z. bit_after (c.args.first % 8) c.args.width (z ∷ [])
    (take (end - c.args.first / 8) (drop (c.args.first / 8) c.args.bytes.now)) i)
    (to_z-of_z w64 c.args.number c.ranges.number))
    (are_bytes _ (λ k. omega (arith, c.type_inv.bytes k)))
