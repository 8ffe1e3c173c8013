use Rattle.std.proofs.Common.{◌∙◌, [], ◌∷◌, ap}
use Rattle.std.specs.Int.{w64}
use Rattle.std.proofs.lemmas.Int.{to_z-of_z}
use Rattle.hidreport_fields.specs.WritingValues.{bit_after}
use Rattle.hidreport_fields.proofs.field.written_bits.put_touched.Goals as goal

pub returns-clause-bits : goal.returns-clause-bits
returns-clause-bits c = λ i lt. c.put_several.ensures.bits i lt
    ∙ ap (λ z. bit_after c.args.first c.args.width (z ∷ []) c.args.bytes.now i)
    (to_z-of_z w64 c.args.number c.ranges.number)
