use Rattle.std.proofs.Common.{◌≡◌, ◌∙◌, true, false, ap, sym, rules}
use Rattle.hidreport_fields.specs.BitValue.{value}
use Rattle.hidreport_fields.proofs.SignLemmas.{plain-number, signed-number}
use Rattle.hidreport_fields.proofs.field.bit_number.number_at.Goals as goal

pub returns-then-not-is_signed : goal.returns-then-not-is_signed
returns-then-not-is_signed c =
    let plain : c.args.is_signed ≡ false = search rules in
    plain-number c.args.bytes.now c.args.first c.args.width c.bits_at-sum.result c.requires.narrow
    c.bits_at-sum.ensures.value
    ∙ ap (value c.args.bytes.now c.args.first c.args.width) (sym plain)

pub returns : goal.returns
returns c =
    let has_sign : c.args.is_signed ≡ true = search rules in
    signed-number c.args.bytes.now c.args.first c.args.width c.bits_at-sum.result c.excess.result
    c.requires.some c.requires.narrow c.bits_at-sum.ensures.value c.excess.ensures.clear
    c.excess.ensures.set
    ∙ ap (value c.args.bytes.now c.args.first c.args.width) (sym has_sign)
