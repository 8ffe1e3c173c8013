use Rattle.std.proofs.Common.{◌+◌, ◌*◌, ◌≤◌, arith, length}
use Rattle.hidreport_lists.proofs.CutLemmas.{are_bytes}
use Rattle.hidreport_fields.proofs.WindowLemmas.{short-masked, window-masked}
use Rattle.hidreport_fields.proofs.field.bit_number.bits_at.Goals as goal

pub returns-then-bytes-lt8-clause-value : goal.returns-then-bytes-lt8-clause-value
returns-then-bytes-lt8-clause-value c =
    short-masked c.args.bytes.now (are_bytes _ (λ i. omega (arith, c.type_inv.bytes i)))
    c.args.first c.args.width c.args.short c.requires.within c.requires.narrow
    (c.requires.short c.if-bytes-lt8.true)

pub overflow_shr-result-2 : goal.overflow_shr-result-2
overflow_shr-result-2 c =
    omega (arith, c.min-place.ensures, c.requires.some, c.requires.within, c.if-bytes-lt8.false)

pub returns-clause-value : goal.returns-clause-value
returns-clause-value c =
    let long = c.if-bytes-lt8.false in
    let some = c.requires.some in
    let narrow = c.requires.narrow in
    let within = c.requires.within in
    let least = c.min-place.ensures in
    let place = c.min-place.result in
    let room : place + 8 ≤ length c.args.bytes.now = omega (arith, least, long) in
    let from : 8 * place ≤ c.args.first = omega (arith, least, long) in
    let upto : c.args.first + c.args.width ≤ 8 * (place + 8) =
    omega (arith, least, long, within, narrow) in
    window-masked c.args.bytes.now (are_bytes _ (λ i. omega (arith, c.type_inv.bytes i))) place 8
    c.args.first c.args.width c.eight_from.result room from upto narrow c.eight_from.ensures
