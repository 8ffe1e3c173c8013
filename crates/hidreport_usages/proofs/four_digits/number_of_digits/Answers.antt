use Rattle.std.proofs.Common.{◌≡◌, length, arith}
use Rattle.hidreport_usages.proofs.DigitLemmas.{is_number}
use Rattle.hidreport_usages.proofs.four_digits.number_of_digits.Goals as goal

-- the four letters are the digits of the four numbers
pub returns : goal.returns
returns c =
    let long : length c.as_bytes.result.now ≡ 4 = omega (arith, c.in-len4.len_at_least, c.in-len4.len_below) in
    rw (← c.as_bytes.ensures.value)
    (is_number c.as_bytes.result.now c.in_ok-first.first c.in_ok-second.second c.in_ok-third.third c.in_ok-fourth.fourth long
    c.in_ok-first.ensures c.in_ok-second.ensures c.in_ok-third.ensures c.in_ok-fourth.ensures)
