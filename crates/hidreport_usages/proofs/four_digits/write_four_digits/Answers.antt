use Rattle.std.proofs.Common.{◌≡◌, ◌++◌, refl}
use Rattle.hidreport_usages.specs.Digits.{four_digits}
use Rattle.hidreport_types.proofs.WriteLemmas.{again, then}
use Rattle.hidreport_usages.proofs.four_digits.write_four_digits.Goals as goal

-- four texts of one digit each
pub returns-clause-styled : goal.returns-clause-styled
returns-clause-styled g c =
    let r = c.write_str-4.result in
    let text : c.digit_text.result.now ++ (c.digit_text-2.result.now ++ (c.digit_text-3.result.now ++ c.digit_text-4.result.now)) ≡ four_digits c.args.number =
    rw (c.digit_text.ensures, c.digit_text-2.ensures, c.digit_text-3.ensures, c.digit_text-4.ensures) refl in
    again r text (then r c.in_ok-write_str.ensures.styled (then r c.in_ok-write_str-2.ensures.styled
    (then r c.in_ok-write_str-3.ensures.styled c.write_str-4.ensures.styled)))
