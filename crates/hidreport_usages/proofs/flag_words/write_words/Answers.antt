use Rattle.std.proofs.Common.{ap}
use Rattle.hidreport_usages.specs.FlagWords.{flag_text}
use Rattle.hidreport_types.proofs.WriteLemmas.{again, plainly, then}
use Rattle.hidreport_usages.proofs.flag_words.write_words.Goals as goal

pub returns : goal.returns
returns g c =
    let r = c.write_word-9.result in
    let words = then r c.in_ok-write_word.ensures.styled (then r c.in_ok-write_word-2.ensures.styled
    (then r c.in_ok-write_word-3.ensures.styled (then r c.in_ok-write_word-4.ensures.styled
    (then r c.in_ok-write_word-5.ensures.styled (then r c.in_ok-write_word-6.ensures.styled
    (then r c.in_ok-write_word-7.ensures.styled (then r c.in_ok-write_word-8.ensures.styled
    c.write_word-9.ensures.styled))))))) in
    let styled = again r (ap flag_text c.flags.view_is) words in
    record { plain = plainly r styled; styled = styled }
