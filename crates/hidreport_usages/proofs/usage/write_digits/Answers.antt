use Rattle.hidreport_types.proofs.WriteLemmas.{then}
use Rattle.hidreport_usages.proofs.usage.write_digits.Goals as goal

pub returns-clause-styled : goal.returns-clause-styled
returns-clause-styled g c =
    then c.write_four_digits.result c.in_ok-write_str.ensures.styled c.write_four_digits.ensures.styled
