use Rattle.std.proofs.Common.{◌++◌, ap}
use Rattle.hidreport_types.proofs.WriteLemmas.{again, then}
use Rattle.hidreport_usages.proofs.usage.write_counted.Goals as goal

pub returns-clause-styled : goal.returns-clause-styled
returns-clause-styled g c =
    let r = c.write_str-2.result in
    again r (ap (λ digits. c.args.prefix.now ++ digits) c.format.ensures.text)
    (then r c.in_ok-write_str.ensures.styled c.write_str-2.ensures.styled)
