use Rattle.std.proofs.Common.{ap, sym}
use Rattle.hidreport_usages.specs.Names.{page_text}
use Rattle.hidreport_types.proofs.WriteLemmas.{again, then}
use Rattle.hidreport_usages.proofs.page.PageNameDisplay.fmt.Goals as goal

pub returns-in_ok-write_str-in-Vendor-clause-styled :
    goal.returns-in_ok-write_str-in-Vendor-clause-styled
returns-in_ok-write_str-in-Vendor-clause-styled g c =
    let r = c.write_four_digits.result in
    again r (ap page_text (sym c.in-Vendor.is))
    (then r c.in_ok-write_str-in-Vendor.ensures.styled c.write_four_digits.ensures.styled)
