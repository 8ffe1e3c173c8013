use Rattle.std.proofs.Common.{sym, subst}
use Rattle.hidreport_usages.specs.Families.{numbered_name}
use Rattle.hidreport_usages.specs.Naming.{IsOnlyNamed}
use Rattle.hidreport_usages.proofs.family.numbered_id.Goals as goal

pub returns-in-Vendor : goal.returns-in-Vendor
returns-in-Vendor c =
    subst (λ f. IsOnlyNamed (numbered_name f) c.args.name.now c.digits_id-in-Vendor.result) (sym c.in-Vendor.is) c.digits_id-in-Vendor.ensures
