use Rattle.std.proofs.Common.{◌≡◌, Some, sym, ap, subst, ◌∙◌}
use Rattle.hidreport.specs.UsageNumber.{usage_number}
use Rattle.hidreport_usages.specs.Names.{name_of_number}
use Rattle.hidreport_usages.specs.Rows.{IsFirstNamed}
use Rattle.hidreport_usages.proofs.NameLemmas.{first_of_all, whole}
use Rattle.hidreport_usages.proofs.usage.usage_by_name.Goals as goal

-- the lower of the two is the first of all
pub returns-in-Some : goal.returns-in-Some
returns-in-Some c =
    let name = c.args.name.now in
    let number = c.in-Some.number in
    let found : IsFirstNamed name_of_number name 0 (Some number) =
    subst (IsFirstNamed name_of_number name 0) (sym c.lower.ensures ∙ c.in-Some.is)
    (first_of_all name c.first_named.result c.first_numbered.result c.first_named.ensures c.first_numbered.ensures) in
    let same : number ≡ usage_number c.from.result = sym (whole number) ∙ ap usage_number (sym c.from.ensures) in
    subst (λ n. IsFirstNamed name_of_number name 0 (Some n)) same found
