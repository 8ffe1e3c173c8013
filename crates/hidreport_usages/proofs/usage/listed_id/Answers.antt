use Rattle.std.proofs.Common.{◌≡◌, ◌+◌, ◌*◌, ◌-◌, ◌/◌, Some, ap, ◌∙◌, arith}
use Rattle.hidreport_usages.specs.Rows.{name_in, IsFirstNamed}
use Rattle.hidreport_usages.specs.UsageRows.{usage_rows}
use Rattle.hidreport_usages.specs.declared.usage_table.TheConstants.{USAGE_PLACES}
use Rattle.hidreport_usages.proofs.LookupLemmas.{one_on_page}
use Rattle.hidreport_usages.proofs.UsageTable.{by_name}
use Rattle.hidreport_usages.proofs.usage.listed_id.Goals as goal

-- the first number from the page's 0 on is on the page, and there a name stands once
pub returns-then-id-lt65536 : goal.returns-then-id-lt65536
returns-then-id-lt65536 c =
    let page = c.args.page in
    let name = c.args.name.now in
    let number = c.in-Some.number in
    let same : c.from-first.result ≡ page = c.from-first.ensures in
    let found : IsFirstNamed (name_in usage_rows) name (c.from-first.result * 65536) (Some number) = c.in-Some.ensures in
    let whole : page * 65536 + (number - c.from-first.result * 65536) ≡ number = omega (arith, same, found.0) in (
      c.if-id-lt65536.true,
      ap (name_in usage_rows) whole ∙ found.1,
      λ n inside h.
          let pages : (page * 65536 + n) / 65536 ≡ number / 65536 = omega (arith, inside, same, found.0, c.if-id-lt65536.true) in
          let one = one_on_page usage_rows USAGE_PLACES by_name name (page * 65536 + n) number h found.1 pages in
          omega (arith, one, same),
    )
