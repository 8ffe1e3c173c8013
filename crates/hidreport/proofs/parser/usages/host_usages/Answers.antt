use Rattle.std.proofs.Common.{◌≡◌, ◌∙◌, ◌+◌, ◌-◌, ◌∷◌, [], List, Bool, true, length, ap, arith, sym}
use Rattle.hidreport.specs.HostUsages.{is_lone}
use Rattle.hidreport.specs.Usages.{UsageList, usages_of_spans}
use Rattle.hidreport_fields.specs.UsageRange.{range_from}
use Rattle.hidreport_fields.specs.declared.field.usage.Usage.{Usage}
use Rattle.hidreport.proofs.HostUsageLemmas.{lone-range, lone-so, only}
use Rattle.hidreport.proofs.parser.usages.host_usages.Goals as goal

pub returns-in-len1 : goal.returns-in-len1
returns-in-len1 c =
    let s = c.span-item.result in
    let one : length c.args.spans.now ≡ 1 =
    omega (arith, c.in-len1.len_at_least, c.in-len1.len_below) in
    let all : c.args.spans.now ≡ s ∷ [] = only c.args.spans.now s one c.span-item.is in
    let lone : is_lone (s ∷ []) ≡ true =
    lone-so s c.if-span.true (sym c.is_on_one_page.ensures ∙ c.if-is_on_one_page.true) in
    let listed : UsageList = usages_of_spans (s ∷ []) in
    ap (λ (p : Usage). record {
      usages = range_from p.usage_page s.first (s.last + 1 - s.first);
      is_range = true;
    }) c.usage.ensures
    ∙ ap (λ (us : List Usage). record { usages = us; is_range = true }) (sym (lone-range s lone))
    ∙ ap (λ (b : Bool). record listed { is_range = b }) (sym lone)
    ∙ ap usages_of_spans (sym all)
