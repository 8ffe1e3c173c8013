use Rattle.std.proofs.Common.{◌+◌, ◌-◌, ◌%◌, ◌≡◌, ◌∙◌, ℕ, min, ap, sym, arith}
use Rattle.hidreport_fields.specs.UsageRange.{make_usage}
use Rattle.hidreport.proofs.UsageLemmas.{usage_at-list}
use Rattle.hidreport.proofs.parser.usage_bounds.UsageBounds.at.Goals as goal

pub returns : goal.returns
returns c =
    let page = c.args.self.now.page in
    let low = c.args.self.now.minimum in
    let high = c.args.self.now.maximum in
    let behind : low + c.min-behind.result ≡ low + min c.args.c (high - low) =
    omega (arith, c.min-behind.ensures) in
    c.usage_of.ensures
    ∙ ap (λ (n : ℕ). make_usage page (n % 65536)) behind
    ∙ sym (usage_at-list page low high c.args.c c.requires)
