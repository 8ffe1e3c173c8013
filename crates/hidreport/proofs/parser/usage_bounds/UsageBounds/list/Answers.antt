use Rattle.std.proofs.Common.{◌≡◌, ◌∙◌, List, ap, sym, add-one, ◌++◌, [], ◌∷◌, arith}
use Rattle.hidreport_fields.specs.UsageRange.{range_from}
use Rattle.hidreport_fields.specs.declared.field.usage.Usage.{Usage}
use Rattle.hidreport.proofs.UsageLemmas.{range_from-next}
use Rattle.hidreport.proofs.parser.usage_bounds.UsageBounds.list.Goals as goal

pub loop-behind-preserved : goal.loop-behind-preserved
loop-behind-preserved c =
    let b = c.args.self.now in
    let pushed : c.push_reserved.new.self.items ≡ range_from b.page b.minimum c.loop-behind.behind
    ++ c.usage_of.result ∷ [] =
    c.push_reserved.ensures.items
    ∙ ap (λ (l : List Usage). l ++ c.usage_of.result ∷ []) c.loop-behind.invariant.0 in
    let next = ap (λ (u : Usage). range_from b.page b.minimum c.loop-behind.behind ++ u ∷ [])
    c.usage_of.ensures
    ∙ sym (range_from-next b.page b.minimum c.loop-behind.behind)
    ∙ ap (range_from b.page b.minimum) (sym (add-one c.loop-behind.behind)) in (
      pushed ∙ next,
      omega (arith, c.push_reserved.ensures.len, c.loop-behind.invariant.1),
      omega
          (arith, c.push_reserved.ensures.capacity, c.loop-behind.invariant.2),
    )
