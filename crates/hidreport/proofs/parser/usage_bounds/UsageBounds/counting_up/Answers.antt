use Rattle.std.proofs.Common.{◌≡◌, ◌∙◌, ◌+◌, ◌%◌, add-one, ap, sym, arith, map, take}
use Rattle.std.proofs.lemmas.Bool.{eqb-true, not-false}
use Rattle.hidreport.specs.Parser.Locals.{usage_under}
use Rattle.hidreport_fields.specs.UsageRange.{make_usage, range_from}
use Rattle.hidreport.proofs.UsageLemmas.{counted-up}
use Rattle.hidreport.proofs.parser.usage_bounds.UsageBounds.counting_up.Goals as goal

pub loop-usage-preserved : goal.loop-usage-preserved
loop-usage-preserved c =
    let own = c.under-first.result.usage_page in
    let low = c.from-minimum.result in
    let k = c.loop-usage.usage-index in
    let page : c.under-usage.result.usage_page ≡ own =
    eqb-true _ _ (not-false _ (sym c.ne.ensures ∙ c.if-ne.false)) in
    let id : c.under-usage.result.usage_id ≡ (low + k) % 65536 =
    omega (
      arith,
      c.if-from-next.false,
      c.from-else-ne-2.ensures,
      c.from-else-ne.ensures,
      c.from-else-ne.type_inv,
      c.loop-usage.invariant.1,
    ) in (
      ap (λ n. map (usage_under c.args.page) (take n c.args.usages.now)) (add-one k)
          ∙ counted-up c.args.usages.now c.args.page own low k c.usage-item.result c.usage-item.is
          c.loop-usage-test.true c.loop-usage.invariant.0
          (sym c.under-usage.ensures ∙ ap (λ p. make_usage p c.under-usage.result.usage_id) page
          ∙ ap (make_usage own) id)
          ∙ ap (range_from own low) (sym (add-one k)),
      omega (arith, c.loop-usage.invariant.1),
    )
