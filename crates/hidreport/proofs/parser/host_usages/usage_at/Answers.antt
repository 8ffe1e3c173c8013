use Rattle.std.proofs.Common.{◌≡◌, ◌<◌, ◌∙◌, ◌+◌, ◌-◌, ap, sym, drop, flat_map, arith}
use Rattle.hidreport.specs.HostUsages.{span_usage, span_usages}
use Rattle.hidreport.proofs.HostUsageLemmas.{or-further, or-span, rest-of, usage_or}
use Rattle.hidreport.proofs.parser.host_usages.usage_at.Goals as goal
use Rattle.hidreport.proofs.parser.host_usages.usage_at.Goals.{then-count-gt0, else-count-gt0}

pub at-requires : goal.at-requires
at-requires c = omega (arith, c.if-before-count.true, c.count-count.ensures.number)

pub at-last-requires : goal.at-last-requires
at-last-requires c = omega (arith, c.count-count.ensures.number)

pub returns-then-before-count : goal.returns-then-before-count
returns-then-before-count c =
    let s = c.span-item.result in
    let i = c.loop-span.span-index in
    let ss = c.args.spans.now in
    c.at.ensures
    ∙ sym (c.loop-span.invariant
    ∙ ap (λ l. usage_or c.loop-span.last l c.loop-span.before)
    (rest-of ss i s c.loop-span-test.true c.span-item.is)
    ∙ or-span c.loop-span.last s (flat_map span_usages (drop (i + 1) ss)) c.count-count.result
    c.loop-span.before c.count-count.ensures.number c.if-before-count.true)

pub loop-span-preserved : goal.loop-span-preserved
loop-span-preserved c =
    let s = c.span-item.result in
    let i = c.loop-span.span-index in
    let ss = c.args.spans.now in
    let n = c.count-count.result in
    let more : 0 < n → c.if-count-gt0.last ≡ span_usage s (s.first + (n - 1)) =
    λ some. elim c.if-count-gt0.branch [
      | then-count-gt0 w ↦ w.last-is ∙ w.at-last.ensures
      | else-count-gt0 w ↦ absurd (omega (arith, some, w.if-count-gt0.false))
    ] in
    let none : n ≡ 0 → c.if-count-gt0.last ≡ c.loop-span.last =
    λ none. elim c.if-count-gt0.branch [
      | then-count-gt0 w ↦ absurd (omega (arith, none, w.if-count-gt0.true))
      | else-count-gt0 w ↦ w.last-is
    ] in
    c.loop-span.invariant
    ∙ ap (λ l. usage_or c.loop-span.last l c.loop-span.before)
    (rest-of ss i s c.loop-span-test.true c.span-item.is)
    ∙ or-further c.loop-span.last c.if-count-gt0.last s (flat_map span_usages (drop (i + 1) ss)) n
    c.loop-span.before c.count-count.ensures.number c.if-before-count.false more none
