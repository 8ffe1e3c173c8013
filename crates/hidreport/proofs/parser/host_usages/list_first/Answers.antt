use Rattle.std.proofs.Common.{rules, ◌≡◌, ◌∙◌, ◌+◌, ◌-◌, ◌++◌, List, ap, sym, drop, flat_map, length, min, take, append_assoc}
use Rattle.hidreport.specs.HostUsages.{span_usages}
use Rattle.hidreport_fields.specs.declared.field.usage.Usage.{Usage}
use Rattle.hidreport.proofs.HostUsageLemmas.{rest-of, take-split}
use Rattle.hidreport.proofs.parser.host_usages.list_first.Goals as goal

pub loop-span-preserved : goal.loop-span-preserved
loop-span-preserved c =
    let s = c.span-item.result in
    let i = c.loop-span.span-index in
    let ss = c.args.spans.now in
    let us = span_usages s in
    let rest = flat_map span_usages (drop (i + 1) ss) in
    let n = c.min-count.result in
    let room = c.loop-span.room in
    let capped : n ≡ min c.count.result room = search rules in
    let size : min (length us) room ≡ n =
    ap (λ k. min k room) (sym c.count.ensures.count) ∙ sym capped in
    c.loop-span.invariant
    ∙ ap (λ (l : List Usage). c.loop-span.list.items ++ take room l)
    (rest-of ss i s c.loop-span-test.true c.span-item.is)
    ∙ ap (λ (l : List Usage). c.loop-span.list.items ++ l)
    (take-split room us rest ∙ ap (λ k. take k us ++ take (room - k) rest) size)
    ∙ sym (append_assoc c.loop-span.list.items (take n us) (take (room - n) rest))
    ∙ ap (λ (l : List Usage). l ++ take (room - n) rest) (sym c.in_ok-push_usages.ensures)
