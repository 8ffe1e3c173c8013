use Rattle.std.proofs.Common.{◌≡◌, ◌≤◌, ◌∙◌, ◌+◌, ◌-◌, ◌++◌, ◌∷◌, [], List, ap, sym, add-one, append_assoc, arith}
use Rattle.hidreport.specs.HostUsages.{usages_from}
use Rattle.hidreport_fields.specs.declared.field.usage.Usage.{Usage}
use Rattle.hidreport.proofs.HostUsageLemmas.{length-usages, take-usages, usages-next}
use Rattle.hidreport.proofs.parser.host_usages.push_usages.Goals as goal

pub at-requires : goal.at-requires
at-requires c =
    let s = c.args.span.now in
    omega (
      arith,
      c.requires,
      c.loop-behind-test.true,
      length-usages s s.first (s.last + 1 - s.first),
    )

pub loop-behind-preserved : goal.loop-behind-preserved
loop-behind-preserved c =
    let s = c.args.span.now in
    let n = c.loop-behind.behind in
    let old = c.reserve.new.self.items in (
      c.push_reserved.ensures.items
          ∙ ap (λ (l : List Usage). l ++ c.at.result ∷ []) c.loop-behind.invariant.0
          ∙ append_assoc old (usages_from s s.first n) (c.at.result ∷ [])
          ∙ ap (λ (u : Usage). old ++ (usages_from s s.first n ++ u ∷ [])) c.at.ensures
          ∙ ap (λ (l : List Usage). old ++ l) (sym (usages-next s s.first n)
          ∙ ap (usages_from s s.first) (sym (add-one n))),
      omega (arith, c.push_reserved.ensures.len, c.loop-behind.invariant.1),
      omega (arith, c.push_reserved.ensures.capacity, c.loop-behind.invariant.2),
    )

pub returns : goal.returns
returns c =
    let s = c.args.span.now in
    let all : c.loop-behind.behind ≡ c.args.count =
    omega (arith, c.loop-behind-test.false, c.loop-behind.auto.behind-end) in
    let within : c.args.count ≤ s.last + 1 - s.first =
    omega (arith, c.requires, length-usages s s.first (s.last + 1 - s.first)) in
    c.loop-behind.invariant.0
    ∙ ap (λ (l : List Usage). l ++ usages_from s s.first c.loop-behind.behind)
    c.in_ok-reserve.ensures.items
    ∙ ap (λ n. c.args.list.now.items ++ usages_from s s.first n) all
    ∙ ap (λ (l : List Usage). c.args.list.now.items ++ l)
    (sym (take-usages s s.first c.args.count (s.last + 1 - s.first) within))
