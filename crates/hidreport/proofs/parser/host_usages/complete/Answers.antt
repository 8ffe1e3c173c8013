use Rattle.std.proofs.Common.{◌≡◌, false, ◌<◌, ◌∙◌, ◌-◌, ◌++◌, suc, List, ap, sym, drop, length, take, arith, get_or}
use Rattle.std.specs.Prelude.{slice_set}
use Rattle.std.specs.List.{list_any}
use Rattle.hidreport.specs.HostUsages.{completed, lies_on}
use Rattle.hidreport.specs.declared.parser.usage_span.UsageSpan.{UsageSpan}
use Rattle.hidreport.proofs.HostUsageLemmas.{front-at, moves-on, stays-on}
use Rattle.hidreport.proofs.parser.host_usages.complete.Goals as goal
use Rattle.hidreport.proofs.parser.host_usages.complete.Goals.{After-lies_on}

-- what is known of the span that is looked at
record Looked (c : After-lies_on) : Type 0 where
  lt : c.loop-index.index - 1 < length c.args.spans.now
  now : c.loop-index.spans ≡ take (suc (c.loop-index.index - 1)) c.args.spans.now
      ++ completed c.args.page (drop (suc (c.loop-index.index - 1)) c.args.spans.now)
  is : c.index-spans-index.result
      ≡ get_or c.args.spans.now (c.loop-index.index - 1) c.index-spans-index.result
  later : list_any (lies_on c.args.page) (drop (suc (c.loop-index.index - 1)) c.args.spans.now)
      ≡ false

looked : (c : After-lies_on) → Looked c
looked c =
    let page = c.args.page in
    let old = c.args.spans.now in
    let i = c.loop-index.index - 1 in
    let s = c.index-spans-index.result in
    let one : c.loop-index.index ≡ suc i = omega (arith, c.loop-index-test.true) in
    let lt : i < length old = omega (arith, c.loop-index.invariant.2, c.loop-index-test.true) in
    let now = c.loop-index.invariant.0
    ∙ ap (λ n. take n old ++ completed page (drop n old)) one in
    record {
      lt = lt;
      now = now;
      is = c.index-spans-index.is
          ∙ ap (λ (l : List UsageSpan). get_or l i s) now ∙ front-at page old i s lt;
      later = ap (λ n. list_any (lies_on page) (drop n old)) (sym one) ∙ c.loop-index.invariant.1;
    }

pub returns-then-lies_on : goal.returns-then-lies_on
returns-then-lies_on c =
    let l = looked (goal.at.returns-then-lies_on c).After-lies_on in
    l.now ∙ stays-on c.args.page c.args.spans.now (c.loop-index.index - 1)
    c.index-spans-index.result l.lt l.is (sym c.lies_on.ensures ∙ c.if-lies_on.true) l.later

pub loop-index-preserved : goal.loop-index-preserved
loop-index-preserved c =
    let i = c.loop-index.index - 1 in
    let m = c.moved_to.result in
    let l = looked (goal.at.loop-index-preserved c).After-lies_on in
    let moved = moves-on c.args.page c.args.spans.now i c.index-spans-index.result m l.lt l.is
    (sym c.lies_on.ensures ∙ c.if-lies_on.false) c.moved_to.ensures l.later in (
      ap (λ (l : List UsageSpan). slice_set l i m) l.now ∙ moved.0,
      moved.1,
      omega (arith, l.lt),
    )
