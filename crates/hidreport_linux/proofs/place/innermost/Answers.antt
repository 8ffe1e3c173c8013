use Rattle.std.proofs.Common.{◌∙◌, add-one, ap, arith, drop, suc, sym}
use Rattle.hidreport_linux.specs.Places.{innermost_or}
use Rattle.hidreport_linux.proofs.PlaceLemmas.{asked-all, asked-next}
use Rattle.hidreport_linux.proofs.place.innermost.Goals as goal
use Rattle.hidreport_linux.proofs.place.innermost.Goals.{in-Some, in_default}

pub loop-index-preserved : goal.loop-index-preserved
loop-index-preserved c =
    let cs = c.args.group.now.shared.collections in
    let k = c.loop-index.index in
    let kind = c.args.kind in
    c.loop-index.invariant
    ∙ elim c.match-collection.branch [
      | in-Some w ↦ asked-next cs k c.loop-index.found kind _ (sym c.collection.ensures ∙ w.in-Some.is)
          ∙ ap (λ f. innermost_or f kind (drop (suc k) cs)) (sym (w.found-is ∙ w.usage_or-found.ensures))
      | in_default w ↦
          let none = asked-all cs k (sym c.collection.ensures ∙ w.in_default.is) in
          absurd (omega (arith, none, c.loop-index-test.true, c.collection_count-index-end.ensures))
    ]
    ∙ ap (λ n. innermost_or c.match-collection.found kind (drop n cs)) (sym (add-one k))
