use Rattle.std.proofs.Common.{◌+◌, ◌∙◌, ap, arith, get_or}
use Rattle.hidreport_items.specs.Spelling.{following_length}
use Rattle.hidreport_lists.proofs.HeaderLemmas.{behind, headers-step, headers-all}
use Rattle.hidreport_lists.proofs.list.item_count.Goals as goal

pub loop-index-preserved : goal.loop-index-preserved
loop-index-preserved c = record {
  few = omega (arith, c.loop-index.invariant.few);
  all = headers-step c.args.bytes.now c.loop-index.count c.loop-index.index c.following.result
      c.loop-index-test.true (c.following.ensures.value
      ∙ ap (following_length (get_or c.args.bytes.now c.loop-index.index 0))
      (behind c.args.bytes.now (c.loop-index.index + 1))) c.loop-index.invariant.all;
}

pub returns : goal.returns
returns c = headers-all c.args.bytes.now c.loop-index.count c.loop-index.index
    c.loop-index-test.false c.loop-index.invariant.all
