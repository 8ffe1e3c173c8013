use Rattle.std.proofs.Common.{arith}
use Rattle.hidreport_usages.proofs.OrderLemmas.{before_half, behind_half}
use Rattle.hidreport_usages.proofs.names.rank_of.Goals as goal

-- the row in the middle stands before, so all up to it do
pub loop-low-preserved-then-stands_before : goal.loop-low-preserved-then-stands_before
loop-low-preserved-then-stands_before g c = record {
  halves = omega (arith, c.loop-low-test.true);
  within = c.loop-low.invariant.within;
  before = before_half g.T.NameTable.rows c.args.places.now c.requires (c.args.number, c.args.name.now) c.loop-low.low c.loop-low.high
      c.loop-low-test.true c.loop-low.invariant.within _ _ c.from.ensures c.stands_before.ensures c.if-stands_before.true;
  behind = c.loop-low.invariant.behind;
}

-- it doesn't, so none from it on does
pub loop-low-preserved : goal.loop-low-preserved
loop-low-preserved g c = record {
  halves = omega (arith, c.loop-low-test.true);
  within = omega (arith, c.loop-low-test.true, c.loop-low.invariant.within);
  before = c.loop-low.invariant.before;
  behind = behind_half g.T.NameTable.rows c.args.places.now c.requires (c.args.number, c.args.name.now) c.loop-low.low c.loop-low.high
      c.loop-low-test.true c.loop-low.invariant.within _ _ c.from.ensures c.stands_before.ensures c.if-stands_before.false;
}
