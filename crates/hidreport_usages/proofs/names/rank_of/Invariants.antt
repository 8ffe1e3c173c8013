use Rattle.std.proofs.Common.{◌-◌, ◌≡◌, ◌<◌, ◌≤◌, ℕ, false, length, slice_index}
use Rattle.std.specs.Ordering.{is_lt}
use Rattle.std.specs.declared.cmp.Ordering.TheVariants.{Less}
use Rattle.hidreport_usages.specs.Rows.{order, row_at}
use Rattle.hidreport_usages.proofs.names.rank_of.Given as goal

abbrev pub invariant-loop-low : goal.invariant-loop-low
invariant-loop-low g l = record {
  halves : l.low ≤ l.high;
  within : l.high ≤ length l.places;
  before : (k : ℕ) → k < l.low → order (row_at g.T.NameTable.rows (slice_index l.places k)) (l.number, l.name) ≡ Less;
  behind : (k : ℕ) → l.high ≤ k → k < length l.places
      → is_lt (order (row_at g.T.NameTable.rows (slice_index l.places k)) (l.number, l.name)) ≡ false;
}

abbrev pub decreases-loop-low : goal.decreases-loop-low
decreases-loop-low g l = l.high - l.low
