-- The usage table: what its tests say, each by computation.
use Rattle.std.proofs.Common.{◌≡◌, ◌<◌, refl, ℕ, suc, true, map, drop, length}
use Rattle.hidreport_usages.specs.Rows.{row_at, IsNameOrder}
use Rattle.hidreport_usages.specs.Packed.{HasPieces, Rises, piece}
use Rattle.hidreport_usages.specs.UsageRows.{usage_rows}
use Rattle.hidreport_usages.specs.declared.usage_table.TheConstants.{USAGE_NUMBERS, USAGE_ENDS, USAGE_TEXT}
use Rattle.hidreport_usages.specs.declared.usage_table.TheConstants.{USAGE_PLACES}
use Rattle.hidreport_usages.proofs.Checks.{are_apart}
use Rattle.hidreport_usages.proofs.PackedLemmas.{Rises-from_test, HasPieces-from_tests, named_at}
use Rattle.hidreport_usages.proofs.OrderLemmas.{IsNameOrder-from_tests}
use Rattle.hidreport_usages.proofs.Ranks.{usage_ranks}

pub numbers : USAGE_NUMBERS ≡ map (λ row. row.0) usage_rows
unfolding usage_rows
numbers = refl

pub rising : Rises USAGE_NUMBERS
rising = Rises-from_test 0 USAGE_NUMBERS refl

pub pieces : HasPieces USAGE_TEXT.now USAGE_ENDS
pieces = HasPieces-from_tests USAGE_TEXT.now USAGE_ENDS refl refl

pub long : length USAGE_ENDS ≡ suc (length usage_rows)
unfolding usage_rows
long = refl

pub named : (k : ℕ) → k < length usage_rows → piece USAGE_TEXT.now USAGE_ENDS k ≡ (row_at usage_rows k).1
unfolding usage_rows
named = named_at usage_rows USAGE_TEXT.now (drop 1 USAGE_ENDS) refl refl refl

pub by_name : IsNameOrder usage_rows USAGE_PLACES
unfolding usage_rows usage_ranks
by_name = IsNameOrder-from_tests usage_rows USAGE_PLACES usage_ranks refl refl refl refl

pub apart : are_apart usage_rows ≡ true
unfolding usage_rows
apart = refl
