-- The page table: what its tests say, each by computation.
use Rattle.std.proofs.Common.{◌≡◌, ◌<◌, refl, ℕ, suc, true, map, drop, length}
use Rattle.hidreport_usages.specs.Rows.{row_at, IsNameOrder}
use Rattle.hidreport_usages.specs.Packed.{HasPieces, Rises, piece}
use Rattle.hidreport_usages.specs.PageRows.{page_rows}
use Rattle.hidreport_usages.specs.declared.page_table.TheConstants.{PAGE_NUMBERS, PAGE_ENDS, PAGE_TEXT, PAGE_PLACES}
use Rattle.hidreport_usages.proofs.Checks.{are_no_vendors}
use Rattle.hidreport_usages.proofs.PackedLemmas.{Rises-from_test, HasPieces-from_tests, named_at}
use Rattle.hidreport_usages.proofs.OrderLemmas.{IsNameOrder-from_tests}
use Rattle.hidreport_usages.proofs.Ranks.{page_ranks}

pub numbers : PAGE_NUMBERS ≡ map (λ row. row.0) page_rows
unfolding page_rows
numbers = refl

pub rising : Rises PAGE_NUMBERS
rising = Rises-from_test 0 PAGE_NUMBERS refl

pub pieces : HasPieces PAGE_TEXT.now PAGE_ENDS
pieces = HasPieces-from_tests PAGE_TEXT.now PAGE_ENDS refl refl

pub long : length PAGE_ENDS ≡ suc (length page_rows)
unfolding page_rows
long = refl

pub named : (k : ℕ) → k < length page_rows → piece PAGE_TEXT.now PAGE_ENDS k ≡ (row_at page_rows k).1
unfolding page_rows
named = named_at page_rows PAGE_TEXT.now (drop 1 PAGE_ENDS) refl refl refl

pub by_name : IsNameOrder page_rows PAGE_PLACES
unfolding page_rows page_ranks
by_name = IsNameOrder-from_tests page_rows PAGE_PLACES page_ranks refl refl refl refl

pub apart : are_no_vendors page_rows ≡ true
unfolding page_rows
apart = refl
