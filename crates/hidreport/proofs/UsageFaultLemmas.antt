-- The faults of usages are two: a minimum without its maximum, and a usage without a page.
use Rattle.std.proofs.Common.{◌≡◌, ◌≢◌, ℕ, List, [], ◌∷◌, Option, None, Some, Result, Ok, Err, ap}
use Rattle.std.proofs.Common.{Bool, true, false, refl}
use Rattle.hidreport_items.specs.declared.local.LocalItem.{LocalItem}
use Rattle.hidreport_items.specs.declared.local.LocalItem.TheVariants as local
use Rattle.hidreport.specs.Faults.{limit_fault, usage_fault}
use Rattle.hidreport.specs.ItemState.{ItemState, first_of, local_items}
use Rattle.hidreport.specs.MeaningFault.{MeaningFault, MissingUsageMaximum, MissingUsagePage}
use Rattle.hidreport.specs.MeaningFault.{MissingUsages, OutOfBounds, BudgetExceeded, TooManyEnds}
use Rattle.hidreport.specs.MeaningFault.{TooManyPops}
use Rattle.hidreport.specs.Repair.{is_missing_usages}
use Rattle.hidreport.specs.Usages.{UsageList, as_single, before_usages, last_local, maximum_of}
use Rattle.hidreport.specs.Usages.{minimum_of, on_page, range_usages, single_usages}
use Rattle.hidreport.specs.Usages.{usages_of, usages_under, usages_with}
use Rattle.hidreport_fields.specs.declared.field.usage.Usage.{Usage}
use Rattle.hidreport.specs.declared.parser.usages_by.UsagesBy.{UsagesBy}
use Rattle.hidreport.specs.declared.parser.usages_by.UsagesBy.TheVariants as usages_by

before-never : (g : MeaningFault) (u : Usage) (r : Result (List Usage) MeaningFault) → r ≢ Err g
    → before_usages u r ≢ Err g
before-never g u (Ok us) never is = cc
before-never g u (Err f) never is = let same : f ≡ g = cc in never (ap Err same)

page-never : (g : MeaningFault) → MissingUsagePage ≢ g → (page : Option ℕ) (id : ℕ)
    (r : Result (List Usage) MeaningFault) → r ≢ Err g → on_page page id r ≢ Err g
page-never g other None id r never is =
    let same : MissingUsagePage ≡ g = cc in other same
page-never g other (Some page) id r never is =
    before-never g (record { usage_page = page; usage_id = id }) r never is

single-never : (g : MeaningFault) → MissingUsagePage ≢ g → (page : Option ℕ)
    (xs : List LocalItem) → single_usages page xs ≢ Err g
single-never g other page [] is = cc
single-never g other page (local.Usage own id ∷ xs) is =
    before-never g (record { usage_page = own; usage_id = id }) (single_usages page xs)
    (single-never g other page xs) is
single-never g other page (local.UsageId id ∷ xs) is =
    page-never g other page id (single_usages page xs) (single-never g other page xs) is
single-never g other page (x ∷ xs) is = single-never g other page xs is

as-single-never : (g : MeaningFault) (r : Result (List Usage) MeaningFault) → r ≢ Err g
    → as_single r ≢ Err g
as-single-never g (Ok us) never is = cc
as-single-never g (Err f) never is = let same : f ≡ g = cc in never (ap Err same)

range-never : (g : MeaningFault) → MissingUsageMaximum ≢ g → MissingUsagePage ≢ g → (low : ℕ)
    (high page : Option ℕ) → range_usages low high page ≢ Err g
range-never g maximum other low None page is =
    let same : MissingUsageMaximum ≡ g = cc in maximum same
range-never g maximum other low (Some high) None is =
    let same : MissingUsagePage ≡ g = cc in other same
range-never g maximum other low (Some high) (Some page) is = cc

standard-never : (g : MeaningFault) → MissingUsageMaximum ≢ g → MissingUsagePage ≢ g
    → (low page : Option ℕ) (xs : List LocalItem) → usages_with low page xs ≢ Err g
standard-never g maximum other (Some low) page xs =
    range-never g maximum other low (last_local maximum_of xs) page
standard-never g maximum other None page xs = as-single-never g (single_usages page xs)
    (single-never g other page xs)

by-never : (g : MeaningFault) → MissingUsageMaximum ≢ g → MissingUsagePage ≢ g
    → (by : UsagesBy) (f : ItemState) → usages_under by f ≢ Err g
by-never g maximum other usages_by.Standard f =
    standard-never g maximum other (last_local minimum_of (local_items f.locals)) f.usage_page
    (local_items f.locals)
by-never g maximum other usages_by.Hosts f = λ is. cc

-- no other fault is one of them
pub usages-never : (g : MeaningFault) → MissingUsageMaximum ≢ g → MissingUsagePage ≢ g
    → (f : ItemState) → usages_of f ≢ Err g
usages-never g maximum other f = by-never g maximum other f.usages_by f

pub limit-other : (b : Bool) → is_missing_usages (limit_fault b) ≡ false
limit-other true = refl
limit-other false = refl

other-by : (f : MeaningFault) → f ≢ MissingUsages → is_missing_usages (Some f) ≡ false
other-by TooManyPops never = refl
other-by TooManyEnds never = refl
other-by MissingUsageMaximum never = refl
other-by MissingUsagePage never = refl
other-by MissingUsages never = absurd (never refl)
other-by OutOfBounds never = refl
other-by BudgetExceeded never = refl

usage-other : (r : Result UsageList MeaningFault) (more : Option MeaningFault)
    → r ≢ Err MissingUsages → is_missing_usages more ≡ false
    → is_missing_usages (first_of (usage_fault r) more) ≡ false
usage-other (Ok us) more never rest = rest
usage-other (Err f) more never rest = other-by f (λ e. never (ap Err e))

-- a collection doesn't lack usages
pub collection-other : (f : ItemState) (b : Bool)
    → is_missing_usages (first_of (usage_fault (usages_of f)) (limit_fault b)) ≡ false
collection-other f b = usage-other (usages_of f) (limit_fault b)
    (usages-never MissingUsages (λ e. cc) (λ e. cc) f) (limit-other b)
