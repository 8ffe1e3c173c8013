-- Faults of meaning (Sections 6.2.2.4 to 6.2.2.8): why an item has no meaning where it stands. A
-- parse under a budget also ends at an item that is past its limit.
use Rattle.std.specs.Prelude.{ℕ, List, Option, None, Some, codes}

-- what an item can mean nothing for: a Pop or an End Collection too many, a maximum, a page or
-- usages that are missing, and more bits, fields or collections than can be counted, or than the
-- limit allows
pub data MeaningFault : Type 0 where
  TooManyPops TooManyEnds MissingUsageMaximum MissingUsagePage MissingUsages OutOfBounds BudgetExceeded :
      MeaningFault

-- what a parser says of it; a count or a budget past its limit has no text
abbrev pub text : MeaningFault → Option (List ℕ)
text TooManyPops = Some (codes "Too many Pops, not enough Pushes")
text TooManyEnds = Some (codes "Too many EndCollection")
text MissingUsageMaximum = Some (codes "Missing UsageMaximum in locals")
text MissingUsagePage = Some (codes "Missing UsagePage in globals")
text MissingUsages = Some (codes "Missing Usages for main item")
text OutOfBounds = None
text BudgetExceeded = None
