-- Where hosts and the letter of the standard read the same usages (Section 6.2.2.8).
use Rattle.std.specs.Prelude.{◌≡◌, ◌<◌, ℕ, List, Ok, Some, map}
use Rattle.hidreport_items.specs.declared.local.LocalItem.{LocalItem}
use Rattle.hidreport_items.specs.declared.local.LocalItem.TheVariants as local
use Rattle.hidreport.specs.Usages.{host_usages, standard_usages}
use Rattle.hidreport.specs.declared.parser.paged_local.PagedLocal.{PagedLocal}

-- a single usage, by an id of 16 bits or with a page of its own
abbrev pub NamesOne : LocalItem → Type 0
NamesOne (local.Usage own id) = id < 65536
NamesOne (local.UsageId id) = id < 65536
NamesOne _ = ⊥

-- a local item where this is the page in force
abbrev pub on_page : ℕ → LocalItem → PagedLocal
on_page page x = record { page = Some page; item = x }

-- both rules read the same of these local items, where this page is in force at each and at their
-- main item
abbrev pub ReadAlike : ℕ → List LocalItem → Type 0
ReadAlike page xs =
    standard_usages (Some page) xs ≡ Ok (host_usages (Some page) (map (on_page page) xs))
