-- The fields of one item, not yet listed.
use Rattle.std.specs.Prelude.{◌≡◌, ◌⊎◌, ℕ, take}
use Rattle.hidreport.specs.Groups.{GroupRecord, named_of, taken_of}
use Rattle.hidreport.specs.Parser.Layout.{beginning_of, extent_of, shared_of}
use Rattle.hidreport.specs.Parser.Usages.{ranged, singles, spanned}
use Rattle.hidreport.specs.Usages.{UsageList}
use Rattle.hidreport.specs.declared.parser.group_usages.GroupUsages.{GroupUsages}
use Rattle.hidreport.specs.declared.parser.group_usages.GroupUsages.TheVariants as usages
use Rattle.hidreport.specs.declared.parser.layout.Layout.{Layout}

-- the usages as the definition has them
abbrev pub own_usages : GroupUsages → UsageList
own_usages (usages.Range bounds) = ranged bounds
own_usages (usages.Single page us) = singles page us.items
own_usages (usages.Spans ss) = spanned ss.items

-- the fields of an item that the parser lays out so, with so many usages and these among them
abbrev pub group_by : Layout → ℕ → UsageList → GroupRecord
group_by l named us = record {
  beginning = beginning_of l;
  extent = extent_of l;
  flags = l.item.flags;
  named = named;
  usages = taken_of l.item.flags l.count us;
  shared = shared_of l;
}

-- the same where these are all
abbrev pub group_of : Layout → UsageList → GroupRecord
group_of l us = group_by l (named_of l.item.flags us) us

-- they are these, or the first of these, so many
abbrev pub HasFirst : ℕ → UsageList → UsageList → Type 0
HasFirst most own us = (own ≡ us) ⊎ (own.usages ≡ take most us.usages)
