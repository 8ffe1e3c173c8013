-- Groups (Section 6.2.2.4): the fields that one main item makes, said once for all of them.
use Rattle.std.specs.Prelude.{ℕ, false, if◌then◌else◌, List, [], ◌∷◌, flat_map, length, map, take}
use Rattle.std.specs.Prelude.{Option, None, Some}
use Rattle.hidreport_items.specs.Flags.{Flags}
use Rattle.hidreport_items.specs.declared.item.ItemType.{ItemType}
use Rattle.hidreport.specs.Fields.{Beginning, attributes, collections_at, fields_before}
use Rattle.hidreport.specs.Fields.{list_or_none, make_fields}
use Rattle.hidreport.specs.ItemState.{ItemState}
use Rattle.hidreport.specs.Kinds.{Indexed, Direction, Input, Output, Feature, data_of}
use Rattle.hidreport.specs.Making.{extent, makers_of}
use Rattle.hidreport.specs.Meaning.{keys}
use Rattle.hidreport.specs.Places.{end_before, start}
use Rattle.hidreport_fields.specs.Records.{Attributes, CollectionRecord, DescriptorOf}
use Rattle.hidreport_fields.specs.Records.{DescriptorRecord, FieldRecord, ReportOf, ReportRecord}
use Rattle.hidreport.specs.Usages.{UsageList, usages_of}
use Rattle.hidreport.specs.declared.parser.extent.Extent.{Extent}

-- where they begin, how large and how many they are, the flags of the item, how many usages it
-- names, those that the fields take, and what they share
pub record GroupRecord : Type 0 where
  pub beginning : Beginning
  pub extent : Extent
  pub flags : Flags
  pub named : ℕ
  pub usages : UsageList
  pub shared : Attributes

-- a report and a descriptor with their fields in groups
abbrev pub GroupedReport : Type 0
GroupedReport = ReportOf GroupRecord

abbrev pub OutlineRecord : Type 0
OutlineRecord = DescriptorOf GroupRecord

-- how many of these usages an item with these flags names: padding none
abbrev pub named_of : Flags → UsageList → ℕ
named_of flags us = if flags.constant then 0 else length us.usages

-- those that its fields take: an array chooses among all, so many elements of a variable item take
-- one each as far as there are some, and padding takes none
abbrev pub taken_of : Flags → ℕ → UsageList → UsageList
taken_of flags count us =
    if flags.constant then record { usages = []; is_range = false }
    else (if flags.variable then record { usages = take count us.usages; is_range = false } else us)

-- the collections that fields carry; padding carries none
abbrev pub carried : Flags → List CollectionRecord → List CollectionRecord
carried flags collections = if flags.constant then [] else collections

-- the group of an item with these flags, whose first field has this number and begins at this bit
abbrev pub group_made : ItemState → List CollectionRecord → ℕ → ℕ → Direction → Flags → Extent
    → GroupRecord
group_made state collections number first d flags e = record {
  beginning = record { report_id = state.report_id; number = number; first = first };
  extent = e;
  flags = flags;
  named = named_of flags (list_or_none (usages_of state));
  usages = taken_of flags e.count (list_or_none (usages_of state));
  shared = attributes state (carried flags collections) d flags;
}

-- one for an item that makes fields, and none for another
abbrev pub groups_of : ItemState → List CollectionRecord → ℕ → ℕ → Option (Direction × Flags)
    → Option Extent → List GroupRecord
groups_of state collections number first (Some x) (Some e) =
    group_made state collections number first x.0 x.1 e ∷ []
groups_of state collections number first (Some x) None = []
groups_of state collections number first None e = []

-- the group that an item of direction d makes, if any
abbrev pub groups_at : (ℕ → ItemState) → Direction → List ItemType → Indexed → List GroupRecord
groups_at state_at d items p = groups_of (state_at p.0) (collections_at state_at items p.0)
    (fields_before state_at items p.0) (start state_at d items p.0) (data_of p.1)
    (extent (state_at p.0))

-- the report with this key: a group for each of the items that add to it, in order
abbrev pub grouped_report : (ℕ → ItemState) → Direction → List ItemType → Option ℕ → GroupedReport
grouped_report state_at d items id = record {
  id = id;
  size = end_before state_at d id items (length items);
  fields = flat_map (groups_at state_at d items) (makers_of state_at d id items (length items));
}

-- the reports of direction d
abbrev pub grouped_reports : (ℕ → ItemState) → Direction → List ItemType → List GroupedReport
grouped_reports state_at d items = map (grouped_report state_at d items) (keys state_at d items)

-- the reports of the three directions
abbrev pub grouped : (ℕ → ItemState) → List ItemType → OutlineRecord
grouped state_at items = record {
  input = grouped_reports state_at Input items;
  output = grouped_reports state_at Output items;
  feature = grouped_reports state_at Feature items;
}

-- the fields of a group
abbrev pub group_fields : GroupRecord → List FieldRecord
group_fields g = make_fields g.beginning g.extent g.flags g.usages g.shared

-- those of several groups, in order
abbrev pub fields_of_groups : List GroupRecord → List FieldRecord
fields_of_groups groups = flat_map group_fields groups

-- a report, and a descriptor, with the fields of their groups listed
abbrev pub listed_report : GroupedReport → ReportRecord
listed_report r = record { id = r.id; size = r.size; fields = fields_of_groups r.fields }

abbrev pub listed : OutlineRecord → DescriptorRecord
listed o = record {
  input = map listed_report o.input;
  output = map listed_report o.output;
  feature = map listed_report o.feature;
}
