-- The fields of one main item as C has them, said once for all (Section 6.2.2.4).
use Rattle.std.specs.Prelude.{ℕ, ◌||◌, ◌&&◌, nat_le, if◌then◌else◌, List, [], ◌∷◌, flat_map, map}
use Rattle.std.specs.Prelude.{is_some, slice_get, unwrap_or, Option, None, Some}
use Rattle.std.specs.Borrow.{Bor}
use Rattle.hidreport.specs.Fields.{field_count, usage_at}
use Rattle.hidreport.specs.Groups.{GroupRecord, GroupedReport, OutlineRecord, group_fields}
use Rattle.hidreport.specs.UsageNumber.{usage_number}
use Rattle.hidreport_c.specs.Describe.{reports_in_direction}
use Rattle.hidreport_c.specs.Field.{collections_as_c, flags_as_c, measures_as_c, nothing_measured}
use Rattle.hidreport_c.specs.Field.{nothing_set}
use Rattle.hidreport_c.specs.Lookup.{field_or_none}
use Rattle.hidreport_c.specs.declared.structs.HidreportField.{HidreportField}
use Rattle.hidreport_c.specs.declared.structs.HidreportFlags.{HidreportFlags}
use Rattle.hidreport_c.specs.declared.structs.HidreportMeasures.{HidreportMeasures}
use Rattle.hidreport_c.specs.declared.structs.HidreportGroup.{HidreportGroup}

-- 0 is variable, 1 an array, 2 padding
abbrev pub kind_in : GroupRecord → ℕ
kind_in g = if g.flags.constant then 2 else (if g.flags.variable then 0 else 1)

-- the number of a usage by its place, 0 where there is none; padding has none, nor has what is
-- behind the last variable field
abbrev pub usage_in : GroupRecord → ℕ → ℕ
usage_in g index =
    if g.flags.constant || (g.flags.variable && nat_le g.extent.count index) then 0
    else usage_number (usage_at g.usages.usages index)

-- padding has no data
abbrev pub measures_in : GroupRecord → HidreportMeasures
measures_in g = if g.flags.constant then nothing_measured else measures_as_c g.shared

-- its flags; padding has none
abbrev pub flags_in : GroupRecord → HidreportFlags
flags_in g = if g.flags.constant then nothing_set else flags_as_c g.shared

-- a group as C has it
abbrev pub group_as_c : GroupRecord → HidreportGroup
group_as_c g = record {
  kind = kind_in g;
  first_bit = g.beginning.first;
  element_width = g.extent.size;
  element_count = g.extent.count;
  field_count = field_count g.flags g.extent.count;
  usage = usage_in g 0;
  measures = measures_in g;
  collections = collections_as_c g.shared.collections;
  flags = flags_in g;
  has_report_id = is_some g.beginning.report_id;
  report_id = unwrap_or g.beginning.report_id 0;
}

-- groups as C has them
abbrev pub groups_as_c : List GroupRecord → List HidreportGroup
groups_as_c groups = map group_as_c groups

-- the usage at an index of a group, if there is one
abbrev pub one_or_none : Option GroupRecord → ℕ → List ℕ
one_or_none None index = []
one_or_none (Some g) index = usage_in g index ∷ []

-- the usage of a field by the places of its group and of itself
abbrev pub usage_listed : ℕ → ℕ → List GroupRecord → List ℕ
usage_listed group index groups = one_or_none (slice_get groups group) index

-- the field at an index of a group, if there is one
abbrev pub field_in : Option GroupRecord → ℕ → List HidreportField
field_in None index = []
field_in (Some g) index = field_or_none (slice_get (group_fields g) index)

-- a field by the places of its group and of itself
abbrev pub field_placed : ℕ → ℕ → List GroupRecord → List HidreportField
field_placed group index groups = field_in (slice_get groups group) index

-- what references refer to
abbrev pub lent : {A : Type 0} → List (Bor A) → List A
lent refs = map (λ r. r.now) refs

-- the groups of these reports, in order
abbrev pub groups_of : List GroupedReport → List GroupRecord
groups_of reports = flat_map (λ (r : GroupedReport). r.fields) reports

-- those of a direction
abbrev pub groups_in : ℕ → OutlineRecord → List GroupRecord
groups_in direction outline = groups_of (reports_in_direction direction outline)

-- all groups of a direction as C has them
abbrev pub all_groups : ℕ → OutlineRecord → List HidreportGroup
all_groups direction outline = groups_as_c (groups_in direction outline)

-- the usage of a field of a direction by the places of its group and of itself
abbrev pub one_usage : ℕ → ℕ → ℕ → OutlineRecord → List ℕ
one_usage direction group index outline = usage_listed group index (groups_in direction outline)

-- a field of a direction by the places of its group and of itself
abbrev pub one_field : ℕ → ℕ → ℕ → OutlineRecord → List HidreportField
one_field direction group index outline = field_placed group index (groups_in direction outline)
