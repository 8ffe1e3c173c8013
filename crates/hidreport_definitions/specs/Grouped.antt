-- What a descriptor's items make, in groups, in short, for the rows.
use Rattle.std.specs.Prelude.{ℕ, Bool, List, [], ◌∷◌, flat_map, length, map, Option, None}
use Rattle.std.specs.Prelude.{Result, Ok, Err, if◌then◌else◌}
use Rattle.hidreport.specs.Answer.{Refusal}
use Rattle.hidreport.specs.Groups.{GroupRecord, GroupedReport, OutlineRecord}
use Rattle.hidreport.specs.Options.{default_options}
use Rattle.hidreport.specs.Outline.{outline_as}
use Rattle.hidreport.specs.UsageNumber.{usage_number}
use Rattle.hidreport.specs.declared.parse_options.ParseOptions.{ParseOptions}
use Rattle.hidreport_definitions.specs.Hex.{hex}
use Rattle.hidreport_definitions.specs.Summary.{host_options}

-- the kinds of fields: padding, one for each element, one for all
pub data Kind : Type 0 where
  Padding : Kind
  Variables : Kind
  Choice : Kind

-- a group: its kind, the number and the first bit of its first field, the size and count of its
-- elements, how many usages its item names, those that the fields take, each as one number, and how
-- many collections are around
pub record GroupSummary : Type 0 where
  pub kind : Kind
  pub number : ℕ
  pub first : ℕ
  pub size : ℕ
  pub count : ℕ
  pub named : ℕ
  pub usages : List ℕ
  pub depth : ℕ

-- a report: its id, its size in bits and its groups
pub data ReportInGroups : Type 0 where
  InGroups : Option ℕ → ℕ → List GroupSummary → ReportInGroups

abbrev pub kind_by : Bool → Bool → Kind
kind_by constant variable =
    if constant then Padding else (if variable then Variables else Choice)

abbrev pub group_summary : GroupRecord → GroupSummary
group_summary g = record {
  kind = kind_by g.flags.constant g.flags.variable;
  number = g.beginning.number;
  first = g.beginning.first;
  size = g.extent.size;
  count = g.extent.count;
  named = g.named;
  usages = map usage_number g.usages.usages;
  depth = length g.shared.collections;
}

abbrev pub grouped_summary : GroupedReport → ReportInGroups
grouped_summary r = InGroups r.id r.size (map group_summary r.fields)

-- the reports of all directions, one direction behind the other
abbrev pub all_grouped : Result OutlineRecord Refusal → Result (List ReportInGroups) Refusal
all_grouped (Ok o) = Ok (flat_map (map grouped_summary) (o.input ∷ o.output ∷ o.feature ∷ []))
all_grouped (Err refusal) = Err refusal

-- what the bytes of a text announce, in groups, by these options, by the default, and for a host
abbrev pub groups_as : ParseOptions → List ℕ → Result (List ReportInGroups) Refusal
groups_as options text = all_grouped (outline_as options (hex text))

abbrev pub groups_by_standard : List ℕ → Result (List ReportInGroups) Refusal
groups_by_standard = groups_as default_options

abbrev pub groups_by_hosts : List ℕ → Result (List ReportInGroups) Refusal
groups_by_hosts = groups_as host_options

-- a group without collections, whose item names no other usages than these
abbrev pub plain : Kind → ℕ → ℕ → ℕ → ℕ → List ℕ → GroupSummary
plain kind number first size count usages = record {
  kind = kind;
  number = number;
  first = first;
  size = size;
  count = count;
  named = length usages;
  usages = usages;
  depth = 0;
}

-- one report without an id
abbrev pub one_report : ℕ → List GroupSummary → Result (List ReportInGroups) Refusal
one_report size groups = Ok (InGroups None size groups ∷ [])
