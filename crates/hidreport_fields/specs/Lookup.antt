-- Lookup (Section 5.6): the report that bytes are of, and the one with an id; the field with a
-- number, and the first with a usage.
use Rattle.std.specs.Prelude.{◌≡◌, ◌==◌, ◌&&◌, Bool, true, ℕ, List, [], ◌∷◌, Option, None, Some}
use Rattle.std.specs.Prelude.{find, slice_get}
use Rattle.std.specs.List.{list_any}
use Rattle.hidreport_fields.specs.ReportIds.{same_key}
use Rattle.hidreport_fields.specs.Records.{DescriptorOf, FieldRecord, ReportOf, place_of}
use Rattle.hidreport_fields.specs.Records.{usages_in}
use Rattle.hidreport_fields.specs.declared.field.data_item.Direction.{Direction}
use Rattle.hidreport_fields.specs.declared.field.data_item.Direction.TheVariants as direction
use Rattle.hidreport_fields.specs.declared.field.usage.Usage.{Usage}

-- where the first report has no id it is the answer, else that with the first byte as its id
abbrev pub find_by : {A : Type 0} → Option ℕ → List (ReportOf A) → ReportOf A → ℕ
    → Option (ReportOf A)
find_by None reports first b = Some first
find_by (Some id) reports first b = find (λ r. same_key r.id (Some b)) reports

-- no bytes and no reports give none
abbrev pub find_report : {A : Type 0} → List (ReportOf A) → List ℕ → Option (ReportOf A)
find_report reports [] = None
find_report [] (b ∷ bytes) = None
find_report (first ∷ more) (b ∷ bytes) = find_by first.id (first ∷ more) first b

-- the reports of a direction
abbrev pub reports_of : {A : Type 0} → Direction → DescriptorOf A → List (ReportOf A)
reports_of direction.Input descriptor = descriptor.input
reports_of direction.Output descriptor = descriptor.output
reports_of direction.Feature descriptor = descriptor.feature

-- the first with this id, or the first without, if there is one
abbrev pub report_with : {A : Type 0} → Option ℕ → List (ReportOf A) → Option (ReportOf A)
report_with id reports = find (λ r. same_key r.id id) reports

-- one of these reports, which has this id
pub record IsOneWith {A : Type 0} (id : Option ℕ) (reports : List (ReportOf A))
    (report : ReportOf A) : Type 0 where
  pub index : ℕ
  pub there : slice_get reports index ≡ Some report
  pub wanted : same_key report.id id ≡ true

-- the field with this number, if it is one of these
abbrev pub field_with : ℕ → List FieldRecord → Option FieldRecord
field_with number fields = find (λ f. (place_of f).id == number) fields

-- the same page and the same id
abbrev pub same_usage : Usage → Usage → Bool
same_usage u v = (v.usage_page == u.usage_page) && (v.usage_id == u.usage_id)

-- one of the field's usages is this
abbrev pub has_usage : Usage → FieldRecord → Bool
has_usage usage field = list_any (same_usage usage) (usages_in field)

-- the first of these fields that has the usage
abbrev pub field_for : Usage → List FieldRecord → Option FieldRecord
field_for usage fields = find (has_usage usage) fields
