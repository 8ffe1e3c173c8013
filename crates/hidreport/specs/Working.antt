-- What works for a report that is found and as many bytes as it has (Sections 5.6 and 5.8).
use Rattle.std.specs.Prelude.{◌≡◌, ◌≢◌, ◌*◌, ◌<◌, ◌≤◌, ℕ, ℤ, true, List, [], ◌∷◌, length, IsOk}
use Rattle.std.specs.Prelude.{Err}
use Rattle.std.specs.List.{list_all}
use Rattle.hidreport_lists.specs.Answer.{MismatchingReportId}
use Rattle.hidreport_fields.specs.Reading.{reads as read, reads_element}
use Rattle.hidreport_fields.specs.Records.{FieldRecord, ReportRecord, element_count}
use Rattle.hidreport_fields.specs.Tiling.{Each, IsFilled}
use Rattle.hidreport_fields.specs.WritingLaws.{written_all}
use Rattle.hidreport_fields.specs.WritingValues.{fits, has_sign, value_count, value_width, written}
use Rattle.hidreport_fields.specs.WritingValues.{written_element}

-- its values have at most 32 bits each
abbrev pub IsNarrow : FieldRecord → Type 0
IsNarrow field = value_width field ≤ 32

-- such a field is read, and as many values as it has, each of which fits, are written; so is each of
-- its elements
pub record FieldWorks (bytes : List ℕ) (field : FieldRecord) : Type 0 where
  pub reads : IsNarrow field → IsOk (read field bytes)
  pub writes : IsNarrow field → (numbers : List ℤ) → length numbers ≡ value_count field
      → list_all (fits (value_width field) (has_sign field)) numbers ≡ true
      → IsOk (written field numbers bytes)
  pub reads_one : IsNarrow field → (index : ℕ) → index < element_count field
      → IsOk (reads_element field bytes index)
  pub writes_one : IsNarrow field → (index : ℕ) (number : ℤ) → index < element_count field
      → fits (value_width field) (has_sign field) number ≡ true
      → IsOk (written_element field index number bytes)

-- none of its fields is refused as another report's than the one that the bytes are of
abbrev pub AllOwn : List ℕ → ReportRecord → Type 0
AllOwn bytes report =
    Each (λ (field : FieldRecord). read field bytes ≢ Err MismatchingReportId) report.fields

-- all of its fields do, where there are as many bytes as it has
abbrev pub AllWork : List ℕ → ReportRecord → Type 0
AllWork bytes report = report.size ≤ 8 * length bytes → Each (FieldWorks bytes) report.fields

-- as many numbers for each field as it has values, each of which fits
abbrev pub FitAll : List FieldRecord → List (List ℤ) → Type 0
FitAll [] [] = Unit {0}
FitAll [] (numbers ∷ more) = ⊥
FitAll (field ∷ fields) [] = ⊥
FitAll (field ∷ fields) (numbers ∷ more) = (length numbers ≡ value_count field)
    × (list_all (fits (value_width field) (has_sign field)) numbers ≡ true) × FitAll fields more

-- a report whose fields' values have at most 32 bits takes any that fit, all of them in turn
abbrev pub TakesAll : ReportRecord → List ℕ → Type 0
TakesAll report bytes = IsFilled report → Each IsNarrow report.fields → (numbers : List (List ℤ))
    → FitAll report.fields numbers → IsOk (written_all report.fields numbers bytes)
