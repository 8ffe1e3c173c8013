-- The low 32 bits of values that have more (Section 5.8), which are what hosts read of them.
use Rattle.std.specs.Prelude.{◌≡◌, ◌+◌, ◌-◌, ◌*◌, ◌≤◌, ℕ, nat_lt, List, [], ◌∷◌, length}
use Rattle.std.specs.Prelude.{if◌then◌else◌, IsOk, Ok}
use Rattle.hidreport_fields.specs.Reading.{element_width, with_id}
use Rattle.hidreport_fields.specs.Records.{ArrayRecord, ConstantRecord, FieldPlace, FieldRecord}
use Rattle.hidreport_fields.specs.Records.{ReportRecord, VariableRecord}
use Rattle.hidreport_fields.specs.Tiling.{IsFilled}
use Rattle.hidreport.specs.Fields.{each_from}
use Rattle.hidreport.specs.Runs.{RunRecord, place_in, runs_read}

-- 32 bits from this bit on, of the same report
abbrev pub low_place : FieldPlace → ℕ → FieldPlace
low_place place first = record place { first = first; end = first + 32 }

-- a field, or, where its values have more than 32 bits, a field of the low 32 of each
abbrev pub low_fields : FieldRecord → List FieldRecord
low_fields (VariableRecord place usage shared) =
    if nat_lt 32 (place.end - place.first)
    then VariableRecord (low_place place place.first) usage shared ∷ []
    else VariableRecord place usage shared ∷ []
low_fields (ArrayRecord place usages is_range count shared) =
    let width = element_width place.first place.end count in
    if nat_lt 32 width
    then each_from (λ index. ArrayRecord (low_place place (place.first + width * index)) usages
    is_range 1 shared) 0 count
    else ArrayRecord place usages is_range count shared ∷ []
low_fields (ConstantRecord place) = ConstantRecord place ∷ []

-- the low bits of the value of a run at an index
abbrev pub low_run : RunRecord → ℕ → RunRecord
low_run run index = record {
  id = run.id;
  first = place_in run index;
  width = 32;
  count = 1;
  is_signed = run.is_signed;
}

-- a run, or those of the low bits of its values
abbrev pub low_runs : RunRecord → List RunRecord
low_runs run =
    if nat_lt 32 run.width then each_from (low_run run) 0 run.count else run ∷ []

-- bytes of a report that fields fill, as many as it has and with its id, have all values
abbrev pub IsReadWhole : ReportRecord → List RunRecord → Type 0
IsReadWhole report runs = IsFilled report → (bytes : List ℕ) → report.size ≤ 8 * length bytes
    → with_id report.id bytes (Ok (tt {0})) ≡ Ok (tt {0}) → IsOk (runs_read runs bytes)
