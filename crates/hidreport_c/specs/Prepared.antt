-- Fields prepared for reading many reports: values of one width and sign side by side (Section 5.8).
use Rattle.std.specs.Prelude.{◌≡◌, ◌≤◌, ◌^◌, ℕ, ℤ, ◌+◌, ◌*◌, ◌==◌, ◌&&◌, nat_lt, not, if◌then◌else◌}
use Rattle.std.specs.Prelude.{List, [], ◌∷◌, ◌++◌, length, take, map, flat_map, Option, None, Some, Result}
use Rattle.std.specs.Prelude.{Err}
use Rattle.hidreport.specs.Answer.{Refusal}
use Rattle.hidreport.specs.Runs.{RunRecord, runs_read, runs_written}
use Rattle.hidreport.specs.SameRuns.{SameRuns}
use Rattle.hidreport.specs.Spelling.{AreBytes}
use Rattle.hidreport.specs.WritingValues.{insert_refusal}
use Rattle.hidreport_c.specs.Answer.{array_after, counted, offset_of}
use Rattle.hidreport_c.specs.Insert.{insert_status, is_signed_in, width_of}
use Rattle.hidreport_c.specs.Reading.{numbers_in}
use Rattle.hidreport_c.specs.Status.{status_of}
use Rattle.hidreport_c.specs.Value.{id_of}
use Rattle.hidreport_c.specs.Writing.{report_written_at}
use Rattle.hidreport_c.specs.declared.structs.HidreportAnswer.{HidreportAnswer}
use Rattle.hidreport_c.specs.declared.structs.HidreportField.{HidreportField}
use Rattle.hidreport_c.specs.declared.structs.HidreportRun.{HidreportRun}

-- the bit behind the last of a run
abbrev pub end_of : HidreportRun → ℕ
end_of r = r.first_bit + r.element_width * r.value_count

-- a run of the caller's; one that ends past what 64 bits count has no bits
abbrev pub as_run : HidreportRun → RunRecord
as_run r = record {
  id = if r.has_report_id then Some r.report_id else None;
  first = r.first_bit;
  width = if nat_lt (end_of r) (2 ^ 64) then r.element_width else 0;
  count = r.value_count;
  is_signed = r.is_signed;
}

abbrev pub as_runs : List HidreportRun → List RunRecord
as_runs runs = map as_run runs

-- what a field's values are read by; what has neither values nor an id, as padding, is none
abbrev pub run_of_field : HidreportField → List RunRecord
run_of_field f =
    if (f.value_count == 0) && not f.has_report_id then []
    else (record {
      id = id_of f;
      first = f.first_bit;
      width = width_of f;
      count = f.value_count;
      is_signed = is_signed_in f;
    } ∷ [])

-- the runs of fields, one each but for padding
abbrev pub runs_of_fields : List HidreportField → List RunRecord
runs_of_fields fields = flat_map run_of_field fields

-- an answer that is refused by a field's place or id, and the number of its refusal
pub record IsRefused (status : ℕ) (answer : Result (List ℤ) Refusal) : Type 0 where
  pub refusal : Refusal
  pub is : answer ≡ Err refusal
  pub told : status ≡ status_of refusal
  pub place : offset_of refusal ≡ 0
  pub same : insert_status (insert_refusal refusal) ≡ status_of refusal

-- a run that isn't written yet
abbrev pub held : Option HidreportRun → List HidreportRun
held None = []
held (Some run) = run ∷ []

-- what so many fields are read by: runs that are written, as far as there is room, and one that isn't yet
pub record IsSoFar (fields : List HidreportField) (i : ℕ) (last : Option HidreportRun)
    (old new : List HidreportRun) (done : ℕ) : Type 0 where
  pub made : List HidreportRun
  pub count : done ≡ length made
  pub written : new ≡ array_after made old
  pub few : length made + length (held last) ≤ i
  pub same : SameRuns (as_runs made ++ as_runs (held last)) (runs_of_fields (take i fields))

-- runs that read and write what fields do: how many there are is told, and as many are written as
-- there is room for
pub record IsPrepared (fields : List HidreportField) (old new : List HidreportRun)
    (told : HidreportAnswer) : Type 0 where
  pub runs : List HidreportRun
  pub count : told ≡ counted (length runs)
  pub written : new ≡ array_after runs old
  pub few : length runs ≤ length fields
  pub reads : (bytes : List ℕ) → runs_read (as_runs runs) bytes ≡ numbers_in fields bytes
  pub writes : (numbers : List ℤ) (bytes : List ℕ) → AreBytes bytes
      → runs_written (as_runs runs) numbers bytes ≡ report_written_at fields numbers bytes
