-- What a reader keeps of a report: runs of values side by side (Section 5.8).
use Rattle.std.specs.Prelude.{◌≡◌, ◌≢◌, ◌⊎◌, ◌<◌, ◌≤◌, ℕ, ℤ, zero, suc, ◌+◌, ◌-◌, ◌*◌, ◌==◌, ◌&&◌, ◌||◌, nat_lt, nat_le}
use Rattle.std.specs.Prelude.{Bool, List, [], ◌∷◌, Option, None, Result, Ok, Err, if◌then◌else◌, length, sum_by, flat_map}
use Rattle.std.specs.Prelude.{slice_set, take, drop, true}
use Rattle.std.specs.List.{list_all, list_any}
use Rattle.hidreport_items.specs.Spelling.{AreBytes}
use Rattle.hidreport_lists.specs.Answer.{Refusal, MismatchingReportId}
use Rattle.hidreport_fields.specs.BitValue.{value}
use Rattle.hidreport.specs.Reader.{available_numbers, before_numbers, begins_otherwise, each_alone}
use Rattle.hidreport.specs.Reader.{numbers_before, report_numbers}
use Rattle.hidreport_fields.specs.Reading.{ValueRecord, each_value, element_width, is_signed, read_bits}
use Rattle.hidreport_fields.specs.Reading.{with_id}
use Rattle.hidreport_fields.specs.Records.{FieldRecord, VariableRecord, ArrayRecord, ConstantRecord}
use Rattle.hidreport.specs.ReportWriting.{report_written}
use Rattle.hidreport_fields.specs.WritingLaws.{numbers_of}
use Rattle.hidreport_fields.specs.WritingValues.{begins_in_id, fits, put, value_count, where_read}
use Rattle.hidreport_fields.specs.declared.field.insert_error.InsertError.{InsertError}
use Rattle.hidreport_fields.specs.declared.field.insert_error.InsertError.TheVariants as refused

-- so many values of one width from a bit on, and the id that they are read by
pub record RunRecord : Type 0 where
  pub id : Option ℕ
  pub first : ℕ
  pub width : ℕ
  pub count : ℕ
  pub is_signed : Bool

-- a field's values; padding has none
abbrev pub run_of : FieldRecord → List RunRecord
run_of (VariableRecord place usage shared) = record {
  id = place.report_id;
  first = place.first;
  width = place.end - place.first;
  count = 1;
  is_signed = is_signed shared;
} ∷ []
run_of (ArrayRecord place usages is_range count shared) = record {
  id = place.report_id;
  first = place.first;
  width = element_width place.first place.end count;
  count = count;
  is_signed = is_signed shared;
} ∷ []
run_of (ConstantRecord place) = []

-- the runs of fields, one each but for padding
abbrev pub runs_of : List FieldRecord → List RunRecord
runs_of fields = flat_map run_of fields

-- where value `index` begins
abbrev pub place_in : RunRecord → ℕ → ℕ
place_in run index = run.first + run.width * index

-- the value at an index
abbrev pub run_value : RunRecord → List ℕ → ℕ → Result ValueRecord Refusal
run_value run bytes index =
    read_bits (place_in run index) (place_in run index + run.width) run.is_signed bytes

-- the numbers of a run, or why there are none
abbrev pub run_reads : RunRecord → List ℕ → Result (List ℤ) Refusal
run_reads run bytes =
    numbers_of (with_id run.id bytes (each_value (run_value run bytes) 0 run.count))

-- the numbers that all runs read, or the first refusal
abbrev pub runs_read : List RunRecord → List ℕ → Result (List ℤ) Refusal
runs_read [] bytes = Ok []
runs_read (run ∷ runs) bytes = before_numbers (run_reads run bytes) (runs_read runs bytes)

-- the values of runs, each by itself
abbrev pub runs_alone : List RunRecord → List ℕ → List (Result ValueRecord Refusal)
runs_alone runs bytes = flat_map (λ run. each_alone (run_value run bytes) 0 run.count) runs

-- the numbers of runs up to the first that isn't there
abbrev pub runs_available : List RunRecord → List ℕ → Result (List ℤ) Refusal
runs_available runs bytes =
    if list_any (λ (run : RunRecord). begins_otherwise bytes run.id) runs then Err MismatchingReportId
    else Ok (numbers_before (runs_alone runs bytes))

-- all values of a run have some bits, at most 32, and lie in so many
abbrev pub is_inside : RunRecord → ℕ → Bool
is_inside run room = (run.count == 0) || (nat_lt 0 run.width && (nat_le run.width 32
    && nat_le (place_in run run.count) room))

-- the number at an index, where its bits are there
abbrev pub number_at : RunRecord → List ℕ → ℕ → ℤ
number_at run bytes index = value bytes (place_in run index) run.width run.is_signed

-- so many numbers from an index on
abbrev pub numbers_from : RunRecord → List ℕ → ℕ → ℕ → List ℤ
numbers_from run bytes index zero = []
numbers_from run bytes index (suc more) =
    number_at run bytes index ∷ numbers_from run bytes (index + 1) more

-- the numbers in their bits, whatever they are
abbrev pub all_numbers : List RunRecord → List ℕ → List ℤ
all_numbers runs bytes = flat_map (λ run. numbers_from run bytes 0 run.count) runs

-- how many values runs have
abbrev pub count_in : List RunRecord → ℕ
count_in runs = sum_by (λ (run : RunRecord). run.count) runs

-- values that there are have some bits, at most 32
abbrev pub HasNarrowValues : RunRecord → Type 0
HasNarrowValues run = run.count ≢ 0 → (0 < run.width) × (run.width ≤ 32)

-- one run goes on where another ends, and this has the values of both
pub record Joins (front back run : RunRecord) : Type 0 where
  pub id : back.id ≡ front.id
  pub width : back.width ≡ front.width
  pub is_signed : back.is_signed ≡ front.is_signed
  pub first : back.first ≡ place_in front front.count
  pub is : run ≡ record {
    id = front.id;
    first = front.first;
    width = front.width;
    count = front.count + back.count;
    is_signed = front.is_signed;
  }

-- bytes of this report have all values of a run
pub record HasAllValues (bytes : List ℕ) (run : RunRecord) : Type 0 where
  pub own : with_id run.id bytes (Ok (tt {0})) ≡ Ok (tt {0})
  pub inside : is_inside run (8 * length bytes) ≡ true

-- so have as many bytes as this that begin with the id, where there is one
pub record IsPlain (id : Option ℕ) (bytes : ℕ) (run : RunRecord) : Type 0 where
  pub own : (run.id ≡ None) ⊎ (run.id ≡ id)
  pub inside : is_inside run (8 * bytes) ≡ true

-- a run begins in the byte of the id that it is read by
abbrev pub run_in_id : RunRecord → Bool
run_in_id run = begins_in_id run.id run.first

-- each run's bits hold its numbers
abbrev pub runs_fit : List RunRecord → List ℤ → Bool
runs_fit [] numbers = true
runs_fit (run ∷ runs) numbers =
    list_all (fits run.width run.is_signed) (take run.count numbers)
    && runs_fit runs (drop run.count numbers)

-- the bytes with the numbers of each run in place of its bits
abbrev pub runs_put : List RunRecord → List ℤ → List ℕ → List ℕ
runs_put [] numbers bytes = bytes
runs_put (run ∷ runs) numbers bytes = runs_put runs (drop run.count numbers)
    (put run.first run.width (take run.count numbers) bytes)

-- the same, where no run lies in the id and each number fits
abbrev pub runs_placed : List RunRecord → List ℤ → List ℕ → Result (List ℕ) InsertError
runs_placed runs numbers bytes = if list_any run_in_id runs then Err refused.OutOfBounds
    else (if runs_fit runs numbers then Ok (runs_put runs numbers bytes)
    else Err refused.DoesNotFit)

-- the bytes with these numbers, or why not
abbrev pub runs_written : List RunRecord → List ℤ → List ℕ → Result (List ℕ) InsertError
runs_written runs numbers bytes =
    if length numbers == count_in runs
    then where_read (runs_read runs bytes) (runs_placed runs numbers bytes)
    else Err refused.WrongCount

-- the runs read and write what these fields do
pub record StandFor (fields : List FieldRecord) (runs : List RunRecord) : Type 0 where
  pub reads : (bytes : List ℕ) → runs_read runs bytes ≡ report_numbers fields bytes
  pub has : (bytes : List ℕ) → runs_available runs bytes ≡ available_numbers fields bytes
  pub count : count_in runs ≡ sum_by value_count fields
  pub writes : (numbers : List ℤ) (bytes : List ℕ) → AreBytes bytes
      → runs_written runs numbers bytes ≡ report_written fields numbers bytes

-- numbers in place of the values from this one on, as far as there is room
abbrev pub set_from : ℕ → List ℤ → List ℤ → List ℤ
set_from place [] values = values
set_from place (number ∷ numbers) values =
    set_from (place + 1) numbers (slice_set values place number)
