-- All values of a report written at once: room for them, refusals, and fields that were described.
use Rattle.std.proofs.Common.{◌≡◌, ℕ, ℤ, ◌+◌, ◌-◌, Bool, true, false}
use Rattle.std.proofs.Common.{cond, ◌&&◌, ◌||◌, ◌==◌, List, [], ◌∷◌, length, take, drop, map, Option}
use Rattle.std.proofs.Common.{Result, Ok, Err, IsOk, OnOk, refl, sym, ap, subst, ◌∙◌, arith}
use Rattle.std.specs.Prelude.{sum_by}
use Rattle.std.specs.List.{list_all, list_any}
use Rattle.std.proofs.lemmas.List.Sums.{sum_by-cons}
use Rattle.hidreport_fields.proofs.PutValuesLemmas.{put-none}
use Rattle.hidreport.proofs.ReportWriteLemmas.{report-laws}
use Rattle.hidreport.proofs.WholeLemmas.{put-are}
use Rattle.hidreport.specs.Answer.{Refusal}
use Rattle.hidreport.specs.Reader.{before_numbers, report_numbers}
use Rattle.hidreport.specs.Reading.{ValueRecord, element_width, is_signed}
use Rattle.hidreport.specs.Records.{FieldRecord, VariableRecord, ArrayRecord, ConstantRecord}
use Rattle.hidreport.specs.ReportWriting.{IsReportWritten, all_fit, all_placed, begins_in_own_id}
use Rattle.hidreport.specs.ReportWriting.{put_all, report_written}
use Rattle.hidreport.specs.Spelling.{AreBytes}
use Rattle.hidreport.specs.Tiling.{Each}
use Rattle.hidreport.specs.WritingValues.{begins_in_id, fits, put, value_count}
use Rattle.hidreport.specs.WritingValues.{where_read}
use Rattle.hidreport_fields.specs.declared.field.insert_error.InsertError.{InsertError}
use Rattle.hidreport_fields.specs.declared.field.insert_error.InsertError.TheVariants as refused
use Rattle.hidreport_c.proofs.InsertLemmas.{IsPlain, values-plain, values-wide, values-within}
use Rattle.hidreport_c.proofs.ReadDescribedLemmas.{listed-read, same-id}
use Rattle.hidreport_c.specs.Field.{as_c}
use Rattle.hidreport_c.specs.Insert.{Places, bytes_after, status_after}
use Rattle.hidreport_c.specs.Reading.{numbers_in}
use Rattle.hidreport_c.specs.Status.{by_status, status_of}
use Rattle.hidreport_c.specs.Value.{acceptance, value_numbers, values_at}
use Rattle.hidreport_c.specs.Writing.{HasRoomAt, IsNarrowAt, all_fit_at, all_placed_at}
use Rattle.hidreport_c.specs.Writing.{begins_in_own_id_at, count_at, put_all_at, report_written_at}
use Rattle.hidreport_c.specs.declared.structs.HidreportField.{HidreportField}

-- each field reads what is read as a whole
both-ok : (a b : Result (List ℤ) Refusal) → IsOk (before_numbers a b) → (IsOk a) × (IsOk b)
both-ok (Err e) b ok = cc
both-ok (Ok xs) (Err e) ok = cc
both-ok (Ok xs) (Ok ys) ok = (refl, refl)

values-ok : (r : Result (List ValueRecord) Refusal) → IsOk (value_numbers r) → IsOk r
values-ok (Ok xs) ok = refl
values-ok (Err e) ok = cc

room-one : (f : HidreportField) (bytes : List ℕ) → IsOk (values_at f bytes)
    → HasRoomAt (length bytes) f
room-one f bytes ok = (
  λ some. values-wide f bytes f.value_count refl ok some,
  λ some. values-within f bytes f.value_count refl ok some,
)

room-of-all : (fields : List HidreportField) (bytes : List ℕ) → IsOk (numbers_in fields bytes)
    → Each (HasRoomAt (length bytes)) fields
room-of-all [] bytes ok = tt
room-of-all (f ∷ fields) bytes ok =
    let parts = both-ok (value_numbers (values_at f bytes)) (numbers_in fields bytes) ok in
    (room-one f bytes (values-ok (values_at f bytes) parts.0), room-of-all fields bytes parts.1)

ok-by : {A : Type 0} (a : Result A Refusal) → Ok tt ≡ by_status (acceptance a) → IsOk a
ok-by (Ok x) h = refl
ok-by (Err e) h = cc

-- what is accepted has room
accepted-room : (fields : List HidreportField) (bytes : List ℕ)
    → Ok tt ≡ by_status (acceptance (numbers_in fields bytes))
    → Each (HasRoomAt (length bytes)) fields
accepted-room fields bytes h = room-of-all fields bytes (ok-by (numbers_in fields bytes) h)

pub room-on : (r : Result (Unit {0}) ℕ) (fields : List HidreportField) (bytes : List ℕ)
    → r ≡ by_status (acceptance (numbers_in fields bytes))
    → OnOk r (Each (HasRoomAt (length bytes)) fields)
room-on (Ok done) fields bytes h = accepted-room fields bytes h
room-on (Err status) fields bytes h = tt

pub room-narrow : (bytes : ℕ) (fields : List HidreportField) → Each (HasRoomAt bytes) fields
    → Each IsNarrowAt fields
room-narrow bytes [] room = tt
room-narrow bytes (f ∷ fields) room = (room.0.0, room-narrow bytes fields room.1)

-- numbers are refused as values are
numbers-plain : (r : Result (List ValueRecord) Refusal) → IsPlain r → IsPlain (value_numbers r)
numbers-plain (Ok xs) plain = tt
numbers-plain (Err e) plain = plain

before-plain : (a b : Result (List ℤ) Refusal) → IsPlain a → IsPlain b
    → IsPlain (before_numbers a b)
before-plain (Err e) b one more = one
before-plain (Ok xs) (Err e) one more = more
before-plain (Ok xs) (Ok ys) one more = tt

all-plain : (fields : List HidreportField) (bytes : List ℕ) → IsPlain (numbers_in fields bytes)
all-plain [] bytes = tt
all-plain (f ∷ fields) bytes =
    before-plain (value_numbers (values_at f bytes)) (numbers_in fields bytes)
    (numbers-plain (values_at f bytes) (values-plain f bytes)) (all-plain fields bytes)

refused-by : (a : Result (List ℤ) Refusal) (x : Result (List ℕ) InsertError) (old : List ℕ)
    (status : ℕ) → IsPlain a → Err status ≡ by_status (acceptance a)
    → (status ≡ status_after (where_read a x)) × (old ≡ bytes_after (where_read a x) old)
refused-by (Ok y) x old status plain h = cc
refused-by (Err e) x old status plain h =
    let is : status ≡ status_of e = cc in (is ∙ sym plain, refl)

pub unread-refused : (fields : List HidreportField) (numbers : List ℤ) (bytes : List ℕ)
    (status : ℕ) → (length numbers == count_at fields) ≡ true
    → Err status ≡ by_status (acceptance (numbers_in fields bytes))
    → Places (Err status) bytes bytes (report_written_at fields numbers bytes)
unread-refused fields numbers bytes status t h =
    let x = all_placed_at fields numbers bytes in
    subst (λ b. Places (Err status) bytes bytes
    (cond b (where_read (numbers_in fields bytes) x) (Err refused.WrongCount))) (sym t)
    (refused-by (numbers_in fields bytes) x bytes status (all-plain fields bytes) h)

pub miscounted : (fields : List HidreportField) (numbers : List ℤ) (bytes : List ℕ)
    → (length numbers == count_at fields) ≡ false
    → Places (Err 8) bytes bytes (report_written_at fields numbers bytes)
miscounted fields numbers bytes t =
    let x = where_read (numbers_in fields bytes) (all_placed_at fields numbers bytes) in
    subst (λ b. Places (Err 8) bytes bytes (cond b x (Err refused.WrongCount))) (sym t) (refl, refl)

-- bytes that are read are written as the fields are placed
read-by : (a : Result (List ℤ) Refusal) (x : Result (List ℕ) InsertError)
    → Ok tt ≡ by_status (acceptance a) → where_read a x ≡ x
read-by (Ok y) x h = refl
read-by (Err e) x h = cc

pub read-written : (fields : List HidreportField) (numbers : List ℤ) (bytes : List ℕ)
    → (length numbers == count_at fields) ≡ true
    → Ok tt ≡ by_status (acceptance (numbers_in fields bytes))
    → report_written_at fields numbers bytes ≡ all_placed_at fields numbers bytes
read-written fields numbers bytes t h =
    let x = all_placed_at fields numbers bytes in
    ap (λ b. cond b (where_read (numbers_in fields bytes) x) (Err refused.WrongCount)) t
    ∙ read-by (numbers_in fields bytes) x h

pub placed-in-id : (fields : List HidreportField) (numbers : List ℤ) (bytes : List ℕ)
    → list_any begins_in_own_id_at fields ≡ true
    → all_placed_at fields numbers bytes ≡ Err refused.OutOfBounds
placed-in-id fields numbers bytes in_id =
    ap (λ b. cond b (Err refused.OutOfBounds) (cond (all_fit_at fields numbers)
    (Ok (put_all_at fields numbers bytes)) (Err refused.DoesNotFit))) in_id

pub placed-by-fit : (fields : List HidreportField) (numbers : List ℤ) (bytes : List ℕ) (fit : Bool)
    → list_any begins_in_own_id_at fields ≡ false → all_fit_at fields numbers ≡ fit
    → all_placed_at fields numbers bytes
    ≡ cond fit (Ok (put_all_at fields numbers bytes)) (Err refused.DoesNotFit)
placed-by-fit fields numbers bytes fit away is =
    ap (λ b. cond b (Err refused.OutOfBounds) (cond (all_fit_at fields numbers)
    (Ok (put_all_at fields numbers bytes)) (Err refused.DoesNotFit))) away
    ∙ ap (λ b. cond b (Ok (put_all_at fields numbers bytes)) (Err refused.DoesNotFit)) is

-- fields that were described have as many values, and hold and put the same
same-count : (read : List FieldRecord) → count_at (map as_c read) ≡ sum_by value_count read
same-count [] = refl
same-count (f ∷ read) =
    sum_by-cons (λ (g : HidreportField). g.value_count) (as_c f) (map as_c read)
    ∙ ap (λ n. n + count_at (map as_c read)) (same-one f)
    ∙ ap (λ n. value_count f + n) (same-count read)
    ∙ sym (sum_by-cons value_count f read) where
      same-one : (f : FieldRecord) → (as_c f).value_count ≡ value_count f
      same-one (VariableRecord place usage shared) = refl
      same-one (ArrayRecord place usages is_range count shared) = refl
      same-one (ConstantRecord place) = refl

same-fit : (read : List FieldRecord) (numbers : List ℤ)
    → all_fit_at (map as_c read) numbers ≡ all_fit read numbers
same-fit [] numbers = refl
same-fit (VariableRecord place usage shared ∷ read) numbers =
    let width : element_width place.first place.«end» 1 ≡ place.«end» - place.first = omega arith in
    ap (λ w. list_all (fits w (is_signed shared)) (take 1 numbers)
    && all_fit_at (map as_c read) (drop 1 numbers)) width
    ∙ ap (λ b. list_all (fits (place.«end» - place.first) (is_signed shared)) (take 1 numbers) && b)
    (same-fit read (drop 1 numbers))
same-fit (ArrayRecord place usages is_range count shared ∷ read) numbers =
    ap (λ b. list_all (fits (element_width place.first place.«end» count) (is_signed shared))
    (take count numbers) && b) (same-fit read (drop count numbers))
same-fit (ConstantRecord place ∷ read) numbers = same-fit read numbers

same-put : (read : List FieldRecord) (numbers : List ℤ) (bytes : List ℕ) → AreBytes bytes
    → put_all_at (map as_c read) numbers bytes ≡ put_all read numbers bytes
same-put [] numbers bytes are = refl
same-put (VariableRecord place usage shared ∷ read) numbers bytes are =
    let width : element_width place.first place.«end» 1 ≡ place.«end» - place.first = omega arith in
    let w = place.«end» - place.first in
    ap (λ v. put_all_at (map as_c read) (drop 1 numbers) (put place.first v (take 1 numbers) bytes))
    width
    ∙ same-put read (drop 1 numbers) (put place.first w (take 1 numbers) bytes)
    (put-are place.first w (take 1 numbers) bytes)
same-put (ArrayRecord place usages is_range count shared ∷ read) numbers bytes are =
    let w = element_width place.first place.«end» count in
    same-put read (drop count numbers) (put place.first w (take count numbers) bytes)
    (put-are place.first w (take count numbers) bytes)
same-put (ConstantRecord place ∷ read) numbers bytes are =
    ap (put_all_at (map as_c read) numbers)
    (put-none place.first (element_width place.first place.«end» 0) bytes are)
    ∙ same-put read numbers bytes are
    ∙ sym (ap (put_all read numbers) (put-none place.first 0 bytes are))

same-in-id : (read : List FieldRecord)
    → list_any begins_in_own_id_at (map as_c read) ≡ list_any begins_in_own_id read
same-in-id [] = refl
same-in-id (f ∷ read) =
    ap (λ b. b || list_any begins_in_own_id_at (map as_c read)) (one f)
    ∙ ap (λ b. begins_in_own_id f || b) (same-in-id read) where
      one : (f : FieldRecord) → begins_in_own_id_at (as_c f) ≡ begins_in_own_id f
      one (VariableRecord place usage shared) =
          ap (λ (i : Option ℕ). begins_in_id i place.first) (same-id (VariableRecord place usage shared))
      one (ArrayRecord place usages is_range count shared) =
          ap (λ (i : Option ℕ). begins_in_id i place.first)
          (same-id (ArrayRecord place usages is_range count shared))
      one (ConstantRecord place) = refl

same-placed : (read : List FieldRecord) (numbers : List ℤ) (bytes : List ℕ) → AreBytes bytes
    → all_placed_at (map as_c read) numbers bytes ≡ all_placed read numbers bytes
same-placed read numbers bytes are =
    let fields = map as_c read in
    ap (λ b. cond b (Err refused.OutOfBounds) (cond (all_fit_at fields numbers)
    (Ok (put_all_at fields numbers bytes)) (Err refused.DoesNotFit))) (same-in-id read)
    ∙ ap (λ b. cond (list_any begins_in_own_id read) (Err refused.OutOfBounds)
    (cond b (Ok (put_all_at fields numbers bytes)) (Err refused.DoesNotFit))) (same-fit read numbers)
    ∙ ap (λ l. cond (list_any begins_in_own_id read) (Err refused.OutOfBounds)
    (cond (all_fit read numbers) (Ok l) (Err refused.DoesNotFit))) (same-put read numbers bytes are)

pub described-written : (fields : List HidreportField) (read : List FieldRecord)
    (numbers : List ℤ) (bytes : List ℕ) → AreBytes bytes → fields ≡ map as_c read
    → report_written_at fields numbers bytes ≡ report_written read numbers bytes
described-written fields read numbers bytes are is =
    let own = map as_c read in
    ap (λ l. report_written_at l numbers bytes) is
    ∙ ap (λ n. cond (length numbers == n) (where_read (numbers_in own bytes)
    (all_placed_at own numbers bytes)) (Err refused.WrongCount)) (same-count read)
    ∙ ap (λ r. cond (length numbers == sum_by value_count read) (where_read r
    (all_placed_at own numbers bytes)) (Err refused.WrongCount)) (listed-read read bytes)
    ∙ ap (λ p. cond (length numbers == sum_by value_count read)
    (where_read (report_numbers read bytes) p) (Err refused.WrongCount))
    (same-placed read numbers bytes are)

-- the laws of a write to fields that were described
pub all-report-laws : (fields : List HidreportField) (read : List FieldRecord) (numbers : List ℤ)
    (old new : List ℕ) → AreBytes old → fields ≡ map as_c read
    → report_written_at fields numbers old ≡ Ok new → IsReportWritten read numbers old new
all-report-laws fields read numbers old new are is h =
    report-laws read numbers old new are (sym (described-written fields read numbers old are is) ∙ h)
