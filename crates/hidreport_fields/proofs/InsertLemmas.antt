-- The laws of a write, by its definition.
use Rattle.std.proofs.Common.{◌≡◌, ◌≢◌, ℕ, ℤ, Bool, List, Result, Ok, Err, OnOk}
use Rattle.hidreport_items.specs.Spelling.{AreBytes}
use Rattle.hidreport_fields.specs.Reading.{reads_element}
use Rattle.hidreport_fields.specs.Records.{ArrayRecord, Attributes, FieldPlace, FieldRecord}
use Rattle.hidreport_fields.specs.WritingValues.{Inserts, written, written_element}
use Rattle.hidreport_fields.specs.WritingLaws.{IsElementWritten, IsWritten, number_in, reads_numbers}
use Rattle.hidreport_fields.specs.declared.field.insert_error.InsertError.{InsertError}
use Rattle.hidreport_fields.specs.declared.field.insert_error.InsertError.TheVariants as refused
use Rattle.hidreport_fields.specs.declared.field.usage.Usage.{Usage}
use Rattle.hidreport_fields.proofs.AgainLemmas.{again, again-element}
use Rattle.hidreport_fields.proofs.IsElementLemmas.{is-element-written}
use Rattle.hidreport_fields.proofs.IsWrittenLemmas.{is-written}

pub laws-of : (field : FieldRecord) (numbers : List ℤ) (old new : List ℕ)
    (result : Result (Unit {0}) InsertError) → (result ≢ Err refused.WrongCount → AreBytes old)
    → Inserts result old new (written field numbers old)
    → OnOk result (IsWritten field numbers old new)
laws-of field numbers old new (Ok done) known h =
    is-written field numbers old new (known (λ e. cc)) h
laws-of field numbers old new (Err e) known h = tt

pub again-of : (field : FieldRecord) (numbers : List ℤ) (old new : List ℕ)
    (result : Result (Unit {0}) InsertError) → (result ≢ Err refused.WrongCount → AreBytes old)
    → Inserts result old new (written field numbers old) → reads_numbers field old ≡ Ok numbers
    → (new ≡ old) × (result ≢ Err refused.DoesNotFit)
again-of field numbers old new (Ok done) known h read =
    again field numbers old new (Ok done) (known (λ e. cc)) h read
again-of field numbers old new (Err refused.OutOfBounds) known h read = (h.1, λ e. cc)
again-of field numbers old new (Err refused.MismatchingReportId) known h read = (h.1, λ e. cc)
again-of field numbers old new (Err refused.DoesNotFit) known h read =
    again field numbers old new (Err refused.DoesNotFit) (known (λ e. cc)) h read
again-of field numbers old new (Err refused.WrongCount) known h read = (h.1, λ e. cc)

pub element-laws-of : (place : FieldPlace) (usages : List Usage) (is_range : Bool) (count : ℕ)
    (shared : Attributes) (index : ℕ) (number : ℤ) (old new : List ℕ)
    (result : Result (Unit {0}) InsertError) → (result ≢ Err refused.OutOfBounds → AreBytes old)
    → Inserts result old new
    (written_element (ArrayRecord place usages is_range count shared) index number old)
    → OnOk result
    (IsElementWritten (ArrayRecord place usages is_range count shared) index number old new)
element-laws-of place usages is_range count shared index number old new (Ok done) known h =
    is-element-written place usages is_range count shared index number old new (known (λ e. cc)) h
element-laws-of place usages is_range count shared index number old new (Err e) known h = tt

pub element-again-of : (place : FieldPlace) (usages : List Usage) (is_range : Bool) (count : ℕ)
    (shared : Attributes) (index : ℕ) (number : ℤ) (old new : List ℕ)
    (result : Result (Unit {0}) InsertError) → (result ≢ Err refused.OutOfBounds → AreBytes old)
    → Inserts result old new
    (written_element (ArrayRecord place usages is_range count shared) index number old)
    → number_in (reads_element (ArrayRecord place usages is_range count shared) old index) ≡ Ok number
    → (new ≡ old) × (result ≢ Err refused.DoesNotFit)
element-again-of place usages is_range count shared index number old new (Ok done) known h read =
    again-element place usages is_range count shared index number old new (Ok done)
    (known (λ e. cc)) h read
element-again-of place usages is_range count shared index number old new (Err refused.OutOfBounds)
    known h read = (h.1, λ e. cc)
element-again-of place usages is_range count shared index number old new
    (Err refused.MismatchingReportId) known h read = (h.1, λ e. cc)
element-again-of place usages is_range count shared index number old new (Err refused.DoesNotFit)
    known h read =
    again-element place usages is_range count shared index number old new (Err refused.DoesNotFit)
    (known (λ e. cc)) h read
element-again-of place usages is_range count shared index number old new (Err refused.WrongCount)
    known h read = (h.1, λ e. cc)
