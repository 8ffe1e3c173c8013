-- Fields that were described, read by their descriptions.
use Rattle.std.proofs.Common.{◌≡◌, ℕ, ℤ, Bool, cond, ◌||◌, List, [], ◌∷◌, ◌++◌, map}
use Rattle.std.proofs.Common.{Result, Ok, Err, refl, ap, ◌∙◌}
use Rattle.std.specs.List.{list_any}
use Rattle.hidreport.specs.Answer.{Refusal, MismatchingReportId}
use Rattle.hidreport.specs.Reader.{available_numbers, before_numbers, begins_otherwise, each_alone}
use Rattle.hidreport.specs.Reader.{numbers_before, report_numbers, value_alone, values_alone}
use Rattle.hidreport.specs.Reading.{ValueRecord, before_values, element, is_signed, reads}
use Rattle.hidreport.specs.Reading.{values_of, with_id}
use Rattle.hidreport.specs.Records.{FieldRecord, VariableRecord, ArrayRecord, ConstantRecord}
use Rattle.hidreport.specs.Records.{own_id}
use Rattle.hidreport.specs.WritingLaws.{numbers_of, reads_numbers}
use Rattle.hidreport.specs.WritingValues.{value_count}
use Rattle.hidreport_c.proofs.ValueLemmas.{element-of_one, id-again}
use Rattle.hidreport_c.proofs.WrittenLemmas.{one-read}
use Rattle.hidreport_c.specs.Field.{as_c}
use Rattle.hidreport_c.specs.Reading.{alone_at, alone_in, available_in, numbers_in}
use Rattle.hidreport_c.specs.Value.{id_of, value_numbers, values_at}
use Rattle.hidreport_c.specs.declared.structs.HidreportField.{HidreportField}

values-described : (f : FieldRecord) (bytes : List ℕ) → values_at (as_c f) bytes ≡ reads f bytes
values-described (VariableRecord place usage shared) bytes =
    let s = is_signed shared in
    ap (λ id. with_id id bytes (before_values (element place.first place.end 1 s bytes 0) (Ok [])))
    (id-again place.report_id)
    ∙ ap (with_id place.report_id bytes) (one-read place s bytes)
values-described (ArrayRecord place usages is_range count shared) bytes =
    ap (λ id. with_id id bytes (values_of (ArrayRecord place usages is_range count shared) bytes))
    (id-again place.report_id)
values-described (ConstantRecord place) bytes = refl

same-numbers : (r : Result (List ValueRecord) Refusal) → value_numbers r ≡ numbers_of r
same-numbers (Ok vs) = refl
same-numbers (Err e) = refl

pub listed-read : (read : List FieldRecord) (bytes : List ℕ)
    → numbers_in (map as_c read) bytes ≡ report_numbers read bytes
listed-read [] bytes = refl
listed-read (f ∷ read) bytes =
    let one : value_numbers (values_at (as_c f) bytes) ≡ reads_numbers f bytes =
    same-numbers (values_at (as_c f) bytes) ∙ ap numbers_of (values-described f bytes) in
    ap (λ a. before_numbers a (numbers_in (map as_c read) bytes)) one
    ∙ ap (before_numbers (reads_numbers f bytes)) (listed-read read bytes)

pub described_read : (fields : List HidreportField) (read : List FieldRecord) (bytes : List ℕ)
    → fields ≡ map as_c read → numbers_in fields bytes ≡ report_numbers read bytes
described_read fields read bytes is = ap (λ l. numbers_in l bytes) is ∙ listed-read read bytes

pub same-id : (f : FieldRecord) → id_of (as_c f) ≡ own_id f
same-id (VariableRecord place usage shared) = id-again place.report_id
same-id (ArrayRecord place usages is_range count shared) = id-again place.report_id
same-id (ConstantRecord place) = refl

alone-described : (f : FieldRecord) (bytes : List ℕ)
    → alone_at (as_c f) bytes ≡ each_alone (value_alone f bytes) 0 (value_count f)
alone-described (VariableRecord place usage shared) bytes =
    ap (λ v. v ∷ []) (element-of_one place.first place.end (is_signed shared) bytes)
alone-described (ArrayRecord place usages is_range count shared) bytes = refl
alone-described (ConstantRecord place) bytes = refl

listed-alone : (read : List FieldRecord) (bytes : List ℕ)
    → alone_in (map as_c read) bytes ≡ values_alone read bytes
listed-alone [] bytes = refl
listed-alone (f ∷ read) bytes =
    ap (λ l. l ++ alone_in (map as_c read) bytes) (alone-described f bytes)
    ∙ ap (λ l. each_alone (value_alone f bytes) 0 (value_count f) ++ l) (listed-alone read bytes)

abbrev otherwise : List ℕ → HidreportField → Bool
otherwise bytes f = begins_otherwise bytes (id_of f)

abbrev otherwise_in : List ℕ → FieldRecord → Bool
otherwise_in bytes f = begins_otherwise bytes (own_id f)

same-any : (read : List FieldRecord) (bytes : List ℕ)
    → list_any (otherwise bytes) (map as_c read) ≡ list_any (otherwise_in bytes) read
same-any [] bytes = refl
same-any (f ∷ read) bytes =
    ap (λ id. begins_otherwise bytes id || list_any (otherwise bytes) (map as_c read)) (same-id f)
    ∙ ap (λ b. begins_otherwise bytes (own_id f) || b) (same-any read bytes)

abbrev test : Bool → List ℤ → Result (List ℤ) Refusal
test b numbers = cond b (Err MismatchingReportId) (Ok numbers)

pub described_available : (fields : List HidreportField) (read : List FieldRecord)
    (bytes : List ℕ) → fields ≡ map as_c read
    → available_in fields bytes ≡ available_numbers read bytes
described_available fields read bytes is =
    ap (λ l. available_in l bytes) is
    ∙ ap (λ b. test b (numbers_before (alone_in (map as_c read) bytes))) (same-any read bytes)
    ∙ ap (λ l. test (list_any (otherwise_in bytes) read) (numbers_before l))
    (listed-alone read bytes)
