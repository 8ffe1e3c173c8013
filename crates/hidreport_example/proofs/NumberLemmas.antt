-- The numbers of a report's fields, one after the other.
use Rattle.std.proofs.Common.{◌≡◌, ℕ, suc, ◌+◌, ◌<◌, List, [], ◌∷◌, ◌++◌, length, get_or, take}
use Rattle.std.proofs.Common.{drop, map, string_bytes, Result, Ok, Err, refl, sym, ap, ◌∙◌}
use Rattle.std.proofs.Common.{append-nil, append_assoc}
use Rattle.std.proofs.Math.Seq.{drop-cons}
use Rattle.std.proofs.lemmas.List.{map-append, map_more, take-append-drop}
use Rattle.std.specs.Prelude.{ℤ}
use Rattle.hidreport.specs.Answer.{Refusal, InvalidData, OutOfBounds, MismatchingReportId, BudgetExceeded, Refuses}
use Rattle.hidreport.specs.ParserError.{ParserError}
use Rattle.hidreport.specs.ParserError.TheVariants as errors
use Rattle.hidreport.specs.Views.{field_record}
use Rattle.hidreport_fields.specs.declared.field.Field.{Field}
use Rattle.hidreport.specs.Reader.{before_numbers}
use Rattle.hidreport.specs.Records.{FieldRecord}
use Rattle.hidreport_example.specs.Numbers.{numbers_at, numbers_of}

joined-parts : (r rest : Result (List ℤ) Refusal) (all : List ℤ) → before_numbers r rest ≡ Ok all
    → (ns : List ℤ) × (ms : List ℤ) × (r ≡ Ok ns) × (rest ≡ Ok ms) × (ns ++ ms ≡ all)
joined-parts (Ok ns) (Ok ms) all e = (ns, ms, refl, refl, cc)
joined-parts (Ok ns) (Err refusal) all e = cc
joined-parts (Err refusal) rest all e = cc

-- one more field at the end, and its numbers
numbers-more : (bytes : List ℕ) (fs : List FieldRecord) (f : FieldRecord) (ns ms : List ℤ)
    → numbers_of bytes fs ≡ Ok ns → numbers_at bytes f ≡ Ok ms
    → numbers_of bytes (fs ++ f ∷ []) ≡ Ok (ns ++ ms)
numbers-more bytes [] f ns ms e r =
    let none : [] ≡ ns = cc in
    ap (λ a. before_numbers a (Ok [])) r ∙ ap Ok (append-nil ms)
    ∙ ap (λ (l : List ℤ). Ok (l ++ ms)) none
numbers-more bytes (g ∷ fs) f ns ms e r =
    let parts = joined-parts (numbers_at bytes g) (numbers_of bytes fs) ns e in
    ap (λ a. before_numbers a (numbers_of bytes (fs ++ f ∷ []))) parts.2
    ∙ ap (before_numbers (Ok parts.0)) (numbers-more bytes fs f parts.1 ms parts.3 r)
    ∙ ap Ok (sym (append_assoc parts.0 parts.1 ms)) ∙ ap (λ (l : List ℤ). Ok (l ++ ms)) parts.4

-- the first field that can't be read is the whole's refusal
numbers-fail : (bytes : List ℕ) (fs rest : List FieldRecord) (f : FieldRecord) (refusal : Refusal)
    (ns : List ℤ)
    → numbers_of bytes fs ≡ Ok ns → numbers_at bytes f ≡ Err refusal
    → numbers_of bytes (fs ++ f ∷ rest) ≡ Err refusal
numbers-fail bytes [] rest f refusal ns e r = ap (λ a. before_numbers a (numbers_of bytes rest)) r
numbers-fail bytes (g ∷ fs) rest f refusal ns e r =
    let parts = joined-parts (numbers_at bytes g) (numbers_of bytes fs) ns e in
    ap (λ a. before_numbers a (numbers_of bytes (fs ++ f ∷ rest))) parts.2
    ∙ ap (before_numbers (Ok parts.0)) (numbers-fail bytes fs rest f refusal parts.1 parts.3 r)

-- the numbers so far and those of the next field
pub values-next : (bytes : List ℕ) (fs : List Field) (i : ℕ) (x : Field) (ns ms new : List ℤ)
    → i < length fs → x ≡ get_or fs i x
    → numbers_of bytes (map field_record (take i fs)) ≡ Ok ns
    → numbers_at bytes (field_record x) ≡ Ok ms → new ≡ ns ++ ms
    → numbers_of bytes (map field_record (take (i + 1) fs)) ≡ Ok new
values-next bytes fs i x ns ms new lt here so_far r is =
    ap (numbers_of bytes) (map_more field_record fs i x lt
    ∙ ap (λ y. map field_record (take i fs) ++ field_record y ∷ []) (sym here))
    ∙ numbers-more bytes (map field_record (take i fs)) (field_record x) ns ms so_far r
    ∙ ap Ok (sym is)

whole : (fs : List Field) (i : ℕ) (x : Field) → i < length fs → x ≡ get_or fs i x
    → map field_record fs ≡ map field_record (take i fs) ++ field_record x ∷ map field_record
    (drop (suc i) fs)
whole fs i x lt here =
    ap (map field_record) (sym (take-append-drop i fs))
    ∙ map-append field_record (take i fs) (drop i fs)
    ∙ ap (λ l. map field_record (take i fs) ++ map field_record l)
    (drop-cons fs i x lt ∙ ap (λ y. y ∷ drop (suc i) fs) (sym here))

fails-with : (bytes : List ℕ) (fs : List Field) (i : ℕ) (x : Field) (refusal : Refusal)
    (ns : List ℤ) → i < length fs → x ≡ get_or fs i x
    → numbers_of bytes (map field_record (take i fs)) ≡ Ok ns
    → numbers_at bytes (field_record x) ≡ Err refusal
    → numbers_of bytes (map field_record fs) ≡ Err refusal
fails-with bytes fs i x refusal ns lt here so_far r =
    ap (numbers_of bytes) (whole fs i x lt here)
    ∙ numbers-fail bytes (map field_record (take i fs)) (map field_record (drop (suc i) fs))
    (field_record x) refusal ns so_far r

-- a refusal of one of them is the answer
pub values-fail : (bytes : List ℕ) (fs : List Field) (i : ℕ) (x : Field) (e : ParserError)
    (ns : List ℤ) → i < length fs → x ≡ get_or fs i x
    → numbers_of bytes (map field_record (take i fs)) ≡ Ok ns
    → Refuses e (numbers_at bytes (field_record x))
    → Refuses e (numbers_of bytes (map field_record fs))
values-fail bytes fs i x (errors.InvalidData offset message) ns lt here so_far r =
    fails-with bytes fs i x (InvalidData offset (string_bytes message)) ns lt here so_far r
values-fail bytes fs i x errors.OutOfBounds ns lt here so_far r =
    fails-with bytes fs i x OutOfBounds ns lt here so_far r
values-fail bytes fs i x errors.MismatchingReportId ns lt here so_far r =
    fails-with bytes fs i x MismatchingReportId ns lt here so_far r
values-fail bytes fs i x errors.OutOfMemory ns lt here so_far r = tt
values-fail bytes fs i x (errors.BudgetExceeded offset) ns lt here so_far r =
    fails-with bytes fs i x (BudgetExceeded offset) ns lt here so_far r
