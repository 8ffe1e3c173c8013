-- What is listed of many fields, field by field and report by report.
use Rattle.std.proofs.Common.{◌≡◌, ℕ, ◌+◌, ◌<◌, ◌≤◌, List, [], ◌∷◌, ◌++◌, length, take, map, get_or}
use Rattle.std.proofs.Common.{refl, ap, sym, ◌∙◌, arith, append-nil}
use Rattle.std.proofs.lemmas.Grind.{flat_map-append}
use Rattle.std.proofs.lemmas.List.{take_all, take_more}
use Rattle.std.proofs.lemmas.List.Folds.{length-flat_map-take}
use Rattle.std.specs.Prelude.{flat_map}
use Rattle.hidreport.specs.Records.{FieldRecord, ReportRecord, fields_in_all}
use Rattle.hidreport.specs.Views.{field_record}
use Rattle.hidreport_fields.specs.declared.field.Field.{Field}
use Rattle.hidreport_c.specs.Answer.{array_after}

pub by-field : {A : Type 0} (g : FieldRecord → List A) (fields : List Field)
    → flat_map (λ field. g (field_record field)) fields ≡ flat_map g (map field_record fields)
by-field g [] = refl
by-field g (x ∷ fields) = ap (λ rest. g (field_record x) ++ rest) (by-field g fields)

pub by-report : {A : Type 0} (g : FieldRecord → List A) (reports : List ReportRecord)
    → flat_map (λ r. flat_map g r.fields) reports ≡ flat_map g (fields_in_all reports)
by-report g [] = refl
by-report g (r ∷ reports) = ap (λ rest. flat_map g r.fields ++ rest) (by-report g reports)
    ∙ sym (flat_map-append g r.fields (fields_in_all reports))

-- what the elements so far have, and what one more has
pub flat-next : {X B : Type 0} (g : X → List B) (xs : List X) (i : ℕ) (x : X) → i < length xs
    → x ≡ get_or xs i x → flat_map g (take (i + 1) xs) ≡ flat_map g (take i xs) ++ g x
flat-next g xs i x within is =
    ap (flat_map g) (take_more xs i x within ∙ ap (λ y. take i xs ++ y ∷ []) (sym is))
    ∙ flat_map-append g (take i xs) (x ∷ [])
    ∙ ap (λ l. flat_map g (take i xs) ++ l) (append-nil (g x))

-- that is no more than in all
pub flat-within : {X B : Type 0} (g : X → List B) (xs : List X) (i : ℕ) (x : X) → i < length xs
    → x ≡ get_or xs i x
    → length (flat_map g (take i xs)) + length (g x) ≤ length (flat_map g xs)
flat-within g xs i x within is =
    let one : length (g (get_or xs i x)) ≡ length (g x) = ap (λ y. length (g y)) (sym is) in
    omega (arith, length-flat_map-take g xs i x within, one)

-- where all have been gone over, what is listed so far is all
pub flat-all : {X B : Type 0} (g : X → List B) (xs : List X) (old : List B) {i count : ℕ}
    {new all : List B} → flat_map g xs ≡ all → length xs ≤ i
    → count ≡ length (flat_map g (take i xs)) → new ≡ array_after (flat_map g (take i xs)) old
    → (count ≡ length all) × (new ≡ array_after all old)
flat-all g xs old {i = i} whole past size is =
    let e = ap (flat_map g) (take_all i xs past) ∙ whole in
    (size ∙ ap length e, is ∙ ap (λ l. array_after l old) e)
