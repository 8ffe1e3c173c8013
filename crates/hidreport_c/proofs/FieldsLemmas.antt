-- The fields of reports, listed report by report, and fields by their numbers.
use Rattle.std.proofs.Common.{◌≡◌, ℕ, ◌+◌, ◌<◌, ◌≤◌, Bool, true, false, cond, List, [], ◌∷◌, ◌++◌}
use Rattle.std.proofs.Common.{length, take, drop, map, get_or, Option}
use Rattle.std.proofs.Common.{None, Some, Ok, ◌⊎◌, inl, inr}
use Rattle.std.proofs.Common.{refl, ap, sym, ◌∙◌, ◌≢◌, arith, append-nil}
use Rattle.std.proofs.lemmas.Bool.{eq-eqb}
use Rattle.std.proofs.lemmas.Bool.Decides.{eqb_tells}
use Rattle.std.proofs.lemmas.Grind.{flat_map-append}
use Rattle.std.proofs.lemmas.List.{drop_more, length-map, map-append, take-append-drop, take_more}
use Rattle.std.proofs.lemmas.List.Folds.{length-flat_map-take}
use Rattle.std.proofs.Math.Dec.{eqb}
use Rattle.std.specs.Prelude.{find, flat_map}
use Rattle.hidreport.specs.Records.{FieldRecord, ReportRecord, fields_in_all, place_of}
use Rattle.hidreport.specs.Views.{field_id, field_record}
use Rattle.hidreport_fields.specs.declared.field.Field.{Field}
use Rattle.hidreport_fields.specs.declared.field.Field.TheVariants as fields
use Rattle.hidreport_c.specs.Answer.{Lists, array_after, counted}
use Rattle.hidreport_c.specs.Describe.{fields_as_c}
use Rattle.hidreport_c.specs.Field.{as_c}
use Rattle.hidreport_c.specs.declared.structs.HidreportAnswer.{HidreportAnswer}
use Rattle.hidreport_c.specs.declared.structs.HidreportField.{HidreportField}

-- a field of the library as C has it
abbrev pub in_c : Field → HidreportField
in_c field = as_c (field_record field)

twice : (added : List Field) → map as_c (map field_record added) ≡ map in_c added
twice [] = refl
twice (x ∷ added) = ap (λ rest. in_c x ∷ rest) (twice added)

-- fields as they were read, and as C has them
listed-as : (added : List Field) (listed : List FieldRecord) → map field_record added ≡ listed
    → map in_c added ≡ map as_c listed
listed-as added listed h = sym (twice added) ∙ ap (λ l. map as_c l) h

same-length : (added : List Field) (listed : List FieldRecord) → map field_record added ≡ listed
    → length listed ≡ length added
same-length added listed h = ap length (sym h) ∙ length-map added field_record

-- all fields of a report, written
pub found-listed : (added : List Field) (listed : List FieldRecord) (old new : List HidreportField)
    (told : HidreportAnswer) → map field_record added ≡ listed → told ≡ counted (length added)
    → new ≡ array_after (map in_c added) old → Lists (Ok (map as_c listed)) old new told
found-listed added listed old new told h count written =
    let long : length (map as_c listed) ≡ length added =
    length-map listed as_c ∙ same-length added listed h in
    inl (
      count ∙ ap counted (sym long),
      written ∙ ap (λ l. array_after l old) (listed-as added listed h),
    )

-- the fields of the reports so far, and those of one more
pub fields-next : (reports : List ReportRecord) (i : ℕ) (r : ReportRecord) (added : List Field)
    → i < length reports → r ≡ get_or reports i r → map field_record added ≡ r.fields
    → fields_as_c (take i reports) ++ map in_c added ≡ fields_as_c (take (i + 1) reports)
fields-next reports i r added within is h =
    let f : ReportRecord → List FieldRecord = λ r. r.fields in
    let more = take_more reports i r within ∙ ap (λ q. take i reports ++ q ∷ []) (sym is) in
    ap (λ l. fields_as_c (take i reports) ++ l) (listed-as added r.fields h)
    ∙ sym (map-append as_c (flat_map f (take i reports)) r.fields)
    ∙ ap (λ l. map as_c (flat_map f (take i reports) ++ l)) (sym (append-nil r.fields))
    ∙ ap (map as_c) (sym (flat_map-append f (take i reports) (r ∷ [])))
    ∙ ap fields_as_c (sym more)

-- there are no more so far than in all
pub fields-within : (reports : List ReportRecord) (i : ℕ) (r : ReportRecord) (added : List Field)
    → i < length reports → r ≡ get_or reports i r → map field_record added ≡ r.fields
    → length (fields_as_c (take i reports)) + length added ≤ length (fields_as_c reports)
fields-within reports i r added within is h =
    let f : ReportRecord → List FieldRecord = λ r. r.fields in
    let one : length (f (get_or reports i r)) ≡ length added =
    ap (λ q. length (f q)) (sym is) ∙ same-length added r.fields h in
    omega (
      arith,
      length-flat_map-take f reports i r within,
      one,
      length-map (flat_map f (take i reports)) as_c,
      length-map (flat_map f reports) as_c,
    )

module _ {A : Type 0} where
  first-by : (b : Bool) (x : A) (r s t : Option A) → cond b (Some x) r ≡ None
      → (r ≡ None → s ≡ t) → cond b (Some x) s ≡ t
  first-by true x r s t h more = cc
  first-by false x r s t h more = more h

  -- what isn't found among the first is looked for among the others
  find-behind : (p : A → Bool) (xs ys : List A) → find p xs ≡ None
      → find p (xs ++ ys) ≡ find p ys
  find-behind p [] ys h = refl
  find-behind p (x ∷ xs) ys h =
      first-by (p x) x (find p xs) (find p (xs ++ ys)) (find p ys) h
      (λ rest. find-behind p xs ys rest)

  kept-by : (b : Bool) (x y : A) (r s : Option A) → cond b (Some x) r ≡ Some y
      → (r ≡ Some y → s ≡ Some y) → cond b (Some x) s ≡ Some y
  kept-by true x y r s h more = h
  kept-by false x y r s h more = more h

  -- what is found among the first is found
  find-before : (p : A → Bool) (xs ys : List A) (x : A) → find p xs ≡ Some x
      → find p (xs ++ ys) ≡ Some x
  find-before p [] ys x h = cc
  find-before p (y ∷ xs) ys x h =
      kept-by (p y) y x (find p xs) (find p (xs ++ ys)) h (λ rest. find-before p xs ys x rest)

-- the list so far, the element here, and the others
here : {A : Type 0} (xs : List A) (i : ℕ) (x : A) → i < length xs → x ≡ get_or xs i x
    → take i xs ++ x ∷ drop (i + 1) xs ≡ xs
here xs i x within is =
    ap (λ y. take i xs ++ y ∷ drop (i + 1) xs) is
    ∙ ap (λ l. take i xs ++ l) (sym (drop_more xs i x within)) ∙ take-append-drop i xs

id-of : (f : Field) → (place_of (field_record f)).id ≡ field_id f
id-of (fields.Variable f) = refl
id-of (fields.Array f) = refl
id-of (fields.Constant f) = refl

differ : (a b : ℕ) → (a ≡ b → ⊥) → ((eqb a b ≡ true) × (a ≡ b)) ⊎ ((eqb a b ≡ false) × (a ≢ b))
    → eqb a b ≡ false
differ a b never (inl (test, same)) = absurd (never same)
differ a b never (inr (test, other)) = test

-- whether a field has a number
abbrev pub has : ℕ → FieldRecord → Bool
has number f = eqb (place_of f).id number

-- the first of these fields that has the number
pub found-here : (list : List Field) (i : ℕ) (x : Field) (number : ℕ) → i < length list
    → x ≡ get_or list i x → find (has number) (map field_record (take i list)) ≡ None
    → field_id x ≡ number → Some (field_record x) ≡ find (has number) (map field_record list)
found-here list i x number within is none same =
    let p = has number in
    let rest = map field_record (drop (i + 1) list) in
    let test : p (field_record x) ≡ true =
    eq-eqb (place_of (field_record x)).id number (id-of x ∙ same) in
    sym (ap (λ l. find p (map field_record l)) (sym (here list i x within is))
    ∙ ap (find p) (map-append field_record (take i list) (x ∷ drop (i + 1) list))
    ∙ find-behind p (map field_record (take i list)) (field_record x ∷ rest) none
    ∙ ap (λ b. cond b (Some (field_record x)) (find p rest)) test)

-- one more that hasn't it
pub not-here : (list : List Field) (i : ℕ) (x : Field) (number : ℕ) → i < length list
    → x ≡ get_or list i x → find (has number) (map field_record (take i list)) ≡ None
    → (field_id x ≡ number → ⊥)
    → find (has number) (map field_record (take (i + 1) list)) ≡ None
not-here list i x number within is none other =
    let p = has number in
    let no : (place_of (field_record x)).id ≡ number → ⊥ = λ h. other (sym (id-of x) ∙ h) in
    let test : p (field_record x) ≡ false =
    differ (place_of (field_record x)).id number no
    (eqb_tells (place_of (field_record x)).id number) in
    let more = take_more list i x within ∙ ap (λ q. take i list ++ q ∷ []) (sym is) in
    ap (λ l. find p (map field_record l)) more
    ∙ ap (find p) (map-append field_record (take i list) (x ∷ []))
    ∙ find-behind p (map field_record (take i list)) (field_record x ∷ []) none
    ∙ ap (λ b. cond b (Some (field_record x)) None) test

split : (reports : List ReportRecord) (i : ℕ) (r : ReportRecord) → i < length reports
    → r ≡ get_or reports i r
    → fields_in_all reports
    ≡ fields_in_all (take i reports) ++ (r.fields ++ fields_in_all (drop (i + 1) reports))
split reports i r within is =
    ap fields_in_all (sym (here reports i r within is))
    ∙ flat_map-append (λ (r : ReportRecord). r.fields) (take i reports) (r ∷ drop (i + 1) reports)

-- a field of these reports, where those before this one have none
pub found-in : (p : FieldRecord → Bool) (reports : List ReportRecord) (i : ℕ) (r : ReportRecord)
    (x : FieldRecord) → i < length reports → r ≡ get_or reports i r
    → find p (fields_in_all (take i reports)) ≡ None → find p r.fields ≡ Some x
    → Some x ≡ find p (fields_in_all reports)
found-in p reports i r x within is none found =
    sym (ap (find p) (split reports i r within is)
    ∙ find-behind p (fields_in_all (take i reports))
    (r.fields ++ fields_in_all (drop (i + 1) reports)) none
    ∙ find-before p r.fields (fields_in_all (drop (i + 1) reports)) x found)

-- one report more that has none
pub not-in : (p : FieldRecord → Bool) (reports : List ReportRecord) (i : ℕ) (r : ReportRecord)
    → i < length reports → r ≡ get_or reports i r
    → find p (fields_in_all (take i reports)) ≡ None → find p r.fields ≡ None
    → find p (fields_in_all (take (i + 1) reports)) ≡ None
not-in p reports i r within is none other =
    let f : ReportRecord → List FieldRecord = λ r. r.fields in
    let more = take_more reports i r within ∙ ap (λ q. take i reports ++ q ∷ []) (sym is) in
    ap (λ l. find p (fields_in_all l)) more
    ∙ ap (find p) (flat_map-append f (take i reports) (r ∷ []))
    ∙ ap (λ l. find p (fields_in_all (take i reports) ++ l)) (append-nil r.fields)
    ∙ find-behind p (fields_in_all (take i reports)) r.fields none ∙ other

parts : (a b c : List ReportRecord)
    → fields_in_all (a ++ (b ++ c)) ≡ fields_in_all a ++ (fields_in_all b ++ fields_in_all c)
parts a b c =
    let f : ReportRecord → List FieldRecord = λ r. r.fields in
    flat_map-append f a (b ++ c) ∙ ap (λ l. fields_in_all a ++ l) (flat_map-append f b c)

-- a field of the first of three directions
pub found-first : (p : FieldRecord → Bool) (a b c : List ReportRecord) (x : FieldRecord)
    → find p (fields_in_all a) ≡ Some x → Some x ≡ find p (fields_in_all (a ++ (b ++ c)))
found-first p a b c x found =
    sym (ap (find p) (parts a b c)
    ∙ find-before p (fields_in_all a) (fields_in_all b ++ fields_in_all c) x found)

-- of the second
pub found-second : (p : FieldRecord → Bool) (a b c : List ReportRecord) (x : FieldRecord)
    → find p (fields_in_all a) ≡ None → find p (fields_in_all b) ≡ Some x
    → Some x ≡ find p (fields_in_all (a ++ (b ++ c)))
found-second p a b c x none found =
    sym (ap (find p) (parts a b c)
    ∙ find-behind p (fields_in_all a) (fields_in_all b ++ fields_in_all c) none
    ∙ find-before p (fields_in_all b) (fields_in_all c) x found)

-- of the third, or of none
pub found-third : (p : FieldRecord → Bool) (a b c : List ReportRecord) (r : Option FieldRecord)
    → find p (fields_in_all a) ≡ None → find p (fields_in_all b) ≡ None
    → r ≡ find p (fields_in_all c) → r ≡ find p (fields_in_all (a ++ (b ++ c)))
found-third p a b c r none neither found =
    found ∙ sym (ap (find p) (parts a b c)
    ∙ find-behind p (fields_in_all a) (fields_in_all b ++ fields_in_all c) none
    ∙ find-behind p (fields_in_all b) (fields_in_all c) neither)
