-- A report that is found by its bytes has no field of another report.
use Rattle.std.proofs.Common.{◌≡◌, ◌≢◌, ℕ, zero, suc, ◌+◌, ◌⊎◌, inl, inr, Bool, true, false, cond}
use Rattle.std.proofs.Common.{List, [], ◌∷◌, ◌++◌, Option, None, Some, IfSome, Result, Ok, Err}
use Rattle.std.proofs.Common.{refl, sym, ap, subst, ◌∙◌, arith}
use Rattle.std.specs.Prelude.{◌==◌, find}
use Rattle.std.proofs.lemmas.Grind.{common_steps}
use Rattle.hidreport_lists.specs.Answer.{Refusal, OutOfBounds, MismatchingReportId}
use Rattle.hidreport_fields.specs.Lookup.{find_by, find_report, reports_of}
use Rattle.hidreport_fields.specs.declared.field.data_item.Direction.{Direction}
use Rattle.hidreport_fields.specs.declared.field.data_item.Direction.TheVariants as direction
use Rattle.hidreport_fields.specs.ReportIds.{same_key}
use Rattle.hidreport_fields.specs.Reading.{ValueRecord, before_values, element, each_value, is_signed}
use Rattle.hidreport_fields.specs.Reading.{one_value, read_bits, reads, values_of, with_id}
use Rattle.hidreport_fields.specs.Records.{own_id}
use Rattle.hidreport_fields.specs.Records.{DescriptorRecord, FieldRecord, VariableRecord, ArrayRecord}
use Rattle.hidreport_fields.specs.Records.{ConstantRecord, ReportRecord}
use Rattle.hidreport_fields.specs.Tiling.{Each, IsFilled, IsOf, IsTiled}
use Rattle.hidreport.specs.Working.{AllOwn}
use Rattle.hidreport.proofs.ReportLemmas.{same_key-equal}
use Rattle.hidreport.proofs.TilingLemmas.{each-more}

-- bits are never refused as another report's

abbrev IsOwn : {A : Type 0} → Result A Refusal → Type 0
IsOwn r = r ≢ Err MismatchingReportId

bits-by : (b : Bool) (x : ValueRecord) → IsOwn (cond b (Err OutOfBounds) (Ok x))
bits-by true x e = cc
bits-by false x e = cc

one-own : (r : Result ValueRecord Refusal) → IsOwn r → IsOwn (one_value r)
one-own (Ok x) own e = cc
one-own (Err f) own e = own (let same : f ≡ MismatchingReportId = cc in ap (λ (g : Refusal). Err g) same)

before-own : (r : Result ValueRecord Refusal) (rest : Result (List ValueRecord) Refusal) → IsOwn r
    → IsOwn rest → IsOwn (before_values r rest)
before-own (Err f) rest own more e =
    own (let same : f ≡ MismatchingReportId = cc in ap (λ (g : Refusal). Err g) same)
before-own (Ok x) (Err f) own more e = more e
before-own (Ok x) (Ok xs) own more e = cc

elements-own : (first end count : ℕ) (signed : Bool) (bytes : List ℕ) (index more : ℕ)
    → IsOwn (each_value (element first end count signed bytes) index more)
elements-own first end count signed bytes index zero = λ e. cc
elements-own first end count signed bytes index (suc more) =
    before-own (element first end count signed bytes index)
    (each_value (element first end count signed bytes) (index + 1) more) (bits-by _ _)
    (elements-own first end count signed bytes (index + 1) more)

values-own : (f : FieldRecord) (bytes : List ℕ) → IsOwn (values_of f bytes)
values-own (VariableRecord place usage shared) bytes =
    one-own (read_bits place.first place.«end» (is_signed shared) bytes) (bits-by _ _)
values-own (ArrayRecord place usages is_range count shared) bytes =
    elements-own place.first place.«end» count (is_signed shared) bytes 0 count
values-own (ConstantRecord place) bytes = λ e. cc

-- a field of the report with this id, or of any
reads-own : (f : FieldRecord) (b : ℕ) (bytes : List ℕ) → (own_id f ≡ None) ⊎ (own_id f ≡ Some b)
    → IsOwn (reads f (b ∷ bytes))
reads-own f b bytes (inl none) e =
    values-own f (b ∷ bytes) (sym (ap (λ id. with_id id (b ∷ bytes) (values_of f (b ∷ bytes))) none)
    ∙ e)
reads-own f b bytes (inr some) e =
    let same : (b == b) ≡ true = grind (arith, common_steps) in
    values-own f (b ∷ bytes) (sym (ap (λ id. with_id id (b ∷ bytes) (values_of f (b ∷ bytes))) some
    ∙ ap (λ c. cond c (values_of f (b ∷ bytes)) (Err MismatchingReportId)) same) ∙ e)

pub of-none : (f : FieldRecord) (id : Option ℕ) → id ≡ None → IsOf id f → own_id f ≡ None
of-none f id none (inl e) = e
of-none f id none (inr e) = e ∙ none

pub of-some : (f : FieldRecord) (id : Option ℕ) (b : ℕ) → id ≡ Some b → IsOf id f → (own_id f ≡ None)
    ⊎ (own_id f ≡ Some b)
of-some f id b some (inl e) = inl e
of-some f id b some (inr e) = inr (e ∙ some)

-- what is in the bytes of a report with this first byte
abbrev pub OwnFields : ℕ → ReportRecord → Type 0
OwnFields b r = (f : FieldRecord) → IsOf r.id f → (own_id f ≡ None) ⊎ (own_id f ≡ Some b)

-- what holds of each filled report whose fields are all of these bytes holds of the one found
abbrev pub HoldsOfOwn : (ReportRecord → Type 0) → ℕ → Type 0
HoldsOfOwn P b = (r : ReportRecord) → IsFilled r → OwnFields b r → P r

found-by : (P : ReportRecord → Type 0) (b : ℕ) → HoldsOfOwn P b → (c : Bool) (r : ReportRecord)
    (rest : Option ReportRecord) → same_key r.id (Some b) ≡ c → IsFilled r → IfSome rest P
    → IfSome (cond c (Some r) rest) P
found-by P b holds true r rest e filled later =
    holds r filled (λ f own. of-some f r.id b (same_key-equal r.id (Some b) e) own)
found-by P b holds false r rest e filled later = later

found : (P : ReportRecord → Type 0) (b : ℕ) → HoldsOfOwn P b → (rs : List ReportRecord)
    → Each IsFilled rs → IfSome (find (λ (r : ReportRecord). same_key r.id (Some b)) rs) P
found P b holds [] filled = tt
found P b holds (r ∷ rs) filled =
    found-by P b holds (same_key r.id (Some b)) r
    (find (λ (r : ReportRecord). same_key r.id (Some b)) rs) refl filled.0
    (found P b holds rs filled.1)

first-by : (P : ReportRecord → Type 0) (b : ℕ) → HoldsOfOwn P b → (id : Option ℕ)
    (r : ReportRecord) (rs : List ReportRecord) → r.id ≡ id → IsFilled r → Each IsFilled rs
    → IfSome (find_by id (r ∷ rs) r b) P
first-by P b holds None r rs e filled more =
    holds r filled (λ f own. inl (of-none f r.id e own))
first-by P b holds (Some id) r rs e filled more = found P b holds (r ∷ rs) (filled, more)

pub found-holds : (P : ReportRecord → Type 0) (bytes : List ℕ) (rs : List ReportRecord)
    → ((b : ℕ) (more : List ℕ) → bytes ≡ b ∷ more → HoldsOfOwn P b) → Each IsFilled rs
    → IfSome (find_report rs bytes) P
found-holds P [] rs holds filled = tt
found-holds P (b ∷ more) [] holds filled = tt
found-holds P (b ∷ more) (r ∷ rs) holds filled =
    first-by P b (holds b more refl) r.id r rs refl filled.0 filled.1

report-own : (b : ℕ) (bytes : List ℕ) → HoldsOfOwn (AllOwn (b ∷ bytes)) b
report-own b bytes r filled own =
    each-more (IsOf r.id) (λ (f : FieldRecord). reads f (b ∷ bytes) ≢ Err MismatchingReportId) r.fields
    (λ f of. reads-own f b bytes (own f of)) filled.own

pub found-own : (rs : List ReportRecord) (bytes : List ℕ) → Each IsFilled rs
    → IfSome (find_report rs bytes) (AllOwn bytes)
found-own rs bytes filled = found-holds (AllOwn bytes) bytes rs
    (λ b more e. subst (λ l. HoldsOfOwn (AllOwn l) b) (sym e) (report-own b more)) filled

-- those of one direction

pub each-front : {A : Type 0} (P : A → Type 0) (xs ys : List A) → Each P (xs ++ ys) → Each P xs
each-front P [] ys e = tt
each-front P (x ∷ xs) ys e = (e.0, each-front P xs ys e.1)

pub each-back : {A : Type 0} (P : A → Type 0) (xs ys : List A) → Each P (xs ++ ys) → Each P ys
each-back P [] ys e = e
each-back P (x ∷ xs) ys e = each-back P xs ys e.1

pub filled-of : (way : Direction) (d : DescriptorRecord) → IsTiled d
    → Each IsFilled (reports_of way d)
filled-of direction.Input d t = each-front IsFilled d.input (d.output ++ d.feature) t.filled
filled-of direction.Output d t = each-front IsFilled d.output d.feature
    (each-back IsFilled d.input (d.output ++ d.feature) t.filled)
filled-of direction.Feature d t = each-back IsFilled d.output d.feature
    (each-back IsFilled d.input (d.output ++ d.feature) t.filled)

pub own-of : (way : Direction) (d : DescriptorRecord) (bytes : List ℕ) → IsTiled d
    → IfSome (find_report (reports_of way d) bytes) (AllOwn bytes)
own-of way d bytes t = found-own (reports_of way d) bytes (filled-of way d t)
