-- The groups that references lend, told to C.
use Rattle.std.proofs.Common.{◌≡◌, ℕ, List, [], ◌∷◌, length, map, Bor, refl, ap, sym}
use Rattle.std.proofs.Common.{◌∙◌, inl, inr, Option, None, Some, Result, Ok, Err, IfOk}
use Rattle.std.proofs.Common.{Bool, true, false}
use Rattle.std.specs.Prelude.{◌==◌, if◌then◌else◌}
use Rattle.std.proofs.lemmas.List.{length-map}
use Rattle.std.proofs.lemmas.Option.{slice_get-map}
use Rattle.std.specs.Option.{option_copied}
use Rattle.std.specs.Prelude.{MatchResult, option_map, slice_get}
use Rattle.std.specs.Slice.{IsItemAt}
use Rattle.hidreport.specs.Groups.{GroupRecord, GroupedReport, OutlineRecord, group_fields}
use Rattle.hidreport.specs.Groups.{listed, listed_report}
use Rattle.hidreport.specs.Views.{field_record}
use Rattle.hidreport_fields.specs.declared.field.Field.{Field}
use Rattle.hidreport_c.proofs.UsagesLemmas.{copied-item}
use Rattle.hidreport_c.proofs.ListsLemmas.{written-none}
use Rattle.hidreport_c.specs.Answer.{Lists, array_after, counted, no_memory}
use Rattle.hidreport_c.specs.Describe.{reports_in_direction}
use Rattle.hidreport_c.specs.Group.{group_as_c, groups_as_c, lent, one_or_none}
use Rattle.hidreport_c.specs.Group.{field_in, field_placed, usage_listed}
use Rattle.hidreport_c.specs.Lookup.{field_or_none}
use Rattle.hidreport_c.specs.declared.structs.HidreportAnswer.{HidreportAnswer}
use Rattle.hidreport_c.specs.declared.structs.HidreportField.{HidreportField}
use Rattle.hidreport_c.specs.declared.structs.HidreportGroup.{HidreportGroup}

by-direction : (inputs outputs features : Bool) (x y z : List GroupedReport)
    → (if inputs then map listed_report x else (if outputs then map listed_report y
    else (if features then map listed_report z else [])))
    ≡ map listed_report (if inputs then x else (if outputs then y else (if features then z else [])))
by-direction true outputs features x y z = refl
by-direction false true features x y z = refl
by-direction false false true x y z = refl
by-direction false false false x y z = refl

-- the reports of a direction, their fields listed
pub reports-listed : (direction : ℕ) (o : OutlineRecord)
    → reports_in_direction direction (listed o)
    ≡ map listed_report (reports_in_direction direction o)
reports-listed direction o =
    by-direction (direction == 0) (direction == 1) (direction == 2) o.input o.output o.feature

lent-in-c : (found : List (Bor GroupRecord))
    → map (λ (g : Bor GroupRecord). group_as_c g.now) found ≡ groups_as_c (lent found)
lent-in-c [] = refl
lent-in-c (g ∷ found) = ap (λ rest. group_as_c g.now ∷ rest) (lent-in-c found)

-- groups that were found, written
pub groups-told : (found : List (Bor GroupRecord)) (gs : List GroupRecord)
    (old new : List HidreportGroup) (told : HidreportAnswer)
    → lent found ≡ gs → told ≡ counted (length found)
    → new ≡ array_after (map (λ (g : Bor GroupRecord). group_as_c g.now) found) old
    → Lists (Ok (groups_as_c gs)) old new told
groups-told found gs old new told are count written =
    let all : map (λ (g : Bor GroupRecord). group_as_c g.now) found ≡ groups_as_c gs =
    lent-in-c found ∙ ap groups_as_c are in
    inl (
      count ∙ ap counted (sym (length-map found (λ (g : Bor GroupRecord). group_as_c g.now))
          ∙ ap length all),
      written ∙ ap (λ l. array_after l old) all,
    )

-- the usage of one that was looked for
pub usage-found : (found : List (Bor GroupRecord)) (group index : ℕ)
    (got : Option (Bor (Bor GroupRecord))) → IsItemAt found group got
    → one_or_none (option_map (λ (g : Bor GroupRecord). g.now) (option_copied got)) index
    ≡ usage_listed group index (lent found)
usage-found found group index got item =
    ap (λ g. one_or_none (option_map (λ (r : Bor GroupRecord). r.now) g) index)
    (copied-item found group got item)
    ∙ ap (λ g. one_or_none g index)
    (sym (slice_get-map (λ (r : Bor GroupRecord). r.now) found group))

-- it is written
pub usage-told : (found : List (Bor GroupRecord)) (gs : List GroupRecord) (group index : ℕ)
    (numbers old new : List ℕ) (told : HidreportAnswer) → lent found ≡ gs
    → numbers ≡ usage_listed group index (lent found) → told ≡ counted (length numbers)
    → new ≡ array_after numbers old
    → Lists (Ok (usage_listed group index gs)) old new told
usage-told found gs group index numbers old new told are is count written =
    let all : numbers ≡ usage_listed group index gs = is ∙ ap (usage_listed group index) are in
    inl (
      count ∙ ap (λ (l : List ℕ). counted (length l)) all,
      written ∙ ap (λ (l : List ℕ). array_after l old) all,
    )

-- a field that was made of one that was looked for
pub field-told : {E : Type 0} (found : List (Bor GroupRecord)) (gs : List GroupRecord)
    (group index : ℕ) (g : GroupRecord) (made : Result (Option Field) E) (old new : List HidreportField)
    (told : HidreportAnswer) → lent found ≡ gs
    → slice_get (lent found) group ≡ Some g
    → IfOk made (λ field. option_map field_record field ≡ slice_get (group_fields g) index)
    → MatchResult made
    (λ field. Lists (Ok (field_or_none (option_map field_record field))) old new told)
    (λ _. (told ≡ no_memory) × (new ≡ old))
    → Lists (Ok (field_placed group index gs)) old new told
field-told found gs group index g (Ok field) old new told are there is lists =
    let all : field_or_none (option_map field_record field)
    ≡ field_placed group index gs =
    ap field_or_none is ∙ ap (λ r. field_in r index) (sym there)
    ∙ ap (field_placed group index) are in
    rw (sym all) lists
field-told found gs group index g (Err e) old new told are there is lists = inr lists

-- there is no such group
pub no-field-told : (found : List (Bor GroupRecord)) (gs : List GroupRecord) (group index : ℕ)
    (old : List HidreportField) (told : HidreportAnswer) → lent found ≡ gs
    → slice_get (lent found) group ≡ None → told ≡ counted 0
    → Lists (Ok (field_placed group index gs)) old old told
no-field-told found gs group index old told are none count =
    let nothing : field_placed group index gs ≡ [] =
    sym (ap (field_placed group index) are) ∙ ap (λ r. field_in r index) none in
    rw nothing (inl (count, sym (written-none old)))

-- the group that was looked for
pub group-at : (found : List (Bor GroupRecord)) (group : ℕ)
    (got : Option (Bor (Bor GroupRecord))) → IsItemAt found group got
    → slice_get (lent found) group
    ≡ option_map (λ (g : Bor GroupRecord). g.now) (option_copied got)
group-at found group got item =
    slice_get-map (λ (r : Bor GroupRecord). r.now) found group
    ∙ ap (option_map (λ (r : Bor GroupRecord). r.now)) (sym (copied-item found group got item))
