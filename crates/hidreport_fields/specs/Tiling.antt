-- How fields fill their reports (Sections 5.6 and 6.2.2.4), and what has a number of its own.
use Rattle.std.specs.Prelude.{◌≡◌, ◌≢◌, ◌⊎◌, true, false, ℕ, suc, ◌+◌, ◌*◌, ◌<◌, ◌≤◌, ◌==◌, List}
use Rattle.std.specs.Prelude.{[], ◌∷◌, count_by, drop, take, slice_get, Option}
use Rattle.std.specs.Prelude.{None, Some}
use Rattle.hidreport_fields.specs.ReportIds.{same_key}
use Rattle.hidreport_fields.specs.ReportIds.{id_bits}
use Rattle.hidreport_fields.specs.Reading.{element_width}
use Rattle.hidreport_fields.specs.Records.{CollectionRecord, FieldRecord, VariableRecord, ArrayRecord}
use Rattle.hidreport_fields.specs.Records.{ConstantRecord, ReportRecord, DescriptorRecord}
use Rattle.hidreport_fields.specs.Records.{collections_of, fields_in_all, own_id, place_of, reports_in_all}
use Rattle.hidreport_fields.specs.UsageRange.{range_from}
use Rattle.hidreport_fields.specs.declared.field.usage.Usage.{Usage}

-- P holds of each
abbrev pub Each : {A : Type 0} → (A → Type 0) → List A → Type 0
Each P [] = Unit {0}
Each P (x ∷ xs) = P x × Each P xs

-- the first field begins at a bit, each other where the one before ends, and the last ends at
-- another; none is empty
abbrev pub Covers : ℕ → List FieldRecord → ℕ → Type 0
Covers first [] end = first ≡ end
Covers first (f ∷ fields) end = ((place_of f).first ≡ first) × (first < (place_of f).end)
    × Covers (place_of f).end fields end

-- the elements of an array have all its bits
abbrev pub HasNoRest : FieldRecord → Type 0
HasNoRest (VariableRecord place usage shared) = Unit {0}
HasNoRest (ArrayRecord place usages is_range count shared) =
    place.first + element_width place.first place.end count * count ≡ place.end
HasNoRest (ConstantRecord place) = Unit {0}

-- a field is read from the bytes of this report alone, or from any
abbrev pub IsOf : Option ℕ → FieldRecord → Type 0
IsOf id field = (own_id field ≡ None) ⊎ (own_id field ≡ id)

-- a minimum and a maximum gave these usages
pub record IsRangeOf (usages : List Usage) : Type 0 where
  pub page : ℕ
  pub low : ℕ
  pub count : ℕ
  pub is : usages ≡ range_from page low count

-- an array of a range has the usages that its minimum and its maximum gave
abbrev pub HasRange : FieldRecord → Type 0
HasRange (VariableRecord place usage shared) = Unit {0}
HasRange (ArrayRecord place usages true count shared) = IsRangeOf usages
HasRange (ArrayRecord place usages false count shared) = Unit {0}
HasRange (ConstantRecord place) = Unit {0}

-- the fields have all bits of the report behind its id, each bit one field, and are read from its
-- bytes
pub record IsFilled (report : ReportRecord) : Type 0 where
  pub some : report.fields ≢ []
  pub covers : Covers (id_bits report.id) report.fields report.size
  pub elements : Each HasNoRest report.fields
  pub own : Each (IsOf report.id) report.fields
  pub ranges : Each HasRange report.fields

-- at most one report has an id, and at most one, the first, has none
pub record HaveOwnIds (reports : List ReportRecord) : Type 0 where
  pub once : (id : Option ℕ) → count_by (λ r. same_key r.id id) reports ≤ 1
  pub first : Each (λ (r : ReportRecord). r.id ≢ None) (drop 1 reports)

-- at most one field has a number
abbrev pub HaveOwnNumbers : List FieldRecord → Type 0
HaveOwnNumbers fields = (n : ℕ) → count_by (λ f. (place_of f).id == n) fields ≤ 1

-- Carried collections of one number are one: where field f has the collection c at its place i and
-- field g has d at its place j, and their numbers are the same, f and g carry the same collections up
-- to there. So no field carries two of one number; of `a1 01 a1 00 .. c0 a1 00 .. c0 c0` the fields
-- of the two inner ones carry the outer one alike, and nothing else.
abbrev pub HaveOwnCollections : List FieldRecord → Type 0
HaveOwnCollections fields = (m n i j : ℕ) (f g : FieldRecord) (c d : CollectionRecord)
    → slice_get fields m ≡ Some f → slice_get fields n ≡ Some g
    → slice_get (collections_of f) i ≡ Some c → slice_get (collections_of g) j ≡ Some d
    → c.id ≡ d.id → take (suc i) (collections_of f) ≡ take (suc j) (collections_of g)

-- what holds of the reports of every descriptor
pub record IsTiled (d : DescriptorRecord) : Type 0 where
  pub filled : Each IsFilled (reports_in_all d)
  pub input_ids : HaveOwnIds d.input
  pub output_ids : HaveOwnIds d.output
  pub feature_ids : HaveOwnIds d.feature
  pub numbers : HaveOwnNumbers (fields_in_all (reports_in_all d))
  pub collections : HaveOwnCollections (fields_in_all (reports_in_all d))
