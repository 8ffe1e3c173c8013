-- The bits that a field's values are read from (Section 5.8).
use Rattle.std.specs.Prelude.{◌≡◌, ◌↔◌, ℕ, ◌+◌, ◌-◌, ◌*◌, ◌<◌, List, Ok}
use Rattle.hidreport_fields.specs.BitValue.{bit}
use Rattle.hidreport_fields.specs.Reading.{ValueRecord, element_width, reads}
use Rattle.hidreport_fields.specs.Records.{FieldRecord, VariableRecord, ArrayRecord, ConstantRecord}
use Rattle.hidreport_fields.specs.Records.{place_of}

-- how many bits from its first one on a field's elements have
abbrev pub covered_bits : FieldRecord → ℕ
covered_bits (VariableRecord place usage shared) = place.end - place.first
covered_bits (ArrayRecord place usages is_range count shared) =
    element_width place.first place.end count * count
covered_bits (ConstantRecord place) = 0

-- both have the same bits there
abbrev pub AgreeOn : ℕ → ℕ → List ℕ → List ℕ → Type 0
AgreeOn first count bytes other = (i : ℕ) → i < count
    → bit bytes (first + i) ≡ bit other (first + i)

-- where both bytes are read, the values are equal just where the bits of all elements are
abbrev pub FixesBits : FieldRecord → List ℕ → Type 0
FixesBits field bytes = (other : List ℕ) (xs ys : List ValueRecord)
    → reads field bytes ≡ Ok xs → reads field other ≡ Ok ys
    → (xs ≡ ys) ↔ AgreeOn (place_of field).first (covered_bits field) bytes other
