-- The value of an array that stands for a usage, and one that stands for none (Section 6.2.2.5).
use Rattle.std.specs.Prelude.{◌≡◌, ◌==◌, true, false, ℕ, ℤ, pos, MatchBool, List}
use Rattle.std.specs.Prelude.{length, Option, None, Some}
use Rattle.hidreport.specs.Standing.{IsLeastFor, IsNullNumber}
use Rattle.hidreport_fields.specs.declared.field.usage.Usage.{Usage}
use Rattle.hidreport_c.specs.Insert.{is_signed_in, width_of}
use Rattle.hidreport_c.specs.declared.structs.HidreportField.{HidreportField}
use Rattle.hidreport_c.specs.declared.structs.HidreportChoice.{HidreportChoice}

-- a value, if there is one
abbrev pub choice_as_c : Option ℤ → HidreportChoice
choice_as_c (Some value) = record { value = value; is_there = true }
choice_as_c None = record { value = pos 0; is_there = false }

-- what is told is such a value, or that there is none
abbrev pub Chooses : (Option ℤ → Type 0) → HidreportChoice → Type 0
Chooses is told = (choice : Option ℤ) × (told ≡ choice_as_c choice) × is choice

-- the least value of an array that stands for a usage; none where no value does
abbrev pub IsLeastMeant : HidreportField → List ℕ → ℕ → Option ℤ → Type 0
IsLeastMeant f usages usage choice = MatchBool (f.kind == 1)
    (IsLeastFor usages f.measures.logical_minimum f.measures.logical_maximum usage choice)
    (choice ≡ None)

-- a value that stands for none of an array's usages, whichever they are; no other field chooses
-- among usages
abbrev pub IsNullAt : HidreportField → Option ℤ → Type 0
IsNullAt f choice = MatchBool (f.kind == 1)
    ((usages : List Usage) → length usages ≡ f.usages.count
    → IsNullNumber usages (width_of f) (is_signed_in f)
    f.measures.logical_minimum f.measures.logical_maximum choice)
    (choice ≡ None)
