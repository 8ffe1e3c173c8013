-- The usage that a value of an array stands for, by numbers and in the library.
use Rattle.std.proofs.Common.{◌≡◌, ℕ, ℤ, Bool, true, false, cond, List, Option, None, Some, map}
use Rattle.std.proofs.Common.{length, slice_get, Bor, refl, ap, sym, ◌∙◌, ◌||◌, int_lt}
use Rattle.std.proofs.lemmas.Option.{slice_get-map, slice_get_past, slice_get_read}
use Rattle.std.specs.Option.{option_copied}
use Rattle.std.specs.Prelude.{option_map, nat_abs, ◌-ℤ◌}
use Rattle.std.specs.Slice.{IsItemAt}
use Rattle.hidreport.specs.Choosing.{usage_chosen}
use Rattle.hidreport.specs.Records.{ArrayRecord, Attributes, FieldPlace}
use Rattle.hidreport.specs.UsageNumber.{usage_number}
use Rattle.hidreport_fields.specs.declared.field.usage.Usage.{Usage}
use Rattle.hidreport_c.specs.Field.{as_c}
use Rattle.hidreport_c.specs.Usages.{usage_meant}
use Rattle.hidreport_c.specs.declared.structs.HidreportField.{HidreportField}

by-test : (b : Bool) (listed : List Usage) (i : ℕ)
    → cond b None (slice_get (map usage_number listed) i)
    ≡ option_map usage_number (cond b None (slice_get listed i))
by-test true listed i = refl
by-test false listed i = slice_get-map usage_number listed i

-- of an array that was described, with its usages, it is the one that the library chooses
pub meant-chosen : (place : FieldPlace) (listed : List Usage) (is_range : Bool) (count : ℕ)
    (shared : Attributes) (f : HidreportField) (usages : List ℕ) (value : ℤ)
    → f ≡ as_c (ArrayRecord place listed is_range count shared)
    → usages ≡ map usage_number listed
    → usage_meant f usages value
    ≡ option_map usage_number
    (usage_chosen listed shared.logical_minimum shared.logical_maximum value)
meant-chosen place listed is_range count shared f usages value is all =
    let low = shared.logical_minimum in
    ap (λ z. usage_meant z usages value) is
    ∙ ap (λ us. usage_chosen us low shared.logical_maximum value) all
    ∙ by-test (int_lt value low || int_lt shared.logical_maximum value) listed
    (nat_abs (value -ℤ low))

-- what `get` lends, copied
pub copied-item : {A : Type 0} (us : List A) (i : ℕ) (r : Option (Bor A)) → IsItemAt us i r
    → option_copied r ≡ slice_get us i
copied-item us i None item = sym (slice_get_past us i item.3)
copied-item us i (Some b) item = sym (slice_get_read us (length us) i b.now refl item.3.0 item.1)
