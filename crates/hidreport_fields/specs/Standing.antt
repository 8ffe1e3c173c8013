-- The number that stands for a usage of an array, and one that stands for none (Section 6.2.2.5).
use Rattle.std.specs.Prelude.{◌≡◌, ◌≢◌, ◌≤ℤ◌, ◌+ℤ◌, ◌-ℤ◌, ℕ, ℤ, pos, int_lt, nat_lt, nat_le, ◌&&◌}
use Rattle.std.specs.Prelude.{◌||◌, if◌then◌else◌, Bool, true, false, List, Option, None, Some}
use Rattle.std.specs.Prelude.{MatchOption, is_none}
use Rattle.hidreport_fields.specs.Choosing.{usage_chosen}
use Rattle.hidreport_fields.specs.WritingValues.{fits}

-- the least number that stands for the usage; none where no number does
abbrev pub IsLeastFor : {A : Type 0} → List A → ℤ → ℤ → A → Option ℤ → Type 0
IsLeastFor usages minimum maximum usage (Some number) =
    (usage_chosen usages minimum maximum number ≡ Some usage)
    × ((other : ℤ) → usage_chosen usages minimum maximum other ≡ Some usage → number ≤ℤ other)
IsLeastFor usages minimum maximum usage None =
    (other : ℤ) → usage_chosen usages minimum maximum other ≢ Some usage

-- the number lies outside the logical bounds, and so many bits hold it
abbrev pub is_null : ℕ → Bool → ℤ → ℤ → ℤ → Bool
is_null width is_signed minimum maximum number =
    (nat_lt 0 width && nat_le width 32)
    && ((int_lt number minimum || int_lt maximum number) && fits width is_signed number)

-- the number stands for no usage, and so many bits hold it
abbrev pub is_unchosen : {A : Type 0} → List A → ℕ → Bool → ℤ → ℤ → ℤ → Bool
is_unchosen usages width is_signed minimum maximum number =
    (nat_lt 0 width && nat_le width 32)
    && (is_none (usage_chosen usages minimum maximum number) && fits width is_signed number)

-- the least such number; none where there is none
abbrev pub IsLeastUnchosen : {A : Type 0} → List A → ℕ → Bool → ℤ → ℤ → Option ℤ → Type 0
IsLeastUnchosen usages width is_signed minimum maximum (Some number) =
    (is_unchosen usages width is_signed minimum maximum number ≡ true)
    × ((other : ℤ) → is_unchosen usages width is_signed minimum maximum other ≡ true
    → number ≤ℤ other)
IsLeastUnchosen usages width is_signed minimum maximum None =
    (other : ℤ) → is_unchosen usages width is_signed minimum maximum other ≡ false

-- the first of 0, the number below the minimum and the one above the maximum that is such a number
abbrev pub null_number : ℕ → Bool → ℤ → ℤ → Option ℤ
null_number width is_signed minimum maximum =
    let null = is_null width is_signed minimum maximum in
    if null (pos 0) then Some (pos 0)
    else (if null (minimum -ℤ pos 1) then Some (minimum -ℤ pos 1)
    else (if null (maximum +ℤ pos 1) then Some (maximum +ℤ pos 1)
    else None))

-- one outside the bounds where there is one, else the least within them that has no usage
abbrev pub IsNullNumber : {A : Type 0} → List A → ℕ → Bool → ℤ → ℤ → Option ℤ → Type 0
IsNullNumber usages width is_signed minimum maximum null =
    MatchOption (null_number width is_signed minimum maximum)
    (IsLeastUnchosen usages width is_signed minimum maximum null)
    (λ number. null ≡ Some number)
