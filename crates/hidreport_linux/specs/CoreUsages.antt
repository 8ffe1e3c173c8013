-- The usages that local items name for the next main item, as Linux's hid-core keeps them
-- (Section 6.2.2.8).
use Rattle.std.specs.Prelude.{ℕ, ◌+◌, ◌*◌, ◌/◌, ◌%◌, ◌^◌, ◌-◌, ◌==◌, min, nat_le, nat_lt, Bool, false, ◌&&◌}
use Rattle.std.specs.Prelude.{◌||◌, not, if◌then◌else◌, List, [], ◌∷◌, ◌++◌}
use Rattle.hidreport_linux.specs.declared.reading.core_named.CoreNamed.{CoreNamed}

-- what the local items name, in order, and how many usages these are
pub record UsagesRecord : Type 0 where
  pub named : List CoreNamed
  pub count : ℕ

abbrev pub no_usages : UsagesRecord
no_usages = record { named = []; count = 0 }

-- the usage with the same id on this page
abbrev pub on_page : ℕ → ℕ → ℕ
on_page page usage = page % 65536 * 65536 + usage % 65536

-- on this page, where they have none of their own
abbrev pub moved_to : ℕ → CoreNamed → CoreNamed
moved_to page n =
    if n.has_page then n
    else record { first = on_page page n.first; last = on_page page n.last; has_page = false }

-- those from a number to another, where this is the page in force
abbrev pub named_by : ℕ → ℕ → Bool → ℕ → CoreNamed
named_by first last has_page page =
    moved_to page (record { first = first; last = last; has_page = has_page })

-- the first lies on this page, without a page of its own
abbrev pub lies_on : ℕ → CoreNamed → Bool
lies_on page n = not n.has_page && n.first / 65536 == page

abbrev pub names : ℕ → CoreNamed → Bool
names usage n = nat_le n.first usage && nat_le usage n.last

-- so many more, of a local item
abbrev pub with_usages : CoreNamed → ℕ → UsagesRecord → UsagesRecord
with_usages n count us = record {
  named = us.named ++ n ∷ [];
  count = min (us.count + count) (2 ^ 32 - 1);
}

-- The page in force at the main item is that of the usages behind the last one that lies on it
-- already: up to that one all stay as they are.

-- how many stand up to the last one that lies on this page, behind so many
abbrev pub staying : ℕ → ℕ → ℕ → List CoreNamed → ℕ
staying page index count [] = count
staying page index count (n ∷ ns) =
    staying page (index + 1) (if lies_on page n then index + 1 else count) ns

-- what stands at a place, where so many stay
abbrev pub at_place : ℕ → ℕ → ℕ → CoreNamed → CoreNamed
at_place page staying place n = if nat_lt place staying then n else moved_to page n

-- those from a place on, where so many stay
abbrev pub moved_from : ℕ → ℕ → ℕ → List CoreNamed → List CoreNamed
moved_from page staying place [] = []
moved_from page staying place (n ∷ ns) =
    at_place page staying place n ∷ moved_from page staying (place + 1) ns

-- all of them, with this page in force at the main item
abbrev pub moved : ℕ → UsagesRecord → List CoreNamed
moved page us = moved_from page (staying page 0 0 us.named) 0 us.named

-- a usage is one of those from a place on, where so many stay
abbrev pub names_one : ℕ → ℕ → ℕ → ℕ → List CoreNamed → Bool
names_one page usage staying place [] = false
names_one page usage staying place (n ∷ ns) =
    names usage (at_place page staying place n) || names_one page usage staying (place + 1) ns

-- a usage is one of them, with this page in force at the main item
abbrev pub have : ℕ → ℕ → UsagesRecord → Bool
have page usage us = names_one page usage (staying page 0 0 us.named) 0 us.named

-- the first of those that are named so, where so many stay
abbrev pub first_of_named : ℕ → ℕ → List CoreNamed → ℕ
first_of_named page staying [] = 0
first_of_named page staying (n ∷ ns) = (at_place page staying 0 n).first

-- the first usage, with this page in force at the main item; 0 where there is none
abbrev pub first_usage : ℕ → UsagesRecord → ℕ
first_usage page us = first_of_named page (staying page 0 0 us.named) us.named
