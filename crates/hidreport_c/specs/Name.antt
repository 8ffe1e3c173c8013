-- Names as C gets them, and what has a name (Sections 5.5 and 6.2.2.7).
use Rattle.std.specs.Prelude.{◌≡◌, ℕ, true, false, List, [], Option, None, Some}
use Rattle.hidreport_c.specs.declared.structs.HidreportPage.{HidreportPage}

-- a name, if there is one
abbrev pub or_nothing : Option (List ℕ) → List ℕ
or_nothing None = []
or_nothing (Some name) = name

-- a page, if there is one
abbrev pub page_as_c : Option ℕ → HidreportPage
page_as_c (Some page) = record { page = page; is_there = true }
page_as_c None = record { page = 0; is_there = false }

-- what is told is the number that has the name, or that none has it
abbrev pub Names : {A : Type 0} → (Option ℕ → A) → (Option ℕ → Type 0) → A → Type 0
Names as_c is told = (found : Option ℕ) × (told ≡ as_c found) × is found
