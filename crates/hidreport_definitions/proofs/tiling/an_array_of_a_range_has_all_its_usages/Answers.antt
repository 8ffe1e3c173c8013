use Rattle.std.proofs.Common.{◌≢◌, ℕ, zero, suc, refl, ap, arith, List, [], ◌∷◌}
use Rattle.hidreport.specs.Usages.{make_usage, range_from}
use Rattle.hidreport_fields.specs.declared.field.usage.Usage.{Usage}
use Rattle.hidreport_definitions.proofs.tiling.an_array_of_a_range_has_all_its_usages.Goals as goal

abbrev first_page : List Usage → ℕ
first_page [] = 0
first_page (u ∷ us) = u.usage_page

abbrev second_page : List Usage → ℕ
second_page [] = 0
second_page (u ∷ us) = first_page us

apart : (page low count : ℕ) → (make_usage 7 4 ∷ make_usage 8 5 ∷ []) ≢ range_from page low count
apart page low zero e = cc
apart page low (suc zero) e = cc
apart page low (suc (suc n)) e = absurd (omega (arith, ap first_page e, ap second_page e))

pub returns-clause-range : goal.returns-clause-range
returns-clause-range c = record { page = 7; low = 4; count = 4; is = refl }

pub returns-clause-two_pages : goal.returns-clause-two_pages
returns-clause-two_pages c = λ of. apart of.page of.low of.count of.is
