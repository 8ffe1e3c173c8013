use Rattle.std.proofs.Common.{◌≢◌, ℕ, zero, suc, inr, refl, ap, arith, List, [], ◌∷◌}
use Rattle.hidreport.specs.Usages.{make_usage, range_from}
use Rattle.hidreport_fields.specs.declared.field.usage.Usage.{Usage}
use Rattle.hidreport_definitions.proofs.filling.a_report_of_an_array_without_its_range_is_not_filled.Goals as goal

abbrev first : (Usage → ℕ) → List Usage → ℕ
first part [] = 0
first part (u ∷ us) = part u

abbrev second : (Usage → ℕ) → List Usage → ℕ
second part [] = 0
second part (u ∷ us) = first part us

abbrev page : Usage → ℕ
page u = u.usage_page

abbrev id : Usage → ℕ
id u = u.usage_id

pages : (p low count : ℕ) → (make_usage 7 4 ∷ make_usage 8 5 ∷ []) ≢ range_from p low count
pages p low zero e = cc
pages p low (suc zero) e = cc
pages p low (suc (suc n)) e = absurd (omega (arith, ap (first page) e, ap (second page) e))

ids : (p low count : ℕ) → (make_usage 7 4 ∷ make_usage 7 6 ∷ []) ≢ range_from p low count
ids p low zero e = cc
ids p low (suc zero) e = cc
ids p low (suc (suc n)) e = absurd (omega (arith, ap (first id) e, ap (second id) e))

down : (p low count : ℕ) → (make_usage 7 5 ∷ make_usage 7 4 ∷ []) ≢ range_from p low count
down p low zero e = cc
down p low (suc zero) e = cc
down p low (suc (suc n)) e = absurd (omega (arith, ap (first id) e, ap (second id) e))

pub returns-clause-range : goal.returns-clause-range
returns-clause-range c = record {
  some = λ e. cc;
  covers = (refl, omega arith, refl);
  elements = (refl, tt);
  own = (inr refl, tt);
  ranges = (record { page = 7; low = 4; count = 2; is = refl }, tt);
}

pub returns-clause-two_pages : goal.returns-clause-two_pages
returns-clause-two_pages c = λ filled.
    let of = filled.ranges.0 in pages of.page of.low of.count of.is

pub returns-clause-gap : goal.returns-clause-gap
returns-clause-gap c = λ filled.
    let of = filled.ranges.0 in ids of.page of.low of.count of.is

pub returns-clause-downwards : goal.returns-clause-downwards
returns-clause-downwards c = λ filled.
    let of = filled.ranges.0 in down of.page of.low of.count of.is
