use Rattle.std.proofs.Common.{◌≡◌, ◌<◌, ℕ, zero, suc, true, false, List, [], ◌∷◌, refl, ap, arith}
use Rattle.std.specs.Prelude.{slice_index_or}
use Rattle.hidreport.specs.Usages.{make_usage}
use Rattle.hidreport_fields.specs.declared.field.usage.Usage.{Usage}
use Rattle.hidreport_definitions.proofs.usages.a_range_has_no_other_usages.Goals as goal

abbrev twice : List Usage
twice = make_usage 7 4 ∷ make_usage 7 5 ∷ make_usage 7 5 ∷ make_usage 7 7 ∷ []

-- usage 6 is none of these
no-six : (k : ℕ) → k < 4 → slice_index_or twice k (make_usage 7 6) ≡ make_usage 7 6 → ⊥
no-six zero lt e = omega (arith, ap (λ (u : Usage). u.usage_id) e)
no-six (suc zero) lt e = omega (arith, ap (λ (u : Usage). u.usage_id) e)
no-six (suc (suc zero)) lt e = omega (arith, ap (λ (u : Usage). u.usage_id) e)
no-six (suc (suc (suc zero))) lt e = omega (arith, ap (λ (u : Usage). u.usage_id) e)
no-six (suc (suc (suc (suc k)))) lt e = omega (arith, lt)

pub returns-clause-other_page : goal.returns-clause-other_page
returns-clause-other_page c = λ law.
    let within : false ≡ true = (law refl (make_usage 8 4)).1 (0, omega arith, refl) in cc

pub returns-clause-other_ids : goal.returns-clause-other_ids
returns-clause-other_ids c = λ law.
    let within : false ≡ true = (law refl (make_usage 7 8)).1 (3, omega arith, refl) in cc

pub returns-clause-one_twice : goal.returns-clause-one_twice
returns-clause-one_twice c = λ law.
    let at = (law refl (make_usage 7 6)).0 refl in no-six at.0 at.1 at.2
