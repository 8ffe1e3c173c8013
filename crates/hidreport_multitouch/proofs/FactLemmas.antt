-- Usages that are looked for among the first ones.
use Rattle.std.proofs.Common.{◌≡◌, ◌==◌, ◌-◌, ◌||◌, ℕ, zero, suc, refl, Bool, List, ◌∷◌, take}
use Rattle.std.proofs.Common.{arith, subst, ◌∙◌}
use Rattle.std.proofs.lemmas.Bool.{ne_eqb}
use Rattle.std.specs.List.{list_any}
use Rattle.hidreport_fields.specs.UsageNumber.{usage_number}
use Rattle.hidreport_fields.specs.declared.field.usage.Usage.{Usage}

-- whether one of this number is there
abbrev pub is-there : ℕ → List Usage → Bool
is-there wanted us = list_any (λ (u : Usage). usage_number u == wanted) us

-- another one, of this number, is passed
pub any-behind : (wanted left : ℕ) (all : List Usage) (u : Usage) (rest : List Usage)
    (number : ℕ) → all ≡ u ∷ rest → (left ≡ 0 → ⊥) → number ≡ usage_number u
    → (number ≡ wanted → ⊥) → (known : Bool) → is-there wanted (take left all) ≡ known
    → is-there wanted (take (left - 1) rest) ≡ known
any-behind wanted zero all u rest number is-all is-left is other known held =
    absurd (is-left refl)
any-behind wanted (suc n) all u rest number is-all is-left is other known held =
    let less : suc n - 1 ≡ n = omega arith in
    let first = subst (λ (us : List Usage). is-there wanted (take (suc n) us) ≡ known) is-all held
    in
    rw less (subst (λ (b : Bool). (b || is-there wanted (take n rest)) ≡ known)
    (ne_eqb (usage_number u) wanted (λ e. other (is ∙ e))) first)
