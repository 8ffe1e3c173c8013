-- The values of a field one by one.
use Rattle.std.proofs.Common.{◌≡◌, ℕ, ℤ, List, ◌∷◌, ◌++◌, [], ◌+◌, ◌-◌, ◌<◌, suc, ap, sym, ◌∙◌, arith}
use Rattle.std.proofs.lemmas.List.{append_assoc}
use Rattle.hidreport_events.specs.Reports.{value_of, values_from}
use Rattle.hidreport_events.specs.declared.event_field.EventField.{EventField}

-- where one more is left, it is the next
pub values_step : (f : EventField) (bytes : List ℕ) (count index : ℕ) (xs : List ℤ) → index < count
    → xs ++ values_from f bytes index (count - index)
    ≡ (xs ++ value_of f index bytes ∷ []) ++ values_from f bytes (index + 1) (count - (index + 1))
values_step f bytes count index xs h =
    let one : count - index ≡ suc (count - (index + 1)) = omega arith in
    ap (λ k. xs ++ values_from f bytes index k) one
    ∙ sym (append_assoc xs (value_of f index bytes ∷ [])
    (values_from f bytes (index + 1) (count - (index + 1))))
