use Rattle.std.proofs.Common.{◌∙◌, sym, pos, int_lt, arith, to_z, of_z, ◌-ℤ◌, ◌+ℤ◌}
use Rattle.std.specs.Int.{w64}
use Rattle.std.proofs.lemmas.Int.{ints}
use Rattle.hidreport_fields.proofs.NullLemmas.{IsBeside, null-all, null-none, null-third}
use Rattle.hidreport_fields.proofs.field.element_numbers.ElementNumbers.outer_null.Goals as goal
use Rattle.hidreport_fields.proofs.field.element_numbers.ElementNumbers.outer_null.Goals.{After-is_null-else-is_null-2}

-- the numbers beside the bounds, as they were computed
beside : (c : After-is_null-else-is_null-2)
    → IsBeside c.args.self.now.width (int_lt c.args.self.now.minimum (pos 0))
    c.args.self.now.minimum c.args.self.now.maximum
    (to_z w64 (of_z w64 (to_z w64 (of_z w64 c.from-below.result) -ℤ pos 1)))
    (to_z w64 (of_z w64 (to_z w64 (of_z w64 c.from-above.result) +ℤ pos 1)))
beside c = record {
  below = omega (arith, ints);
  above = omega (arith, ints);
  zero_not = sym c.is_null.ensures ∙ c.if-is_null.false;
  below_not = sym c.is_null-else-is_null.ensures ∙ c.if-is_null-2.false;
}

pub returns-then-is_null-3-clause-first : goal.returns-then-is_null-3-clause-first
returns-then-is_null-3-clause-first c =
    null-third (beside (goal.at.returns-then-is_null-3-clause-first c).After-is_null-else-is_null-2)
    (sym c.is_null-else-is_null-2.ensures ∙ c.if-is_null-3.true)

pub returns-else-is_null-3-clause-first : goal.returns-else-is_null-3-clause-first
returns-else-is_null-3-clause-first c =
    null-none (beside (goal.at.returns-else-is_null-3-clause-first c).After-is_null-else-is_null-2)
    (sym c.is_null-else-is_null-2.ensures ∙ c.if-is_null-3.false)

pub returns-else-is_null-3-clause-none : goal.returns-else-is_null-3-clause-none
returns-else-is_null-3-clause-none c = λ none n.
    null-all (beside (goal.at.returns-else-is_null-3-clause-none c).After-is_null-else-is_null-2)
    (sym c.is_null-else-is_null-2.ensures ∙ c.if-is_null-3.false) n
