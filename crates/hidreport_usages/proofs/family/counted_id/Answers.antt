use Rattle.std.proofs.Common.{◌≡◌, ◌<◌, ap, sym, ◌∙◌}
use Rattle.std.specs.Prelude.{decimal}
use Rattle.hidreport_usages.proofs.FamilyLemmas.{counted_none, counted_zero, counted_some}
use Rattle.hidreport_usages.proofs.family.counted_id.Goals as goal

-- no number is written there
pub returns-in_err-number : goal.returns-in_err-number
returns-in_err-number c =
    rw (c.from_residual-in_err-number.ensures)
    (counted_none c.args.prefix.now c.in_ok-rest_behind.field-0.now c.args.name.now c.in_ok-rest_behind.ensures c.in_err-number.ensures)

-- 0 is
pub returns-then-number-eq0 : goal.returns-then-number-eq0
returns-then-number-eq0 c =
    let rest = c.in_ok-rest_behind.field-0.now in
    let number : (c.in_ok-number.number < 65536) × (decimal c.in_ok-number.number ≡ rest) = c.in_ok-number.ensures in
    counted_zero c.args.prefix.now rest c.args.name.now c.in_ok-rest_behind.ensures (ap decimal (sym c.if-number-eq0.true) ∙ number.1)

pub returns : goal.returns
returns c =
    let rest = c.in_ok-rest_behind.field-0.now in
    let number : (c.in_ok-number.number < 65536) × (decimal c.in_ok-number.number ≡ rest) = c.in_ok-number.ensures in
    counted_some c.args.prefix.now rest c.args.name.now c.in_ok-rest_behind.ensures c.in_ok-number.number number.0 c.if-number-eq0.false number.1
