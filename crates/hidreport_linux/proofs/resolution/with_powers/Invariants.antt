use Rattle.std.proofs.Common.{◌≡◌, ◌-◌}
use Rattle.hidreport_linux.specs.Resolution.{tens}
use Rattle.hidreport_linux.proofs.resolution.with_powers.Given as goal

-- the tens that are left make all of them
abbrev pub invariant-loop-power : goal.invariant-loop-power
invariant-loop-power l = tens l.count l.fn.number ≡ tens (l.count - l._power) l.product
