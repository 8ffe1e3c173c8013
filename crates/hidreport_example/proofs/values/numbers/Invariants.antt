use Rattle.std.proofs.Common.{◌≡◌, map, take}
use Rattle.hidreport_example.specs.Numbers.{number}
use Rattle.hidreport_example.proofs.values.numbers.Given as goal

-- the numbers so far
abbrev pub invariant-loop-value : goal.invariant-loop-value
invariant-loop-value l = l.numbers.items ≡ map number (take l.value-index l.values)
