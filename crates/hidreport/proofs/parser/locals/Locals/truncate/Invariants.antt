use Rattle.std.proofs.Common.{◌≡◌, length, take}
use Rattle.hidreport.proofs.parser.locals.Locals.truncate.Given as goal

-- the first ones are as they were
abbrev pub invariant-loop-self : goal.invariant-loop-self
invariant-loop-self l = take l.count l.self ≡ take l.count l.initial.self

abbrev pub decreases-loop-self : goal.decreases-loop-self
decreases-loop-self l = length l.self
