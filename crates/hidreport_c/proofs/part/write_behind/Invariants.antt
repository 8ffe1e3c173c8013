use Rattle.std.proofs.Common.{◌≡◌, ◌+◌, ◌++◌, List, length, map, take}
use Rattle.hidreport_c.specs.Answer.{array_after}
use Rattle.hidreport_c.proofs.part.write_behind.Given as goal

-- those so far stand behind what was written
abbrev pub invariant-loop-part : goal.invariant-loop-part
invariant-loop-part g l =
    (l.place ≡ l.begun + l.part-index)
    × ((before old : List _) → length before ≡ l.begun
    → l.initial.array ≡ array_after before old
    → l.array ≡ array_after (before ++ map g.P.Part.in_c (take l.part-index l.parts)) old)
