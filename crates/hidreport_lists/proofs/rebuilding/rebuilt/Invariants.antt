use Rattle.std.proofs.Common.{◌≡◌, ◌++◌, drop}
use Rattle.hidreport_lists.specs.Rebuilt.{rebuilt_bytes}
use Rattle.hidreport_lists.proofs.rebuilding.rebuilt.Given as goal

-- the bytes so far, and those of the rest, are all
abbrev pub invariant-loop-entry : goal.invariant-loop-entry
invariant-loop-entry l = l.bytes.items ++ rebuilt_bytes (drop l.entry-index l.items)
    ≡ rebuilt_bytes l.items
