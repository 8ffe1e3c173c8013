use Rattle.std.proofs.Common.{◌≡◌, drop}
use Rattle.hidreport_multitouch.specs.Facts.{slots_behind, slots_in}
use Rattle.hidreport_multitouch.proofs.touch_facts.slots_in.Given as goal

-- what is left says the rest
abbrev pub invariant-loop-field : goal.invariant-loop-field
invariant-loop-field l =
    slots_behind l.reading l.slots (drop l.field-index l.fields) ≡ slots_in l.reading l.fields
