use Rattle.std.proofs.Common.{◌≡◌, ◌++◌, ℕ, List, map}
use Rattle.hidreport_fields.specs.UsageNumber.{usage_number}
use Rattle.hidreport_linux.specs.FieldOrder.{usages_left}
use Rattle.hidreport_multitouch.specs.Passing.{GoesOverAll, last_of}
use Rattle.hidreport_multitouch.specs.declared.driven_devices.DrivenDevices.{DrivenDevices}
use Rattle.hidreport_multitouch.proofs.driven_devices.DrivenDevices.pass_usages.Given as goal

-- who goes over those that are left has gone over all; the last of all is theirs
abbrev pub invariant-loop-usage : goal.invariant-loop-usage
invariant-loop-usage l =
    let left = l.usage-iterator in
    let all = l.fn.usages in
    let numbers = map usage_number (usages_left left.number left.more left.named.now) in
    let wanted = map usage_number (usages_left all.number all.more all.named.now) in
    ((more : List ℕ) (end : DrivenDevices) → GoesOverAll l.item (numbers ++ more) l.self end
    → GoesOverAll l.fn.item (wanted ++ more) l.fn.self end)
    × ((last_of l.last numbers ≡ last_of 0 wanted) × (l.self.facts ≡ l.fn.self.facts))
