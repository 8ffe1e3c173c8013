use Rattle.std.proofs.Common.{◌≡◌, take}
use Rattle.hidreport_linux.specs.FieldOrder.{usages_left, usages_of}
use Rattle.hidreport_multitouch.proofs.FactLemmas.{is-there}
use Rattle.hidreport_multitouch.proofs.touch_facts.names.Given as goal

-- whether it is among those that are left
abbrev pub invariant-loop-usage : goal.invariant-loop-usage
invariant-loop-usage l =
    let it = l.usage-iterator in
    is-there l.fn.wanted (take l.left (usages_left it.number it.more it.named.now))
    ≡ is-there l.fn.wanted (take l.fn.most (usages_of l.fn.field l.fn.reading))
