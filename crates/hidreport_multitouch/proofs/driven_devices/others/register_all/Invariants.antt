use Rattle.std.proofs.Common.{◌≡◌, drop}
use Rattle.hidreport_multitouch.specs.Passing.{with_codes}
use Rattle.hidreport_multitouch.proofs.driven_devices.others.register_all.Given as goal

-- those behind the ones so far are left
abbrev pub invariant-loop-code : goal.invariant-loop-code
invariant-loop-code l =
    with_codes (drop l.code-index l.codes) l.axis l.touched ≡ with_codes l.codes l.axis l.fn.touched
