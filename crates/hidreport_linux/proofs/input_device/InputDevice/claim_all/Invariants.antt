use Rattle.std.proofs.Common.{◌≡◌, drop}
use Rattle.hidreport_linux.specs.Claims.{with_claims}
use Rattle.hidreport_linux.proofs.input_device.InputDevice.claim_all.Given as goal

-- the codes behind those so far, claimed as well, are all
abbrev pub invariant-loop-code : goal.invariant-loop-code
invariant-loop-code l =
    with_claims l.codes l.fn.self ≡ with_claims (drop l.code-index l.codes) l.self
