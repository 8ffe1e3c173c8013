use Rattle.std.proofs.Common.{◌≡◌, length}
use Rattle.hidreport_linux.specs.CoreReading.{read_all}
use Rattle.hidreport_linux.proofs.reading.LinuxReading.read.Given as goal

-- what is read from what is kept on is what is read of all
abbrev pub invariant-loop-left : goal.invariant-loop-left
invariant-loop-left l =
    read_all l.left (length l.bytes) l.rest l.self
    ≡ read_all (length l.bytes) (length l.bytes) l.bytes l.fn.self

abbrev pub decreases-loop-left : goal.decreases-loop-left
decreases-loop-left l = l.left
