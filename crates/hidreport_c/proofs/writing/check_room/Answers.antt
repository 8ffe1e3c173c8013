use Rattle.std.proofs.Common.{arith}
use Rattle.hidreport_lists.proofs.CutLemmas.{are_bytes}
use Rattle.hidreport_c.proofs.WritingLemmas.{room-on}
use Rattle.hidreport_c.proofs.writing.check_room.Goals as goal

pub returns-clause-room : goal.returns-clause-room
returns-clause-room c =
    room-on c.check_all.result c.args.fields.now c.args.report.now c.check_all.ensures

pub returns-clause-bytes : goal.returns-clause-bytes
returns-clause-bytes c = are_bytes _ (λ i. omega (arith, c.type_inv.report i))
