use Rattle.std.proofs.Common.{arith}
use Rattle.hidreport_lists.proofs.CutLemmas.{are_bytes}
use Rattle.hidreport.proofs.RepairRefusalLemmas.{mend-unlimited}
use Rattle.hidreport.proofs.TakenAnswerLemmas.{mended-well, taken-read, taken-refused}
use Rattle.hidreport.specs.Repair.{mending}
use Rattle.hidreport.proofs.repairing.mend.Goals as goal

pub returns-clause-taken : goal.returns-clause-taken
returns-clause-taken c = λ taken. taken-refused c.args.options.parse
    (mending c.args.options c.args.bytes.now) c.mend_whole.result c.mend_whole.ensures
    (mended-well c.args.options c.args.bytes.now
    (are_bytes c.args.bytes.now (λ i. omega (arith, c.type_inv.bytes i))) taken)

pub returns-clause-read : goal.returns-clause-read
returns-clause-read c = λ taken. taken-read c.args.options.parse
    (mending c.args.options c.args.bytes.now) c.mend_whole.result c.mend_whole.ensures
    (mended-well c.args.options c.args.bytes.now
    (are_bytes c.args.bytes.now (λ i. omega (arith, c.type_inv.bytes i))) taken)

pub returns-clause-unlimited : goal.returns-clause-unlimited
returns-clause-unlimited c = λ none any offset. mend-unlimited c.args.options c.args.bytes.now
    c.mend_whole.result c.mend_whole.ensures none any offset
