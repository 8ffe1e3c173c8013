use Rattle.std.proofs.Common.{arith, refl, subst}
use Rattle.hidreport_lists.proofs.CutLemmas.{are_bytes}
use Rattle.hidreport_lists.specs.Answer.{AnswersBy}
use Rattle.hidreport.specs.Options.{parse_as}
use Rattle.hidreport.specs.Repair.{repaired_view}
use Rattle.hidreport.proofs.RepairAgainLemmas.{answer-rebuilds, answer-stays}
use Rattle.hidreport.proofs.RepairBitsLemmas.{repair-keeps-bits}
use Rattle.hidreport.proofs.RepairLawLemmas.{repair-so}
use Rattle.hidreport.proofs.RepairRefusalLemmas.{repair-no-mismatch, repair-unlimited}
use Rattle.hidreport.proofs.TakenAnswerLemmas.{mended-well, repaired-refused}
use Rattle.hidreport.proofs.UntouchedLemmas.{accepts-answer, untouched-ok}
use Rattle.hidreport.proofs.repairing.repair.Goals as goal

pub returns-clause-untouched : goal.returns-clause-untouched
returns-clause-untouched c = λ no ok.
    subst (λ r. AnswersBy repaired_view c.mended.result r)
    (untouched-ok c.args.options c.args.bytes.now
    (parse_as c.args.options.parse c.args.bytes.now)
    (are_bytes c.args.bytes.now (λ i. omega (arith, c.type_inv.bytes i))) no refl ok)
    c.mended.ensures

pub returns-clause-accepted : goal.returns-clause-accepted
returns-clause-accepted c =
    accepts-answer c.args.options c.args.bytes.now c.mended.result
    c.mended.ensures

pub returns-clause-kept : goal.returns-clause-kept
returns-clause-kept c =
    repair-so c.args.options c.args.bytes.now c.mended.result c.mended.ensures

pub returns-clause-bits : goal.returns-clause-bits
returns-clause-bits c = repair-keeps-bits c.args.options c.args.bytes.now c.mended.result
    (are_bytes c.args.bytes.now (λ i. omega (arith, c.type_inv.bytes i))) c.mended.ensures

pub returns-clause-own_bytes : goal.returns-clause-own_bytes
returns-clause-own_bytes c = repair-no-mismatch c.args.options c.args.bytes.now
    c.mended.result c.mended.ensures

pub returns-clause-again : goal.returns-clause-again
returns-clause-again c = answer-stays c.args.options c.args.bytes.now c.mended.result
    c.mended.ensures (returns-clause-bits c)

pub returns-clause-rebuilt : goal.returns-clause-rebuilt
returns-clause-rebuilt c = answer-rebuilds c.args.options c.mended.result

pub returns-clause-unlimited : goal.returns-clause-unlimited
returns-clause-unlimited c = λ none any offset. repair-unlimited c.args.options c.args.bytes.now
    c.mended.result c.mended.ensures none any offset

pub returns-clause-taken : goal.returns-clause-taken
returns-clause-taken c = λ taken. repaired-refused c.args.options c.args.bytes.now
    c.mended.result c.mended.ensures (mended-well c.args.options c.args.bytes.now
    (are_bytes c.args.bytes.now (λ i. omega (arith, c.type_inv.bytes i))) taken)
