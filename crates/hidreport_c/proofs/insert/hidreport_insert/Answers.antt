use Rattle.std.proofs.Common.{ap, subst, ◌∙◌}
use Rattle.std.specs.Int.{w64}
use Rattle.std.proofs.lemmas.Int.{to_z-of_z}
use Rattle.hidreport_c.specs.Insert.{Places, inserted_at}
use Rattle.hidreport_c.proofs.WrittenLemmas.{done-written, inserted-described, one-laws}
use Rattle.hidreport_c.proofs.WrittenLemmas.{told-written}
use Rattle.hidreport_c.proofs.insert.hidreport_insert.Goals as goal
use Rattle.hidreport_c.proofs.insert.hidreport_insert.Goals.{After-insert}

pub returns-in-Ok-clause-insert : goal.returns-in-Ok-clause-insert
returns-in-Ok-clause-insert c = λ read same.
    ap (λ f. inserted_at f c.args.index c.args.value c.args.report.now) same
    ∙ inserted-described read c.args.index c.args.value c.args.report.now

pub returns-in-Err-clause-insert : goal.returns-in-Err-clause-insert
returns-in-Err-clause-insert c = λ read same.
    ap (λ f. inserted_at f c.args.index c.args.value c.args.report.now) same
    ∙ inserted-described read c.args.index c.args.value c.args.report.now

placed : (c : After-insert) → Places c.insert.result c.args.report.now c.insert.new.report
    (inserted_at c.args.field.now c.args.index c.args.value c.args.report.now)
placed c =
    subst (λ z. Places c.insert.result c.args.report.now c.insert.new.report
    (inserted_at c.args.field.now c.args.index z c.args.report.now))
    (to_z-of_z w64 c.args.value c.ranges.value) c.insert.ensures.answer

pub returns-in-Ok-clause-laws : goal.returns-in-Ok-clause-laws
returns-in-Ok-clause-laws c = λ read same none.
    let old = c.args.report.now in
    one-laws c.args.field.now read c.args.index c.args.value old c.insert.new.report
    c.insert.ensures.bytes same
    (done-written c.insert.result c.in-Ok.field-0 old c.insert.new.report
    (inserted_at c.args.field.now c.args.index c.args.value old) c.in-Ok.is
    (placed (goal.at.returns-in-Ok-clause-laws c).After-insert))

pub returns-in-Err-clause-laws : goal.returns-in-Err-clause-laws
returns-in-Err-clause-laws c = λ read same none.
    let old = c.args.report.now in
    one-laws c.args.field.now read c.args.index c.args.value old c.insert.new.report
    c.insert.ensures.bytes same
    (told-written c.insert.result c.in-Err.status old c.insert.new.report
    (inserted_at c.args.field.now c.args.index c.args.value old) c.in-Err.is
    (placed (goal.at.returns-in-Err-clause-laws c).After-insert) none)
