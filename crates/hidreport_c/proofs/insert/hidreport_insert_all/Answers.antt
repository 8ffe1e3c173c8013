use Rattle.std.proofs.Common.{ap, ◌∙◌}
use Rattle.hidreport_c.specs.Insert.{written_at}
use Rattle.hidreport_c.proofs.WrittenLemmas.{all-laws, done-written, told-written}
use Rattle.hidreport_c.proofs.WrittenLemmas.{written-described}
use Rattle.hidreport_c.proofs.insert.hidreport_insert_all.Goals as goal

pub returns-in-Ok-clause-insert : goal.returns-in-Ok-clause-insert
returns-in-Ok-clause-insert c = λ read same.
    ap (λ f. written_at f c.args.values.now c.args.report.now) same
    ∙ written-described read c.args.values.now c.args.report.now

pub returns-in-Err-clause-insert : goal.returns-in-Err-clause-insert
returns-in-Err-clause-insert c = λ read same.
    ap (λ f. written_at f c.args.values.now c.args.report.now) same
    ∙ written-described read c.args.values.now c.args.report.now

pub returns-in-Ok-clause-laws : goal.returns-in-Ok-clause-laws
returns-in-Ok-clause-laws c = λ read same none.
    let old = c.args.report.now in
    all-laws c.args.field.now read c.args.values.now old c.insert_all.new.report
    c.insert_all.ensures.bytes same
    (done-written c.insert_all.result c.in-Ok.field-0 old c.insert_all.new.report
    (written_at c.args.field.now c.args.values.now old) c.in-Ok.is c.insert_all.ensures.answer)

pub returns-in-Err-clause-laws : goal.returns-in-Err-clause-laws
returns-in-Err-clause-laws c = λ read same none.
    let old = c.args.report.now in
    all-laws c.args.field.now read c.args.values.now old c.insert_all.new.report
    c.insert_all.ensures.bytes same
    (told-written c.insert_all.result c.in-Err.status old c.insert_all.new.report
    (written_at c.args.field.now c.args.values.now old) c.in-Err.is
    c.insert_all.ensures.answer none)
