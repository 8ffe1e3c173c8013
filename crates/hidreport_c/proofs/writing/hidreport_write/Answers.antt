use Rattle.hidreport_c.specs.Writing.{report_written_at}
use Rattle.hidreport_c.proofs.WritingLemmas.{all-report-laws, described-written}
use Rattle.hidreport_c.proofs.WrittenLemmas.{done-written, told-written}
use Rattle.hidreport_c.proofs.writing.hidreport_write.Goals as goal

pub returns-in-Ok-clause-writer : goal.returns-in-Ok-clause-writer
returns-in-Ok-clause-writer c = λ read same.
    described-written c.args.fields.now read c.args.values.now c.args.report.now
    c.write_all.ensures.bytes same

pub returns-in-Err-clause-writer : goal.returns-in-Err-clause-writer
returns-in-Err-clause-writer c = λ read same.
    described-written c.args.fields.now read c.args.values.now c.args.report.now
    c.write_all.ensures.bytes same

pub returns-in-Ok-clause-laws : goal.returns-in-Ok-clause-laws
returns-in-Ok-clause-laws c = λ read same none.
    let old = c.args.report.now in
    all-report-laws c.args.fields.now read c.args.values.now old c.write_all.new.report
    c.write_all.ensures.bytes same
    (done-written c.write_all.result c.in-Ok.field-0 old c.write_all.new.report
    (report_written_at c.args.fields.now c.args.values.now old) c.in-Ok.is
    c.write_all.ensures.answer)

pub returns-in-Err-clause-laws : goal.returns-in-Err-clause-laws
returns-in-Err-clause-laws c = λ read same none.
    let old = c.args.report.now in
    all-report-laws c.args.fields.now read c.args.values.now old c.write_all.new.report
    c.write_all.ensures.bytes same
    (told-written c.write_all.result c.in-Err.status old c.write_all.new.report
    (report_written_at c.args.fields.now c.args.values.now old) c.in-Err.is
    c.write_all.ensures.answer none)
