use Rattle.std.proofs.Common.{◌+◌, length, map, take, ap, sym, ◌∙◌, arith}
use Rattle.std.proofs.Common.{length-append}
use Rattle.std.proofs.lemmas.List.{length-map}
use Rattle.hidreport_c.specs.Answer.{array_after}
use Rattle.hidreport_c.specs.Describe.{fields_as_c}
use Rattle.hidreport_c.proofs.FieldsLemmas.{fields-next, fields-within, in_c}
use Rattle.hidreport_c.proofs.describe.write_fields.Goals as goal

pub write_behind-requires : goal.write_behind-requires
write_behind-requires c =
    let all = fields-within c.args.reports.now c.loop-report.report-index c.report-item.result
    c.fields.result.now c.loop-report-test.true c.report-item.is c.fields.ensures in
    omega (arith, all, c.loop-report.invariant.0, c.in-Some.ensures.counted, c.in-Some.ensures.fits)

pub overflow_add-written : goal.overflow_add-written
overflow_add-written c =
    let all = fields-within c.args.reports.now c.loop-report.report-index c.report-item.result
    c.fields-in-loop-report.result.now c.loop-report-test.true c.report-item.is
    c.fields-in-loop-report.ensures in
    omega (arith, all, c.loop-report.invariant.0, c.in-Some.ensures.counted, c.in-Some.ensures.fits)

pub loop-report-preserved : goal.loop-report-preserved
loop-report-preserved c =
    let reports = c.args.reports.now in
    let i = c.loop-report.report-index in
    let before = fields_as_c (take i reports) in
    let added = c.fields-in-loop-report.result.now in
    let next = fields-next reports i c.report-item.result added c.loop-report-test.true
    c.report-item.is c.fields-in-loop-report.ensures in
    let first = fields-next reports i c.report-item.result c.fields.result.now
    c.loop-report-test.true c.report-item.is c.fields.ensures in (
      ap (λ n. n + length added) c.loop-report.invariant.0
          ∙ ap (λ n. length before + n) (sym (length-map added in_c))
          ∙ sym (length-append before (map in_c added)) ∙ ap length next,
      c.write_behind.ensures before c.args.fields.now (sym c.loop-report.invariant.0)
          c.loop-report.invariant.1
          ∙ ap (λ l. array_after l c.args.fields.now) first,
    )
