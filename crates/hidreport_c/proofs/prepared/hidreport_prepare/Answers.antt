use Rattle.std.proofs.Common.{Option, subst}
use Rattle.hidreport_c.proofs.PreparedLemmas.{prepared-last, prepared-none}
use Rattle.hidreport_c.specs.Prepared.{IsSoFar}
use Rattle.hidreport_c.specs.declared.structs.HidreportRun.{HidreportRun}
use Rattle.hidreport_c.proofs.prepared.hidreport_prepare.Goals as goal

pub returns-in-Some : goal.returns-in-Some
returns-in-Some c =
    let fields = c.args.fields.now in
    let i = c.loop-field.field-index in
    let old = c.args.runs.now in
    let runs = c.loop-field.runs in
    let done = c.loop-field.done in
    let held = subst (λ (l : Option HidreportRun). IsSoFar fields i l old runs done) c.in-Some.is
    c.loop-field.invariant in
    record {
      prepared = prepared-last fields i c.in-Some.run' old runs c.put_run.new.runs done
          c.counted.result c.loop-field-test.false c.loop-field.auto.field-index-end
          c.counted.ensures held (c.put_run.ensures held.made old held.count held.written);
    }

pub returns-in-None : goal.returns-in-None
returns-in-None c =
    let fields = c.args.fields.now in
    let i = c.loop-field.field-index in
    let old = c.args.runs.now in
    let runs = c.loop-field.runs in
    let done = c.loop-field.done in
    record {
      prepared = prepared-none fields i old runs done c.counted-in-None.result
          c.loop-field-test.false c.loop-field.auto.field-index-end c.counted-in-None.ensures
          (subst (λ (l : Option HidreportRun). IsSoFar fields i l old runs done) c.in-None.is
          c.loop-field.invariant);
    }
