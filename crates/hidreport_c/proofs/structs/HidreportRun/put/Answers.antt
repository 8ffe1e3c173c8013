use Rattle.std.proofs.Common.{◌≡◌, ◌∙◌, ◌+◌, FitsSigned, ap, rules, sym}
use Rattle.std.specs.Int.{w64}
use Rattle.std.specs.Prelude.{slice_set}
use Rattle.std.proofs.lemmas.Int.{to_z-of_z}
use Rattle.hidreport.specs.Runs.{number_at}
use Rattle.hidreport.proofs.FilledLemmas.{put-next, put-room}
use Rattle.hidreport_c.specs.Prepared.{as_run}
use Rattle.hidreport_c.proofs.structs.HidreportRun.put.Goals as goal

pub loop-index-preserved : goal.loop-index-preserved
loop-index-preserved c =
    let run = as_run c.args.self.now in
    let index = c.loop-index.index in
    let place = c.args.place in
    let number = c.number_at.result in
    let fits : FitsSigned w64 number = search rules in
    let is : number ≡ number_at run c.args.report.now index = search rules in
    ap (slice_set c.loop-index.values (place + index)) (to_z-of_z w64 number fits ∙ is)
    ∙ ap (λ l. slice_set l (place + index) (number_at run c.args.report.now index))
    c.loop-index.invariant
    ∙ sym (put-next run c.args.report.now index place c.args.values.now)

pub returns : goal.returns
returns c =
    let run = as_run c.args.self.now in
    c.loop-index.invariant
    ∙ put-room run c.args.report.now c.args.place c.loop-index.index c.args.values.now
    (search rules) (search rules)
