use Rattle.std.proofs.Common.{◌≡◌, ◌∙◌, ◌+◌, FitsSigned, ap, sym, rules}
use Rattle.std.specs.Int.{w64}
use Rattle.std.specs.Prelude.{slice_set}
use Rattle.std.proofs.lemmas.Int.{to_z-of_z}
use Rattle.hidreport.specs.Runs.{number_at}
use Rattle.hidreport.proofs.FilledLemmas.{put-next}
use Rattle.hidreport.proofs.report.reader.run.Run.put_some.Goals as goal

pub loop-index-preserved : goal.loop-index-preserved
loop-index-preserved c =
    let index = c.loop-index.index in
    let place = c.args.place in
    let number = c.number_at.result in
    let fits : FitsSigned w64 number = search rules in
    let is : number ≡ number_at c.args.self.now c.args.bytes.now index = search rules in
    ap (slice_set c.loop-index.values (place + index)) (to_z-of_z w64 number fits ∙ is)
    ∙ ap (λ l. slice_set l (place + index) (number_at c.args.self.now c.args.bytes.now index))
    c.loop-index.invariant
    ∙ sym (put-next c.args.self.now c.args.bytes.now index place c.args.values.now)
