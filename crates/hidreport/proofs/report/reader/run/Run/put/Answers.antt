use Rattle.std.proofs.Common.{◌≡◌, ◌∙◌, FitsSigned, ap, arith, rules}
use Rattle.std.specs.Int.{w64}
use Rattle.std.specs.Prelude.{slice_set}
use Rattle.std.proofs.lemmas.Int.{to_z-of_z}
use Rattle.hidreport_fields.specs.BitValue.{value}
use Rattle.hidreport.proofs.FilledLemmas.{put-one, put-room}
use Rattle.hidreport.proofs.report.reader.run.Run.put.Goals as goal

pub returns-then-self-eq1 : goal.returns-then-self-eq1
returns-then-self-eq1 c =
    let run = c.args.self.now in
    let bytes = c.args.bytes.now in
    let number = c.number_at-number.result in
    let one : run.count ≡ 1 = search rules in
    let is : number ≡ value bytes run.first run.width run.is_signed = search rules in
    let fits : FitsSigned w64 number = search rules in
    c.set_at.ensures
    ∙ ap (slice_set c.args.values.now c.args.place) (to_z-of_z w64 number fits)
    ∙ put-one run bytes c.args.place number c.args.values.now one is

pub returns-then-not-self : goal.returns-then-not-self
returns-then-not-self c =
    let count : c.args.self.now.count ≡ c.self.inside.count = search rules in
    c.put_bytes.ensures ∙ put-room c.args.self.now c.args.bytes.now c.args.place c.min-room.result
    c.args.values.now (omega (arith, count)) (λ lt. omega (arith, count, lt))

pub returns-else-self-eq8 : goal.returns-else-self-eq8
returns-else-self-eq8 c =
    let count : c.args.self.now.count ≡ c.self.inside.count = search rules in
    c.put_some.ensures ∙ put-room c.args.self.now c.args.bytes.now c.args.place c.min-room.result
    c.args.values.now (omega (arith, count)) (λ lt. omega (arith, count, lt))
