use Rattle.std.proofs.Common.{◌≡◌, ◌∙◌, ◌+◌, ◌<◌, List, ℤ, Ok, Err, FitsSigned, ap, sym, rules, length}
use Rattle.std.specs.Int.{w64}
use Rattle.std.specs.Prelude.{slice_set}
use Rattle.std.proofs.lemmas.Int.{to_z-of_z}
use Rattle.hidreport_lists.specs.Answer.{OutOfBounds}
use Rattle.hidreport_fields.specs.Choosing.{value_number}
use Rattle.hidreport.specs.Reader.{each_alone, numbers_before}
use Rattle.hidreport.specs.Runs.{run_value, set_from}
use Rattle.hidreport.proofs.AvailableLemmas.{stops-there, there-count, there-next}
use Rattle.hidreport.proofs.FilledLemmas.{set-next}
use Rattle.hidreport.proofs.report.reader.run.Run.put_available.Goals as goal
use Rattle.hidreport.proofs.report.reader.run.Run.put_available.Goals.{In_default}

-- the values end before this one
stops : (c : In_default)
    → numbers_before (each_alone (run_value c.args.self.now c.args.bytes.now) 0
    c.args.self.now.count)
    ≡ numbers_before (each_alone (run_value c.args.self.now c.args.bytes.now) 0 c.loop-index.index)
stops c =
    let run = c.args.self.now in
    let bytes = c.args.bytes.now in
    let none : run_value run bytes c.loop-index.index ≡ Err OutOfBounds = search rules in
    let lt : c.loop-index.index < run.count = search rules in
    stops-there (run_value run bytes) c.loop-index.index run.count OutOfBounds
    lt c.loop-index.invariant.0 none

pub returns-in_default-clause-values : goal.returns-in_default-clause-values
returns-in_default-clause-values c =
    c.loop-index.invariant.1 ∙ ap (λ (l : List ℤ). set_from c.args.place l c.args.values.now)
    (sym (stops (goal.at.returns-in_default-clause-values c).In_default))

pub returns-in_default-clause-count : goal.returns-in_default-clause-count
returns-in_default-clause-count c =
    sym (ap length (stops (goal.at.returns-in_default-clause-count c).In_default)
    ∙ c.loop-index.invariant.0)

pub loop-index-preserved : goal.loop-index-preserved
loop-index-preserved c =
    let run = c.args.self.now in
    let bytes = c.args.bytes.now in
    let index = c.loop-index.index in
    let place = c.args.place in
    let value = c.in-Some.value in
    let there : run_value run bytes index ≡ Ok value = search rules in
    let number = c.from.result in
    let fits : FitsSigned w64 number = search rules in
    let is : number ≡ value_number value = search rules in
    let whole = c.loop-index.invariant.0 in
    let before = numbers_before (each_alone (run_value run bytes) 0 index) in (
      there-count (run_value run bytes) index value whole there,
      c.set_at.ensures
          ∙ ap (slice_set c.loop-index.values (place + index)) (to_z-of_z w64 number fits ∙ is)
          ∙ ap (λ (l : List ℤ). slice_set l (place + index) (value_number value)) c.loop-index.invariant.1
          ∙ ap (λ k. slice_set (set_from place before c.args.values.now) (place + k)
          (value_number value)) (sym whole)
          ∙ sym (set-next before (value_number value) place c.args.values.now)
          ∙ ap (λ (l : List ℤ). set_from place l c.args.values.now)
          (sym (there-next (run_value run bytes) index value whole there)),
    )
