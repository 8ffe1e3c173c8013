use Rattle.std.proofs.Common.{◌≡◌, [], ◌∷◌, ◌++◌, map, rules, take}
use Rattle.std.specs.Prelude.{flat_map}
use Rattle.hidreport.specs.LowBits.{low_fields, low_runs}
use Rattle.hidreport.specs.Runs.{run_of, runs_of}
use Rattle.hidreport_fields.specs.Views.{field_record}
use Rattle.hidreport.proofs.LowLemmas.{low-none, low-some}
use Rattle.hidreport.proofs.report.reader.made_runs.low_runs_of.Goals as goal
use Rattle.hidreport.proofs.report.reader.made_runs.low_runs_of.Goals.{in-Some+in_ok-add_low_runs, in_default}

pub loop-field-preserved : goal.loop-field-preserved
loop-field-preserved c =
    let fields = c.args.fields.now in
    let i = c.loop-field.field-index in
    let field = c.field-item.result in
    let old = c.loop-field.runs.items in
    let new = c.match-of.runs.items in
    elim c.match-of.branch [
      | in-Some+in_ok-add_low_runs w ↦
          let run = w.in-Some.run' in
          let is : run_of (field_record field) ≡ run ∷ [] = search rules in
          let more : new ≡ old ++ low_runs run = search rules in
          low-some field_record fields i field old new run c.loop-field-test.true c.field-item.is
          c.loop-field.invariant more is
      | in_default w ↦
          let none : run_of (field_record field) ≡ [] = search rules in
          let same : new ≡ runs_of (flat_map low_fields (map field_record (take i fields))) = search rules in
          low-none field_record fields i field new c.loop-field-test.true c.field-item.is same none
    ]
