use Rattle.std.proofs.Common.{◌≡◌, [], ◌∷◌, ◌++◌, rules, take}
use Rattle.hidreport.specs.Groups.{fields_of_groups, group_fields}
use Rattle.hidreport.specs.Runs.{runs_of}
use Rattle.hidreport.specs.SameRuns.{SameRuns}
use Rattle.hidreport.proofs.GroupRunLemmas.{group-next, group-padding}
use Rattle.hidreport.proofs.report.reader.made_runs.runs_of_groups.Goals as goal
use Rattle.hidreport.proofs.report.reader.made_runs.runs_of_groups.Goals.{in-Some+in_ok-add_run, in_default}

pub loop-group-preserved : goal.loop-group-preserved
loop-group-preserved c =
    let groups = c.args.groups.now in
    let i = c.loop-group.group-index in
    let group = c.group-item.result in
    let old = c.loop-group.runs.items in
    let new = c.match-run_of_group.runs.items in
    elim c.match-run_of_group.branch [
      | in-Some+in_ok-add_run w ↦
          let run = w.in-Some.run' in
          let is : SameRuns (run ∷ []) (runs_of (group_fields group)) = search rules in
          let more : SameRuns new (old ++ run ∷ []) = search rules in
          group-next groups i group old new run c.loop-group-test.true c.group-item.is
          c.loop-group.invariant more is
      | in_default w ↦
          let none : runs_of (group_fields group) ≡ [] = search rules in
          let same : SameRuns new (runs_of (fields_of_groups (take i groups))) = search rules in
          group-padding groups i group new c.loop-group-test.true c.group-item.is same none
    ]
