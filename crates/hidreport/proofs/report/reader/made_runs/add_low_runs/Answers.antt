use Rattle.std.proofs.Common.{◌≡◌, ◌∙◌, ◌++◌, [], ◌∷◌, refl, rules}
use Rattle.hidreport.specs.LowBits.{low_run}
use Rattle.hidreport.proofs.FieldLemmas.{each_from-behind}
use Rattle.hidreport.proofs.report.reader.made_runs.add_low_runs.Goals as goal

pub loop-index-preserved : goal.loop-index-preserved
loop-index-preserved c =
    let run = c.args.run in
    let index = c.loop-index.index in
    let pushed : c.push-in-loop-index.new.self.items ≡ c.loop-index.runs.items ++ low_run run index ∷ [] =
    search rules in
    pushed ∙ each_from-behind (low_run run) c.reserve.new.self.items c.loop-index.runs.items index
    (low_run run index) c.loop-index.invariant refl
