use Rattle.std.proofs.Common.{◌≡◌, ◌++◌, [], ◌∷◌, rules}
use Rattle.hidreport.specs.Runs.{Joins}
use Rattle.hidreport.proofs.JoinLemmas.{joined-behind}
use Rattle.hidreport.proofs.report.reader.made_runs.add_run.Goals as goal

pub returns-in-Some-joined : goal.returns-in-Some-joined
returns-in-Some-joined c =
    let front = c.pop.new.self.items in
    let last = c.in-Some.last in
    let joined = c.in-Some-joined.joined in
    let is : c.args.runs.now.items ≡ front ++ last ∷ [] = search rules in
    let made : c.push.new.self.items ≡ front ++ joined ∷ [] = search rules in
    let joins : Joins last c.args.run joined = search rules in
    joined-behind front c.push.new.self.items c.args.runs.now.items last c.args.run joined is made joins
