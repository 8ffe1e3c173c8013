use Rattle.std.proofs.Common.{◌≡◌, ◌∙◌, false, rules, sym, true}
use Rattle.hidreport.specs.Runs.{runs_fit}
use Rattle.hidreport.proofs.RunWriteLemmas.{placed-fit, placed-unfit}
use Rattle.hidreport.proofs.report.reader.run_list.RunList.check_values.Goals as goal

pub returns-then-not-all_fit-clause-refused : goal.returns-then-not-all_fit-clause-refused
returns-then-not-all_fit-clause-refused c = λ bytes.
    let unfit : runs_fit c.args.self.now c.args.values.now ≡ false = search rules in
    placed-unfit c.args.self.now c.args.values.now bytes
    (sym c.begin_in_id.ensures ∙ c.if-begin_in_id.false) unfit

pub returns-clause-placed : goal.returns-clause-placed
returns-clause-placed c = λ bytes.
    let fit : runs_fit c.args.self.now c.args.values.now ≡ true = search rules in
    placed-fit c.args.self.now c.args.values.now bytes
    (sym c.begin_in_id.ensures ∙ c.if-begin_in_id.false) fit
