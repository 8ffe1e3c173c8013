use Rattle.std.proofs.Common.{◌≡◌, ◌*◌, Ok, false, length, rules}
use Rattle.hidreport.specs.Reading.{with_id}
use Rattle.hidreport.specs.Runs.{is_inside}
use Rattle.hidreport_c.proofs.RunsLemmas.{outside-refused}
use Rattle.hidreport_c.specs.Prepared.{as_run}
use Rattle.hidreport_c.proofs.structs.HidreportRun.check.Goals as goal

pub returns-else-lies_in-clause-refused : goal.returns-else-lies_in-clause-refused
returns-else-lies_in-clause-refused c =
    let run = as_run c.args.self.now in
    let bytes = c.args.report.now in
    let own : with_id run.id bytes (Ok (tt {0})) ≡ Ok (tt {0}) = search rules in
    let out : is_inside run (8 * length bytes) ≡ false = search rules in
    outside-refused run bytes own out
