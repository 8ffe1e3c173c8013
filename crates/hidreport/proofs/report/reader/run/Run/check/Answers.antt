use Rattle.std.proofs.Common.{◌≡◌, ◌∙◌, ◌*◌, Ok, false, length, ap, rules}
use Rattle.hidreport_fields.specs.Reading.{each_value, with_id}
use Rattle.hidreport.specs.Runs.{is_inside, run_value}
use Rattle.hidreport_fields.specs.WritingLaws.{numbers_of}
use Rattle.hidreport.proofs.RunReadLemmas.{own-passes, outside-run}
use Rattle.hidreport.proofs.report.reader.run.Run.check.Goals as goal

pub returns-then-not-lies_in-clause-refused : goal.returns-then-not-lies_in-clause-refused
returns-then-not-lies_in-clause-refused c =
    let run = c.args.self.now in
    let bytes = c.args.bytes.now in
    let own : with_id run.id bytes (Ok (tt {0})) ≡ Ok (tt {0}) = search rules in
    let out : is_inside run (8 * length bytes) ≡ false = search rules in
    ap numbers_of (own-passes run.id bytes own (each_value (run_value run bytes) 0 run.count)
    ∙ outside-run run bytes out)
