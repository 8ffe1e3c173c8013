use Rattle.std.proofs.Common.{◌≡◌, List, ℤ, Ok, Result, rules, subst}
use Rattle.hidreport_lists.specs.Answer.{Refusal}
use Rattle.hidreport.specs.Reader.{ReadsInto, filled}
use Rattle.hidreport.specs.Runs.{all_numbers, count_in}
use Rattle.hidreport.proofs.RunReadLemmas.{put-reads}
use Rattle.hidreport.proofs.report.reader.Reader.read.Goals as goal

pub put-requires-clause-counted : goal.put-requires-clause-counted
put-requires-clause-counted c = c.self.invariant.1

pub returns-clause-answer : goal.returns-clause-answer
returns-clause-answer c =
    let runs = c.args.self.now in
    let size : c.self.inside.value_count ≡ count_in runs = search rules in
    let put : c.put.new.values ≡ filled (all_numbers runs c.args.bytes.now) c.args.values.now =
    search rules in
    put-reads runs c.args.bytes.now c.self.inside.value_count c.args.values.now c.put.new.values
    (search rules) size put

pub returns-clause-fields : goal.returns-clause-fields
returns-clause-fields c = λ fields stand.
    subst (λ (a : Result (List ℤ) Refusal). ReadsInto (Ok c.self.inside.value_count)
    c.args.values.now c.put.new.values a) (stand.reads c.args.bytes.now) (returns-clause-answer c)
