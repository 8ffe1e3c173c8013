use Rattle.std.proofs.Common.{◌≡◌, List, rules}
use Rattle.std.specs.Prelude.{flat_map, sum_by}
use Rattle.hidreport_fields.specs.WritingValues.{value_count}
use Rattle.hidreport.specs.LowBits.{IsReadWhole, low_fields}
use Rattle.hidreport.specs.Runs.{RunRecord, StandFor, count_in, runs_of}
use Rattle.hidreport.proofs.LowReadLemmas.{low-count, low-stands, low-whole}
use Rattle.hidreport.proofs.SameRunsLemmas.{if-is}
use Rattle.hidreport.proofs.report.reader.Reader.of_low_bits.Goals as goal

pub returns-clause-low : goal.returns-clause-low
returns-clause-low c =
    let fields = c.args.report.now.fields in
    let runs = c.in_ok-runs.runs.items in
    let is : runs ≡ runs_of (flat_map low_fields fields) = search rules in
    if-is (StandFor (flat_map low_fields fields)) c.by.result runs c.by.ensures
    (low-stands fields runs is)

pub returns-clause-counted : goal.returns-clause-counted
returns-clause-counted c =
    let fields = c.args.report.now.fields in
    let runs = c.in_ok-runs.runs.items in
    let is : runs ≡ runs_of (flat_map low_fields fields) = search rules in
    if-is (λ (rs : List RunRecord). count_in rs ≡ sum_by value_count fields) c.by.result runs
    c.by.ensures (low-count fields runs is)

pub returns-clause-whole : goal.returns-clause-whole
returns-clause-whole c =
    let report = c.args.report.now in
    let runs = c.in_ok-runs.runs.items in
    let is : runs ≡ runs_of (flat_map low_fields report.fields) = search rules in
    if-is (IsReadWhole report) c.by.result runs c.by.ensures (low-whole report runs is)
