use Rattle.std.proofs.Common.{◌∙◌, Result, subst, sym}
use Rattle.hidreport_lists.specs.Answer.{Answers, AnswersBy, BudgetExceeded, MismatchingReportId}
use Rattle.hidreport_lists.specs.Answer.{Refusal}
use Rattle.hidreport.specs.Groups.{listed}
use Rattle.hidreport.specs.Laws.{parse_any}
use Rattle.hidreport.specs.Options.{parse_as, reading_of}
use Rattle.hidreport.specs.Outline.{answer_with, groups_in, outline_as}
use Rattle.hidreport_fields.specs.Records.{DescriptorRecord}
use Rattle.hidreport.proofs.BudgetBoundLemmas.{limited-bounded, limited-plain}
use Rattle.hidreport.proofs.KeptItemsLemmas.{parse-kept, parse-rebuilt}
use Rattle.hidreport.proofs.LongestLemmas.{as-limited, as-never-mismatch, as-never-over, found-ok}
use Rattle.hidreport.proofs.OutlineWalkLemmas.{groups-listed, listed-answers, outline-read}
use Rattle.hidreport.proofs.OutlineWalkLemmas.{with-never}
use Rattle.hidreport.proofs.RefusalLemmas.{no-budget, no-mismatch}
use Rattle.hidreport.proofs.SegmentLemmas.{parse-struck}
use Rattle.hidreport.proofs.TilingWalkLemmas.{parse-tiled}
use Rattle.hidreport.proofs.outline.Outline.parsed.Goals as goal

pub returns-in-Some-clause-struck : goal.returns-in-Some-clause-struck
returns-in-Some-clause-struck c = parse-struck c.args.options c.args.bytes.now

pub returns-in-Some-clause-kept : goal.returns-in-Some-clause-kept
returns-in-Some-clause-kept c = parse-kept c.args.options c.args.bytes.now

pub returns-in-Some-clause-rebuilt : goal.returns-in-Some-clause-rebuilt
returns-in-Some-clause-rebuilt c =
    parse-rebuilt c.args.options c.args.bytes.now

pub returns-clause-exact : goal.returns-clause-exact
returns-clause-exact c = subst (λ (r : Result DescriptorRecord Refusal).
    Answers c.read.result (answer_with (groups_in c.args.options c.args.bytes.now) r))
    (sym (as-limited c.args.options c.args.bytes.now (sym c.in_default.is ∙ c.past_longest.ensures)))
    c.read.ensures

pub returns-clause-listed : goal.returns-clause-listed
returns-clause-listed c = subst (λ (r : Result DescriptorRecord Refusal).
    AnswersBy listed c.read.result r)
    (sym (as-limited c.args.options c.args.bytes.now (sym c.in_default.is ∙ c.past_longest.ensures)))
    (listed-answers (groups_in c.args.options c.args.bytes.now)
    (parse_any c.args.options c.args.bytes.now) c.read.result
    (groups-listed c.args.options c.args.bytes.now) c.read.ensures)

pub returns-clause-bounded : goal.returns-clause-bounded
returns-clause-bounded c = found-ok c.read.result (λ o e. limited-bounded
    c.args.options c.args.options.limit c.args.bytes.now (listed o)
    (outline-read c.args.options c.args.bytes.now o e)) c.read.ensures

pub returns-clause-plain : goal.returns-clause-plain
returns-clause-plain c = found-ok c.read.result (λ o e. limited-plain
    (reading_of c.args.options) c.args.options.limit c.args.bytes.now (listed o)
    (outline-read c.args.options c.args.bytes.now o e)) c.read.ensures

pub returns-clause-tiled : goal.returns-clause-tiled
returns-clause-tiled c = found-ok c.read.result (λ o e. parse-tiled c.args.options
    c.args.bytes.now (listed o) (limited-plain (reading_of c.args.options)
    c.args.options.limit c.args.bytes.now (listed o)
    (outline-read c.args.options c.args.bytes.now o e))) c.read.ensures

pub returns-clause-struck : goal.returns-clause-struck
returns-clause-struck c = parse-struck c.args.options c.args.bytes.now

pub returns-clause-kept : goal.returns-clause-kept
returns-clause-kept c = parse-kept c.args.options c.args.bytes.now

pub returns-clause-rebuilt : goal.returns-clause-rebuilt
returns-clause-rebuilt c = parse-rebuilt c.args.options c.args.bytes.now

pub returns-clause-own_bytes : goal.returns-clause-own_bytes
returns-clause-own_bytes c = no-mismatch c.read.result
    (outline_as c.args.options c.args.bytes.now) (returns-clause-exact c)
    (with-never (groups_in c.args.options c.args.bytes.now)
    (parse_as c.args.options c.args.bytes.now) MismatchingReportId
    (as-never-mismatch c.args.options c.args.bytes.now))

pub returns-clause-unlimited : goal.returns-clause-unlimited
returns-clause-unlimited c = λ none any offset. no-budget c.read.result
    (outline_as c.args.options c.args.bytes.now) offset (returns-clause-exact c)
    (with-never (groups_in c.args.options c.args.bytes.now)
    (parse_as c.args.options c.args.bytes.now) (BudgetExceeded offset)
    (as-never-over c.args.options c.args.bytes.now offset none any))
