use Rattle.std.proofs.Common.{◌<◌, ◌≤◌, ◌^◌, ℕ, ap, rules, subst, sym, ◌∙◌}
use Rattle.hidreport.specs.Runs.{HasAllValues, all_numbers, count_in}
use Rattle.hidreport.specs.Tiling.{Each}
use Rattle.hidreport_c.proofs.ListsLemmas.{written-none}
use Rattle.hidreport_c.proofs.RunsLemmas.{filled-array, runs-countable, runs-counted, runs-uncountable}
use Rattle.hidreport_c.specs.Answer.{array_after, as_answer, list_or_nothing}
use Rattle.hidreport_c.specs.Prepared.{as_runs}
use Rattle.hidreport_c.proofs.prepared.hidreport_read_prepared.Goals as goal

pub returns-in_default-count_of-clause-answer : goal.returns-in_default-count_of-clause-answer
returns-in_default-count_of-clause-answer c =
    let runs = as_runs c.args.runs.now in
    let each : Each (HasAllValues c.args.report.now) runs = search rules in
    let past : 2 ^ 64 ≤ count_in runs = search rules in
    c.refused-in_default-count_of.ensures
    ∙ ap as_answer (sym (runs-uncountable runs c.args.report.now each past))

pub returns-in_default-count_of-clause-written : goal.returns-in_default-count_of-clause-written
returns-in_default-count_of-clause-written c =
    let runs = as_runs c.args.runs.now in
    let old = c.args.values.now in
    let each : Each (HasAllValues c.args.report.now) runs = search rules in
    let past : 2 ^ 64 ≤ count_in runs = search rules in
    sym (ap (λ r. array_after (list_or_nothing r) old)
    (runs-uncountable runs c.args.report.now each past) ∙ written-none old)

pub returns-clause-answer : goal.returns-clause-answer
returns-clause-answer c =
    let runs = as_runs c.args.runs.now in
    let each : Each (HasAllValues c.args.report.now) runs = search rules in
    c.counted.ensures ∙ runs-counted runs c.args.report.now c.in-Some.count each
    c.in-Some.ensures.some c.in-Some.ensures.bound

pub returns-clause-written : goal.returns-clause-written
returns-clause-written c =
    let runs = as_runs c.args.runs.now in
    let bytes = c.args.report.now in
    let old = c.args.values.now in
    let each : Each (HasAllValues bytes) runs = search rules in
    let within : count_in runs < 2 ^ 64 =
    subst (λ (n : ℕ). n < 2 ^ 64) c.in-Some.ensures.some c.in-Some.ensures.bound in
    c.put_all.ensures ∙ filled-array (all_numbers runs bytes) old
    ∙ ap (λ r. array_after (list_or_nothing r) old) (sym (runs-countable runs bytes each within))
