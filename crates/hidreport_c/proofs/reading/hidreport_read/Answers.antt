use Rattle.std.proofs.Common.{◌<◌, ◌≤◌, ◌^◌, ℕ, IsOk, ap, rules, subst, sym, ◌∙◌}
use Rattle.hidreport_c.specs.Answer.{array_after, as_answer, list_or_nothing}
use Rattle.hidreport_c.specs.Reading.{numbers_in}
use Rattle.hidreport_c.specs.Writing.{count_at}
use Rattle.hidreport_c.proofs.ReadingLemmas.{countable, counted-all, numbers-refused, uncountable}
use Rattle.hidreport_c.proofs.reading.hidreport_read.Goals as goal

pub returns-in-Err-clause-answer : goal.returns-in-Err-clause-answer
returns-in-Err-clause-answer c =
    c.refused.ensures ∙ numbers-refused c.args.fields.now c.args.report.now c.in-Err.status
    (sym c.in-Err.is ∙ c.check_all.ensures)

pub returns-in_default-count_of-clause-answer : goal.returns-in_default-count_of-clause-answer
returns-in_default-count_of-clause-answer c =
    let fields = c.args.fields.now in
    let ok : IsOk (numbers_in fields c.args.report.now) = search rules in
    let past : 2 ^ 64 ≤ count_at fields = search rules in
    c.refused-in_default-count_of.ensures
    ∙ ap as_answer (sym (uncountable fields c.args.report.now ok past))

pub returns-in_default-count_of-clause-written : goal.returns-in_default-count_of-clause-written
returns-in_default-count_of-clause-written c =
    let fields = c.args.fields.now in
    let ok : IsOk (numbers_in fields c.args.report.now) = search rules in
    let past : 2 ^ 64 ≤ count_at fields = search rules in
    rw (uncountable fields c.args.report.now ok past) (search rules)

pub returns-clause-answer : goal.returns-clause-answer
returns-clause-answer c =
    let fields = c.args.fields.now in
    let ok : IsOk (numbers_in fields c.args.report.now) = search rules in
    c.counted.ensures ∙ counted-all fields c.args.report.now c.in-Some.count ok
    c.in-Some.ensures.some c.in-Some.ensures.bound

pub returns-clause-written : goal.returns-clause-written
returns-clause-written c =
    let fields = c.args.fields.now in
    let ok : IsOk (numbers_in fields c.args.report.now) = search rules in
    let within : count_at fields < 2 ^ 64 =
    subst (λ (n : ℕ). n < 2 ^ 64) c.in-Some.ensures.some c.in-Some.ensures.bound in
    c.put_all.ensures ∙ ap (λ r. array_after (list_or_nothing r) c.args.values.now)
    (sym (countable fields c.args.report.now ok within))
