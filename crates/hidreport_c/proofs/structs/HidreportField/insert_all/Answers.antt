use Rattle.std.proofs.Common.{◌≡◌, IsOk, ◌+◌, ◌*◌, ◌<◌, ◌≤◌, Err, length, rules, subst, sym, ◌∙◌}
use Rattle.hidreport_c.proofs.InsertLemmas.{accepted-not, accepted-read, values-wide, values-within}
use Rattle.hidreport_c.specs.Insert.{Places, written_at}
use Rattle.hidreport_c.specs.Value.{values_at}
use Rattle.hidreport_c.proofs.structs.HidreportField.insert_all.Goals as goal
use Rattle.hidreport_c.proofs.structs.HidreportField.insert_all.Goals.{After-element_width}

pub returns-in_err-readable-clause-answer : goal.returns-in_err-readable-clause-answer
returns-in_err-readable-clause-answer c =
    let f = c.args.self.now in
    let values = c.args.values.now in
    let bytes = c.args.report.now in
    let counts : length values ≡ f.value_count = search rules in
    let status = c.in_err-readable.field-0.0 in
    let told : c.from_residual.result ≡ Err status = search rules in
    subst (λ r. Places r bytes bytes (written_at f values bytes)) (sym told)
    (accepted-not f values bytes status counts
    (sym c.in_err-readable.was ∙ c.check_values-readable.ensures.answer))

counts : (c : After-element_width) → length c.args.values.now ≡ c.args.self.now.value_count
counts c = search rules

is-read : (c : After-element_width) → IsOk (values_at c.args.self.now c.args.report.now)
is-read c = accepted-read c.args.self.now c.args.report.now
    (sym c.in_ok-readable.was ∙ c.check_values-readable.ensures.answer)

pub place-requires-clause-some : goal.place-requires-clause-some
place-requires-clause-some c = λ some.
    let at = (goal.at.place-requires-clause-some c).After-element_width in
    let wide = values-wide c.args.self.now c.args.report.now (length c.args.values.now) (counts at)
    (is-read at) some in
    subst (λ w. 0 < w) (sym c.element_width.ensures.width) wide.0

pub place-requires-clause-narrow : goal.place-requires-clause-narrow
place-requires-clause-narrow c = λ some.
    let at = (goal.at.place-requires-clause-narrow c).After-element_width in
    let wide = values-wide c.args.self.now c.args.report.now (length c.args.values.now) (counts at)
    (is-read at) some in
    subst (λ w. w ≤ 32) (sym c.element_width.ensures.width) wide.1

pub place-requires-clause-within : goal.place-requires-clause-within
place-requires-clause-within c = λ some.
    let f = c.args.self.now in
    let n = length c.args.values.now in
    let at = (goal.at.place-requires-clause-within c).After-element_width in
    let within = values-within f c.args.report.now n (counts at) (is-read at) some in
    subst (λ w. f.first_bit + w * n ≤ 8 * length c.args.report.now)
    (sym c.element_width.ensures.width) within
