use Rattle.std.proofs.Common.{◌≡◌, ◌∙◌, ℕ, List, Ok, ap, sym, refl, rules, length}
use Rattle.std.specs.List.{list_all}
use Rattle.hidreport_fields.specs.Reading.{element_width}
use Rattle.hidreport_fields.specs.Views.{array_attributes, array_place, array_record}
use Rattle.hidreport_fields.specs.WritingValues.{fits, has_sign, placed, put, value_width, written}
use Rattle.hidreport_fields.proofs.WrittenLemmas.{placed-ok, placed-unfit, written-array}
use Rattle.hidreport_fields.proofs.field.array_field.ArrayField.put_elements.Goals as goal
use Rattle.hidreport_fields.proofs.field.array_field.ArrayField.put_elements.Goals.{After-all_fit}

-- what is placed is what is written, since the elements are read
is-placed : (c : After-all_fit)
    → written (array_record c.args.self.now) c.args.values.now c.args.bytes.now
    ≡ placed (array_record c.args.self.now) c.args.self.now.bits.start c.args.values.now
    c.args.bytes.now
is-placed c =
    let f = c.args.self.now in
    let size : length c.args.values.now ≡ f.report_count = search rules in
    written-array (array_place f) f.usages.items f.is_usage_range f.report_count
    (array_attributes f) c.args.values.now c.args.bytes.now size
    (sym c.check_written_id.ensures.answer ∙ search rules)
    (c.are_readable.ensures.readable (search rules))

-- whether all numbers fit
fit : (c : After-all_fit)
    → list_all (fits (value_width (array_record c.args.self.now))
    (has_sign (array_record c.args.self.now))) c.args.values.now ≡ c.all_fit.result
fit c =
    let f = c.args.self.now in
    let values = c.args.values.now in
    sym (c.all_fit.ensures
    ∙ ap (λ w. list_all (fits w c.is_signed.result) values) c.element_width-width.ensures.width
    ∙ ap (λ b. list_all (fits (element_width f.bits.start f.bits.end f.report_count) b) values)
    c.is_signed.ensures)

pub returns-then-not-all_fit-clause-answer : goal.returns-then-not-all_fit-clause-answer
returns-then-not-all_fit-clause-answer c =
    let at = (goal.at.returns-then-not-all_fit-clause-answer c).After-all_fit in (
      is-placed at ∙ placed-unfit (array_record c.args.self.now) c.args.self.now.bits.start
          c.args.values.now c.args.bytes.now (sym c.begins_in_id.ensures ∙ c.if-begins_in_id.false)
          (fit at ∙ c.if-not-all_fit.true),
      refl,
    )

pub returns-clause-answer : goal.returns-clause-answer
returns-clause-answer c =
    let f = c.args.self.now in
    let values = c.args.values.now in
    let bytes = c.args.bytes.now in
    let at = (goal.at.returns-clause-answer c).After-all_fit in
    is-placed at ∙ placed-ok (array_record f) f.bits.start values bytes
    (sym c.begins_in_id.ensures ∙ c.if-begins_in_id.false) (fit at ∙ c.if-not-all_fit.false)
    ∙ ap (λ (l : List ℕ). Ok l) (sym (c.put_values.ensures
    ∙ ap (λ w. put f.bits.start w values bytes) c.element_width-width.ensures.width))
