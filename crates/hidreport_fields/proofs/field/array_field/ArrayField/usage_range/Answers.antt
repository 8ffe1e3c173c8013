use Rattle.std.proofs.Common.{◌≡◌, ◌-◌, Bool, true, List, Some, length, ap, sym, ◌∙◌}
use Rattle.std.specs.Prelude.{slice_get}
use Rattle.hidreport_fields.proofs.RangeLemmas.{has-range, range_of-ends, range_of-exact}
use Rattle.hidreport_fields.specs.Views.{array_attributes, array_place}
use Rattle.hidreport_fields.specs.UsageRange.{RangeRecord, range_of}
use Rattle.hidreport_fields.specs.declared.field.usage.Usage.{Usage}
use Rattle.hidreport_fields.proofs.field.array_field.ArrayField.usage_range.Goals as goal

pub returns-clause-range : goal.returns-clause-range
returns-clause-range c =
    let usages = c.args.self.now.usages.items in
    let first = c.in_ok-first.ensures.value
    ∙ ap (λ (us : List Usage). slice_get us 0) c.deref.ensures.value in
    let last = c.in_ok-last.ensures.value
    ∙ ap (λ (us : List Usage). slice_get us (length us - 1)) c.deref-2.ensures.value in
    let is_range : c.args.self.now.is_usage_range ≡ true = cc in
    ap (λ (r : RangeRecord). Some r) c.new.ensures
    ∙ sym (ap (λ (b : Bool). range_of b usages) is_range
    ∙ range_of-ends usages c.in_ok-first.first.now c.in_ok-last.last.now first last)

pub returns-clause-listed : goal.returns-clause-listed
returns-clause-listed c = λ ranged.
    let is_range : c.args.self.now.is_usage_range ≡ true = cc in
    range_of-exact c.args.self.now.is_usage_range c.args.self.now.usages.items c.new.result
    (returns-clause-range c)
    (has-range c.args.self.now.is_usage_range (array_place c.args.self.now)
    c.args.self.now.usages.items c.args.self.now.report_count (array_attributes c.args.self.now)
    is_range ranged)
