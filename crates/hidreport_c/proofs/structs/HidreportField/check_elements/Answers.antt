use Rattle.std.proofs.Common.{◌≡◌, ◌-◌, ◌+◌, ◌*◌, ◌<◌, ◌≤◌, pos, int_lt, length, ap, sym, arith}
use Rattle.hidreport_c.proofs.ValuesLemmas.{accepted-ok, elements-accepted, elements-past, one-more}
use Rattle.hidreport_c.specs.Status.{by_status}
use Rattle.hidreport_c.specs.Value.{acceptance, elements_at}
use Rattle.hidreport_c.proofs.structs.HidreportField.check_elements.Goals as goal
use Rattle.hidreport_c.proofs.structs.HidreportField.check_elements.Goals.{After-are_readable}

-- the last element is one less than all
counts : (c : After-are_readable)
    → c.args.self.now.value_count ≡ c.args.self.now.value_count - 1 + 1
counts c = omega (arith, c.if-self-eq0.false)

whole : (c : After-are_readable)
    → c.element_width-width.result * c.args.self.now.value_count
    ≡ c.element_width-width.result * (c.args.self.now.value_count - 1)
    + c.element_width-width.result
whole c = one-more c.element_width-width.result c.args.self.now.value_count
    (c.args.self.now.value_count - 1) (counts c)

pub returns-then-are_readable : goal.returns-then-are_readable
returns-then-are_readable c =
    let f = c.args.self.now in
    let w = c.element_width-width.result in
    let at = (goal.at.returns-then-are_readable c).After-are_readable in
    let readable = c.are_readable.ensures.readable c.if-are_readable.true in
    let within : f.first_bit + w * (f.value_count - 1) + w ≤ 8 * length c.args.report.now =
    omega (arith, whole at, readable.2) in
    sym (accepted-ok (elements_at f c.args.report.now)
    (elements-accepted f.first_bit f.end_bit f.value_count (f.value_count - 1)
    (int_lt f.measures.logical_minimum (pos 0)) c.args.report.now w (counts at)
    c.element_width-width.ensures.width readable.0 readable.1 within))

pub returns-else-are_readable : goal.returns-else-are_readable
returns-else-are_readable c =
    let f = c.args.self.now in
    let w = c.element_width-width.result in
    let at = (goal.at.returns-else-are_readable c).After-are_readable in
    let past : 0 < w → w ≤ 32
    → 8 * length c.args.report.now < f.first_bit + w * (f.value_count - 1) + w =
    λ wide narrow. let outside =
    c.are_readable.ensures.outside c.if-are_readable.false wide narrow in
    omega (arith, whole at, outside) in
    sym (ap (λ r. by_status (acceptance r))
    (elements-past f.first_bit f.end_bit f.value_count (f.value_count - 1)
    (int_lt f.measures.logical_minimum (pos 0)) c.args.report.now w (counts at)
    c.element_width-width.ensures.width past))
