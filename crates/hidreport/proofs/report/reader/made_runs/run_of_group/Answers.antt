use Rattle.std.proofs.Common.{◌≡◌, ◌+◌, ◌-◌, ◌*◌, ◌/◌, ◌<◌, arith, false, rules, true}
use Rattle.hidreport_fields.specs.ItemParts.{field_count}
use Rattle.hidreport_fields.specs.Reading.{is_signed}
use Rattle.hidreport.proofs.GroupRunLemmas.{array-run, variable-run}
use Rattle.hidreport.proofs.report.reader.made_runs.run_of_group.Goals as goal
use Rattle.hidreport.proofs.report.reader.made_runs.run_of_group.Goals.{then-is_variable, else-is_variable}

pub returns-clause-some : goal.returns-clause-some
returns-clause-some c =
    let g = c.args.group.now in
    let filled : g.flags.constant ≡ false = search rules in
    let first : c.all_bits-bits.result.start ≡ g.beginning.first = search rules in
    let end : c.all_bits-bits.result.end ≡ g.beginning.first + g.extent.size * g.extent.count =
    search rules in
    let count : c.element_count-count.result ≡ g.extent.count = search rules in
    let own : c.report_id.result ≡ g.beginning.report_id = search rules in
    let sign : c.is_signed.result ≡ is_signed g.shared = search rules in
    let fields : c.field_count.result ≡ field_count g.flags g.extent.count = search rules in
    let some : 0 < c.field_count.result = omega (arith, c.if-field_count-eq0.false) in
    elim c.if-is_variable.branch [
      | then-is_variable w ↦
          let many : g.flags.variable ≡ true = search rules in
          let wide : c.if-is_variable.result ≡ g.extent.size = search rules in
          variable-run g _ _ c.if-is_variable.result _ c.field_count.result _ filled many fields some
          own first wide count sign
      | else-is_variable w ↦
          let single : g.flags.variable ≡ false = search rules in
          let wide : c.if-is_variable.result ≡ (c.all_bits-bits.result.end
          - c.all_bits-bits.result.start) / c.element_count-count.result = search rules in
          array-run g _ _ _ c.if-is_variable.result _ _ filled single own first end wide count sign
    ]
