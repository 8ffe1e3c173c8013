use Rattle.std.proofs.Common.{◌≡◌, ◌∙◌, ◌≤◌, None, Some, add-one, ap, arith, false, length, rules, slice_get, sym, take, true}
use Rattle.hidreport.specs.Groups.{group_fields}
use Rattle.hidreport_fields.specs.ItemParts.{field_count}
use Rattle.hidreport_fields.specs.Lookup.{field_for, has_usage}
use Rattle.hidreport_fields.specs.Views.{field_record}
use Rattle.hidreport.proofs.GroupLookupLemmas.{fields-counted, found-there, none-all, none-past, none-there}
use Rattle.hidreport.proofs.report.group_lookup.used.Goals as goal
use Rattle.hidreport.proofs.report.group_lookup.used.Goals.{in-Some+else-has_usage+in-Variable-1, in-Some+else-has_usage+in-Array-1, in-Some+else-has_usage+in-Constant-1, in_default}

pub returns-then-has_usage : goal.returns-then-has_usage
returns-then-has_usage c =
    let fields = group_fields c.args.group.now in
    let i = c.loop-index.index in
    let field = field_record c.in-Some.field in
    let at : slice_get fields i ≡ Some field = search rules in
    let has : has_usage c.args.usage.now field ≡ true = search rules in
    sym (found-there (has_usage c.args.usage.now) fields i field at c.loop-index.invariant has)

pub loop-index-preserved : goal.loop-index-preserved
loop-index-preserved c =
    let fields = group_fields c.args.group.now in
    let i = c.loop-index.index in
    let usage = c.args.usage.now in
    ap (λ k. field_for usage (take k fields)) (add-one i) ∙ (elim c.match-branch-2.branch [
      | in-Some+else-has_usage+in-Variable-1 w ↦
          let field = field_record w.in-Some.field in
          let at : slice_get fields i ≡ Some field = search rules in
          let has : has_usage usage field ≡ false = search rules in
          none-there (has_usage usage) fields i field at c.loop-index.invariant has
      | in-Some+else-has_usage+in-Array-1 w ↦
          let field = field_record w.in-Some.field in
          let at : slice_get fields i ≡ Some field = search rules in
          let has : has_usage usage field ≡ false = search rules in
          none-there (has_usage usage) fields i field at c.loop-index.invariant has
      | in-Some+else-has_usage+in-Constant-1 w ↦
          let field = field_record w.in-Some.field in
          let at : slice_get fields i ≡ Some field = search rules in
          let has : has_usage usage field ≡ false = search rules in
          none-there (has_usage usage) fields i field at c.loop-index.invariant has
      | in_default w ↦
          let none : slice_get fields i ≡ None = search rules in
          none-past (has_usage usage) fields i none c.loop-index.invariant
    ])

pub returns : goal.returns
returns c =
    let g = c.args.group.now in
    let all = fields-counted g in
    let end : c.field_count-index-end.result ≡ field_count g.flags g.extent.count = search rules in
    let past : length (group_fields g) ≤ c.loop-index.index =
    omega (arith, all, end, c.loop-index-test.false) in
    sym (none-all (has_usage c.args.usage.now) (group_fields g) c.loop-index.index past
    c.loop-index.invariant)
