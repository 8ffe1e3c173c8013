use Rattle.std.proofs.Common.{◌≡◌, ◌<◌, ◌∙◌, Some, false, true, ap, arith, rules, sym}
use Rattle.hidreport.specs.Parser.Layout.{beginning_of, extent_of, shared_of, variable_with}
use Rattle.hidreport.specs.Parser.Usages.{usage_list}
use Rattle.hidreport.proofs.GroupLemmas.{fields-past, made-variable, variable-at}
use Rattle.hidreport.proofs.parser.layout.Layout.field.Goals as goal

pub returns-then-c-field_count : goal.returns-then-c-field_count
returns-then-c-field_count c =
    let l = c.args.self.now in
    sym (fields-past (beginning_of l) (extent_of l) l.item.flags
    (usage_list c.args.usages.now) (shared_of l) c.args.c
    (omega (arith, c.if-c-field_count.true, c.field_count.ensures)))

pub returns : goal.returns
returns c =
    let l = c.args.self.now in
    let us = usage_list c.args.usages.now in
    let filled : l.item.flags.constant ≡ false = search rules in
    let several : l.item.flags.variable ≡ true = search rules in
    let lt : c.args.c < l.count = search rules in
    let made = made-variable l c.at.result c.args.c _ _ _ c.make_variable.ensures
    c.place_of.ensures c.in_ok-collections.ensures in
    ap Some (made ∙ ap (λ u. variable_with l u c.args.c) c.at.ensures)
    ∙ sym (variable-at l us c.args.c filled several lt)
