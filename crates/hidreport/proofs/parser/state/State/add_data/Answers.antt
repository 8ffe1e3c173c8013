use Rattle.std.proofs.Common.{◌≡◌, ◌≤◌, ◌^◌, ◌+◌, ◌*◌, ◌∙◌, ◌∷◌, [], ap, refl, sym, subst, arith}
use Rattle.std.proofs.lemmas.Result.{err_from_is_err_and}
use Rattle.hidreport.specs.Parser.Budget.{is_past, left_behind, weight_in}
use Rattle.hidreport_fields.specs.DataItem.{as_item, item_with}
use Rattle.hidreport.specs.Parser.ItemStates.{item_state_of}
use Rattle.hidreport_fields.specs.ItemParts.{attributes_with}
use Rattle.hidreport.specs.Groups.{listed, named_of, taken_of}
use Rattle.hidreport_fields.specs.declared.field.measures.Measures.{Measures}
use Rattle.hidreport.specs.Parser.Layout.{shared_list}
use Rattle.hidreport.specs.Parser.Usages.{usage_list}
use Rattle.hidreport.specs.Parser.Machine.{StateRecord, added_to, next_state, with_reports}
use Rattle.hidreport.specs.Parser.Opened.{Opened}
use Rattle.hidreport_fields.specs.Lookup.{reports_of}
use Rattle.hidreport.proofs.DataLemmas.{data-held}
use Rattle.hidreport.proofs.WeightLemmas.{data-faultless, data-weighs, stop-past}
use Rattle.hidreport.proofs.parser.state.State.add_data.Goals as goal
use Rattle.hidreport.proofs.parser.state.State.add_data.Goals.{After-spend}

pub returns-clause-held : goal.returns-clause-held
returns-clause-held c =
    let s = c.self.inside in
    let x = c.args.item.now in
    let h : StateRecord = record {
      push_keeps = s.item_states.push_keeps;
      item_state = s.item_states.now;
      stack = s.item_states.stack;
      descriptor = listed s.reports;
      outline = s.reports;
      fields = s.field_count;
      opened = s.collections.list;
      collections = s.collections.count;
    } in
    let count = c.field_count-field_count.result in
    let new : StateRecord = record {
      push_keeps = s.item_states.push_keeps;
      item_state = s.item_states.now;
      stack = s.item_states.stack;
      descriptor = listed c.add.new.self;
      outline = c.add.new.self;
      fields = s.field_count + count;
      opened = c.keep.new.self.list;
      collections = c.keep.new.self.count;
    } in
    let g = item_state_of s.item_states.now.usages_by c.globals-globals.result.now
    s.item_states.now.locals in
    let cs = shared_list c.in_ok-shared_by.field-0 in
    let with = λ (m : Measures). with_reports x.direction
    (added_to c.begin-room.result.slot.key c.in_ok-bits.bits (record {
      beginning = record {
        report_id = g.report_id;
        number = s.field_count;
        first = c.begin-room.result.first_bit;
      };
      extent = c.in-Some.extent;
      flags = x.flags;
      named = named_of x.flags (usage_list c.in-Ok.usages);
      usages = taken_of x.flags c.in-Some.extent.count (usage_list c.in-Ok.usages);
      shared = attributes_with x.direction x.flags m cs;
    } ∷ []) (reports_of x.direction s.reports)) s.reports in
    subst (λ (z : StateRecord). new ≡ record z {
      descriptor = (next_state z (as_item x)).descriptor;
      outline = (next_state z (as_item x)).outline;
      fields = (next_state z (as_item x)).fields;
    }) c.self.view_is
    (ap (λ (o : Opened). record h {
      descriptor = listed c.add.new.self;
      outline = c.add.new.self;
      fields = s.field_count + count;
      opened = o.list;
      collections = o.count;
    }) (c.keep.ensures ∙ c.in_ok-shared_by.ensures.same)
    ∙ data-held h g x.direction x.flags cs
    c.in-Some.extent c.in-Ok.usages
    c.begin-room.result.slot.key c.begin-room.result.first_bit c.in_ok-bits.bits c.add.new.self
    count refl
    c.globals-globals.ensures c.in_ok-shared_by.ensures.all c.in_ok-shared_by.ensures.none
    (sym c.in-Some.ensures)
    c.in-Ok.ensures.usages c.begin-room.ensures.key c.begin-room.ensures.first c.in_ok-bits.ensures.fits.0
    (c.in_ok-add.ensures ∙ ap with (c.measures.ensures s.item_states.now.usages_by))
    c.field_count-field_count.ensures)

-- the data item weighs what was counted
weighs : (c : After-spend)
    → weight_in c.args.self.now (item_with c.args.item.now.direction c.args.item.now.flags)
    ≡ c.field_count.result * c.weight_of_each-each.result
weighs c =
    let s = c.self.inside in
    let x = c.args.item.now in
    data-weighs _ c.args.self.now (item_state_of s.item_states.now.usages_by
    c.globals-globals.result.now s.item_states.now.locals) x.direction x.flags
    c.in-Some.extent c.in-Ok.usages
    c.field_count.result c.weight_of_each-each.result c.weight.result c.self.view_is
    c.globals-globals.ensures (sym c.in-Some.ensures) c.in-Ok.ensures.usages
    c.field_count.ensures c.weight_of_each-each.ensures c.weight.ensures.weight

pub returns-clause-within : goal.returns-clause-within
returns-clause-within c =
    ap (is_past c.args.budget.now) (weighs (goal.at.returns-clause-within c).After-spend)
    ∙ c.in_ok-spend.ensures.within

pub returns-clause-left : goal.returns-clause-left
returns-clause-left c =
    c.in_ok-spend.ensures.left
    ∙ ap (left_behind c.args.budget.now) (sym (weighs (goal.at.returns-clause-left c).After-spend))

pub returns-in_err-spend-clause-err : goal.returns-in_err-spend-clause-err
returns-in_err-spend-clause-err c =
    let s = c.self.inside in
    let x = c.args.item.now in
    let g = item_state_of s.item_states.now.usages_by c.globals-globals.result.now
    s.item_states.now.locals in
    let ids : s.field_count + c.field_count-field_count.result ≤ 2 ^ 32 =
    omega (arith, c.if-field_count-gt-FIELD_IDS.false, c.if-self-field_count.false) in
    let faultless = data-faultless _ c.args.self.now g x.direction x.flags
    c.in-Some.extent c.begin-room.result.slot.key c.begin-room.result.first_bit
    c.field_count-field_count.result c.self.view_is
    c.globals-globals.ensures (sym c.in-Some.ensures) c.in-Ok.ensures.faultless
    c.begin-room.ensures.key c.begin-room.ensures.first
    c.in_ok-bits.ensures.fits.1 c.field_count-field_count.ensures ids in
    let weighs = weighs (goal.at.returns-in_err-spend-clause-err c).After-spend in
    let p = err_from_is_err_and c.from_residual-in_err-spend.result
    c.from_residual-in_err-spend.ensures.1 in
    rw (p.1, p.2) (rw (c.in_err-spend.ensures.past.0)
    (stop-past c.args.budget.now c.args.self.now x.direction x.flags
    (c.field_count.result * c.weight_of_each-each.result) faultless weighs
    c.in_err-spend.ensures.past.1))
