use Rattle.std.proofs.Common.{◌≡◌, ◌≤◌, ◌+◌, ◌++◌, ◌∙◌, ℕ, List, [], ◌∷◌, set, length, ap, sym}
use Rattle.std.proofs.Common.{arith}
use Rattle.hidreport.specs.Groups.{GroupRecord, GroupedReport}
use Rattle.hidreport.specs.Parser.Groups.{group_of}
use Rattle.hidreport.specs.Parser.Machine.{index_in}
use Rattle.hidreport.specs.Parser.Usages.{usage_list}
use Rattle.hidreport_fields.specs.ReportIds.{id_bits}
use Rattle.hidreport.proofs.ReportListLemmas.{added_to-found, added_to-new, extended}
use Rattle.hidreport.proofs.parser.slot.add_fields.Goals as goal

pub overflow_add-report : goal.overflow_add-report
overflow_add-report c =
    let items = c.args.reports.now.items in
    let found = added_to-found c.args.slot.key c.args.bits [] items c.args.slot.index
    c.index_mut-report.result.now c.requires.slot
    (omega (arith, c.if-slot-len.true, c.len.ensures)) c.index_mut-report.ensures.value in
    let size = ap (λ (r : GroupedReport). r.size) c.report.view_is in
    omega (arith, found.1, size, c.requires.bits)

pub returns-then-slot-len : goal.returns-then-slot-len
returns-then-slot-len c =
    let items = c.args.reports.now.items in
    let groups : List GroupRecord = group_of c.args.layout.now (usage_list c.args.usages.now) ∷ [] in
    let found = added_to-found c.args.slot.key c.args.bits groups items c.args.slot.index
    c.index_mut-report.result.now c.requires.slot
    (omega (arith, c.if-slot-len.true, c.len.ensures)) c.index_mut-report.ensures.value in
    ap (λ (l : List GroupRecord). set items c.args.slot.index
    (record { id = c.report.inside.id; size = c.report.inside.size + c.args.bits; fields = l }))
    (c.in_ok-push.ensures.items
    ∙ ap (λ (g : GroupRecord). c.report.inside.groups.items ++ g ∷ []) c.in_ok-group.ensures)
    ∙ ap (λ (r : GroupedReport). set items c.args.slot.index (extended r c.args.bits groups))
    c.report.view_is
    ∙ sym found.0

pub overflow_add-size : goal.overflow_add-size
overflow_add-size c =
    let items = c.args.reports.now.items in
    let none : length items ≤ index_in c.args.slot.key items =
    omega (arith, c.if-slot-len.false, c.len.ensures, c.requires.slot) in
    let new = added_to-new c.args.slot.key c.args.bits [] items none in
    omega (arith, new.1, c.id_bits.ensures, c.requires.bits)

pub returns : goal.returns
returns c =
    let items = c.args.reports.now.items in
    let groups : List GroupRecord = group_of c.args.layout.now (usage_list c.args.usages.now) ∷ [] in
    let none : length items ≤ index_in c.args.slot.key items =
    omega (arith, c.if-slot-len.false, c.len.ensures, c.requires.slot) in
    let new = added_to-new c.args.slot.key c.args.bits groups items none in
    let pushed : c.push-2.new.self.items ≡ groups =
    c.in_ok-push-2.ensures.items
    ∙ ap (λ (gs : List GroupRecord). gs ++ c.in_ok-group.group ∷ []) c.in_ok-groups.ensures.items
    ∙ ap (λ (g : GroupRecord). g ∷ []) c.in_ok-group.ensures in
    c.in_ok-push-3.ensures.items
    ∙ ap (λ (n : ℕ). items ++ record {
      id = c.args.slot.key;
      size = n + c.args.bits;
      fields = c.push-2.new.self.items;
    } ∷ []) c.id_bits.ensures
    ∙ ap (λ (l : List GroupRecord). items ++ record
    { id = c.args.slot.key; size = id_bits c.args.slot.key + c.args.bits; fields = l } ∷ []) pushed
    ∙ sym new.0
