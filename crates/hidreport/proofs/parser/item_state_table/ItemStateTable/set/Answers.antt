use Rattle.std.proofs.Common.{◌∙◌, List, ap, sym, append-nil, reverse}
use Rattle.hidreport_items.specs.declared.item.ItemType.TheVariants as items
use Rattle.hidreport.specs.ItemState.{ItemState}
use Rattle.hidreport.specs.Parser.ItemStates.{ItemStates, item_state_of}
use Rattle.hidreport.specs.Parser.Journal.{UndoRecord, undone_stack}
use Rattle.hidreport.specs.Parser.Machine.{next_item_state}
use Rattle.hidreport.specs.declared.parser.paged_local.PagedLocal.{PagedLocal}
use Rattle.hidreport.proofs.JournalLemmas.{undone-set}
use Rattle.hidreport.proofs.parser.item_state_table.ItemStateTable.set.Goals as goal

pub returns : goal.returns
returns c =
    let s = c.self.inside in
    let locals = s.locals in
    let old : ItemState = item_state_of s.usages_by s.globals locals in
    let stack : List ItemState = reverse (undone_stack s.push_keeps s.usages_by s.journal s.globals locals) in
    ap (λ (cs : List UndoRecord). record {
      push_keeps = s.push_keeps;
      now = item_state_of s.usages_by c.set.new.self locals;
      stack = reverse (undone_stack s.push_keeps s.usages_by cs c.set.new.self locals);
    }) c.in_ok-note_globals.ensures.ok
    ∙ ap (λ (l : List ItemState). record
    { push_keeps = s.push_keeps; now = item_state_of s.usages_by c.set.new.self locals; stack = reverse l })
    (undone-set s.push_keeps s.usages_by s.journal s.globals c.set.new.self locals)
    ∙ ap (λ (f : ItemState). record { push_keeps = s.push_keeps; now = f; stack = stack })
    (c.set.ensures s.usages_by locals
    ∙ ap (λ (l : List PagedLocal). record (next_item_state old (items.Global c.args.item))
    { locals = l }) (sym (append-nil locals)))
    ∙ ap (λ (f : ItemStates). record f { now = next_item_state f.now (items.Global c.args.item) })
    c.self.view_is
