use Rattle.std.proofs.Common.{◌∷◌, ◌++◌, [], ◌∙◌, List, ap, sym, subst, reverse}
use Rattle.hidreport_items.specs.declared.item.ItemType.TheVariants as items
use Rattle.hidreport.specs.ItemState.{ItemState}
use Rattle.hidreport.specs.Parser.ItemStates.{ItemStates, item_state_of}
use Rattle.hidreport.specs.Parser.Journal.{Fits, undone_stack}
use Rattle.hidreport.specs.Parser.Machine.{next_item_state}
use Rattle.hidreport.specs.declared.parser.paged_local.PagedLocal.{PagedLocal}
use Rattle.hidreport.proofs.PushReadings.{fits-added, undone-added}
use Rattle.hidreport.proofs.parser.item_state_table.ItemStateTable.add_local.Goals as goal

pub invariant_of-self-2 : goal.invariant_of-self-2
invariant_of-self-2 c =
    let s = c.self.inside in
    let local : PagedLocal = record { page = s.globals.usage_page; item = c.args.item } in
    subst (λ (ls : List PagedLocal). Fits s.push_keeps s.journal ls) (sym c.in_ok-add.ensures.ok)
    (fits-added s.push_keeps s.journal s.locals (local ∷ []) c.self.invariant)

pub returns : goal.returns
returns c =
    let s = c.self.inside in
    let local : PagedLocal = record { page = s.globals.usage_page; item = c.args.item } in
    ap (λ (ls : List PagedLocal). record {
      push_keeps = s.push_keeps;
      now = item_state_of s.usages_by s.globals ls;
      stack = reverse (undone_stack s.push_keeps s.usages_by s.journal s.globals ls);
    }) c.in_ok-add.ensures.ok
    ∙ ap (λ (l : List ItemState). record {
      push_keeps = s.push_keeps;
      now = item_state_of s.usages_by s.globals (s.locals ++ local ∷ []);
      stack = reverse l;
    }) (undone-added s.push_keeps s.usages_by s.journal s.globals s.locals (local ∷ [])
    c.self.invariant)
    ∙ ap (λ (f : ItemStates). record f { now = next_item_state f.now (items.Local c.args.item) })
    c.self.view_is
