use Rattle.std.proofs.Common.{◌∙◌, [], List, ap, reverse}
use Rattle.hidreport.specs.ItemState.{ItemState}
use Rattle.hidreport.specs.Parser.ItemStates.{item_state_of}
use Rattle.hidreport.specs.Parser.Journal.{UndoRecord, undone_stack}
use Rattle.hidreport.specs.declared.parser.paged_local.PagedLocal.{PagedLocal}
use Rattle.hidreport.proofs.parser.item_state_table.ItemStateTable.new.Goals as goal

pub returns : goal.returns
returns c =
    let push_keeps = c.args.push_keeps in
    let by = c.args.usages_by in
    let g = c.new.result in
    ap (λ (ls : List PagedLocal). record {
      push_keeps = push_keeps;
      now = item_state_of by g ls;
      stack = reverse (undone_stack push_keeps by c.new-3.result g ls);
    }) c.new-2.ensures
    ∙ ap (λ (cs : List UndoRecord). record {
      push_keeps = push_keeps;
      now = item_state_of by g [];
      stack = reverse (undone_stack push_keeps by cs g []);
    }) c.new-3.ensures
    ∙ ap (λ (f : ItemState). record { push_keeps = push_keeps; now = f; stack = [] }) (c.new.ensures by)
