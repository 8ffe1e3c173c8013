use Rattle.std.proofs.Common.{◌≡◌, ◌∙◌, ◌++◌, [], ◌∷◌, None, Option, Some, ap, append-nil, filter_map}
use Rattle.std.proofs.Common.{map, option_map, option_to_list, sym, take}
use Rattle.std.proofs.lemmas.List.{map-append}
use Rattle.hidreport_lists.specs.declared.mending.Reason.{Reason}
use Rattle.hidreport.specs.Repair.{change_in, change_of, change_view}
use Rattle.hidreport.proofs.RepairLemmas.{changes-more}
use Rattle.hidreport.proofs.repairing.change.changes.Goals as goal

pub loop-piece-preserved-in-None : goal.loop-piece-preserved-in-None
loop-piece-preserved-in-None c =
    let pieces = c.args.pieces.now in
    let i = c.loop-piece.piece-index in
    let piece = c.piece-item.result in
    let none : change_in piece ≡ None =
    ap (λ (m : Option Reason). option_map (λ why. change_of why piece) m) (sym c.in-None.ensures) in
    sym (changes-more pieces i piece c.piece-item.result c.loop-piece-test.true c.piece-item.is
    ∙ ap (λ o. filter_map change_in (take i pieces) ++ option_to_list o) none
    ∙ append-nil (filter_map change_in (take i pieces)) ∙ sym c.loop-piece.invariant)

pub loop-piece-preserved : goal.loop-piece-preserved
loop-piece-preserved c =
    let pieces = c.args.pieces.now in
    let i = c.loop-piece.piece-index in
    let piece = c.piece-item.result in
    let change = c.in_ok-change_of.field-0 in
    let some : change_in piece ≡ Some (change_of c.in-Some.reason piece) =
    ap (λ (m : Option Reason). option_map (λ why. change_of why piece) m) (sym c.in-Some.ensures) in
    ap (map change_view) c.in_ok-push.ensures.items
    ∙ map-append change_view c.loop-piece.changes.items (change ∷ [])
    ∙ ap (λ l. l ++ change_view change ∷ []) c.loop-piece.invariant
    ∙ ap (λ x. filter_map change_in (take i pieces) ++ x ∷ []) c.in_ok-change_of.ensures
    ∙ sym (changes-more pieces i piece c.piece-item.result c.loop-piece-test.true c.piece-item.is
    ∙ ap (λ o. filter_map change_in (take i pieces) ++ option_to_list o) some)
