use Rattle.std.proofs.Common.{◌≡◌, ◌∙◌, ◌++◌, Err, Option, None, Some, ap, append-nil, filter_map}
use Rattle.std.proofs.Common.{get_or, option_to_list, refl, subst, sym, take}
use Rattle.hidreport_items.specs.declared.item.ItemType.{ItemType}
use Rattle.hidreport_lists.specs.Mending.{PieceRecord, item_in}
use Rattle.hidreport.specs.Meaning.{refusal_at}
use Rattle.hidreport.specs.Repair.{all_mended}
use Rattle.hidreport.proofs.ParseLemmas.{refuses-fault}
use Rattle.hidreport.proofs.RepairLemmas.{Reached, done-more, done-not, reached-more, stop_held}
use Rattle.hidreport.proofs.RepairLemmas.{taken-on}
use Rattle.hidreport.proofs.repairing.mending.mend_all.Goals as goal

pub returns-in-Err-clause-err : goal.returns-in-Err-clause-err
returns-in-Err-clause-err c =
    let piece : PieceRecord =
    get_or c.loop-piece.pieces c.loop-piece.piece-index c.piece-item.result in
    let stop = stop_held c.loop-piece.budget c.loop-piece.state (item_in c.mend.new.piece) in
    let item : item_in c.mend.new.piece ≡ Some c.in-Some.item = sym c.in-Some.ensures in
    refuses-fault c.in-Err.fault c.offset-offset.result c.at.result
    (stop_held c.loop-piece.budget c.loop-piece.state (Some c.in-Some.item))
    (all_mended c.args.options _ c.args.pieces.now) c.in-Err.ensures.err c.at.ensures.named
    c.at.ensures.memory
    (λ f stops. done-not c.args.options c.args.pieces.now c.loop-piece.pieces
    c.loop-piece.piece-index c.loop-piece.budget c.loop-piece.state piece c.mend.new.piece
    c.piece-item.result f c.loop-piece.invariant c.loop-piece-test.true refl c.in_ok-mend.ensures
    (ap (stop_held c.loop-piece.budget c.loop-piece.state) item ∙ stops)
    ∙ ap (λ n. Err (refusal_at n f)) (sym c.offset-offset.ensures))

pub loop-piece-preserved : goal.loop-piece-preserved
loop-piece-preserved c =
    let piece : PieceRecord =
    get_or c.loop-piece.pieces c.loop-piece.piece-index c.piece-item.result in
    let before = filter_map item_in (take c.loop-piece.piece-index c.loop-piece.pieces) in
    let item : item_in c.mend.new.piece ≡ Some c.in-Some.item = sym c.in-Some.ensures in
    done-more c.args.options c.args.pieces.now c.loop-piece.pieces c.loop-piece.piece-index
    c.loop-piece.budget c.take.new.budget c.loop-piece.state c.take.new.self piece
    c.mend.new.piece c.piece-item.result c.loop-piece.invariant c.loop-piece-test.true refl
    c.in_ok-mend.ensures
    (ap (stop_held c.loop-piece.budget c.loop-piece.state) item
    ∙ taken-on c.loop-piece.budget c.loop-piece.state c.take.new.self c.in-Some.item
    c.in_default.ensures.ok c.in_default.ensures.within)
    (subst (λ (o : Option ItemType). Reached c.args.options.parse (before ++ option_to_list o)
    c.take.new.budget c.take.new.self) (sym item)
    (reached-more c.args.options.parse before c.loop-piece.budget c.take.new.budget
    c.loop-piece.state c.take.new.self c.in-Some.item c.loop-piece.invariant.reached
    c.in_default.ensures.ok c.in_default.ensures.within
    c.in_default.ensures.left))

pub loop-piece-preserved-in-None : goal.loop-piece-preserved-in-None
loop-piece-preserved-in-None c =
    let piece : PieceRecord =
    get_or c.loop-piece.pieces c.loop-piece.piece-index c.piece-item.result in
    let before = filter_map item_in (take c.loop-piece.piece-index c.loop-piece.pieces) in
    let item : item_in c.mend.new.piece ≡ None = sym c.in-None.ensures in
    done-more c.args.options c.args.pieces.now c.loop-piece.pieces c.loop-piece.piece-index
    c.loop-piece.budget c.loop-piece.budget c.loop-piece.state c.loop-piece.state piece
    c.mend.new.piece c.piece-item.result c.loop-piece.invariant c.loop-piece-test.true refl
    c.in_ok-mend.ensures (ap (stop_held c.loop-piece.budget c.loop-piece.state) item)
    (subst (λ xs. Reached c.args.options.parse xs c.loop-piece.budget c.loop-piece.state)
    (sym (ap (λ (o : Option ItemType). before ++ option_to_list o) item ∙ append-nil before))
    c.loop-piece.invariant.reached)
