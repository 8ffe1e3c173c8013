use Rattle.std.proofs.Common.{◌≡◌, ◌+◌, ◌∙◌, Ok, ap, arith, drop, length, length-drop, sym}
use Rattle.hidreport_lists.specs.Mending.{pieces_from, with_piece}
use Rattle.hidreport_lists.proofs.MendingLemmas.{first-piece, with_pieces, with_pieces-more}
use Rattle.hidreport_lists.proofs.mending.pieces.Goals as goal

pub split_at-requires : goal.split_at-requires
split_at-requires c =
    let first = first-piece c.args.leave_out_cut_short c.loop-rest.offset c.loop-rest.rest.now
    c.in-Ok.piece c.in-Ok.ensures.piece in
    omega (arith, first.1, c.size-size.ensures)

pub loop-rest-smaller : goal.loop-rest-smaller
loop-rest-smaller c =
    let first = first-piece c.args.leave_out_cut_short c.loop-rest.offset c.loop-rest.rest.now
    c.in-Ok.piece c.in-Ok.ensures.piece in
    rw c.split_at.ensures.back (simp length-drop
    (omega (arith, first.0, first.1, c.size-size.ensures)))

pub loop-rest-preserved : goal.loop-rest-preserved
loop-rest-preserved c =
    let leave_out = c.args.leave_out_cut_short in
    let offset = c.loop-rest.offset in
    let rest = c.loop-rest.rest.now in
    let piece = c.in-Ok.piece in
    let first = first-piece leave_out offset rest piece c.in-Ok.ensures.piece in
    let after : pieces_from leave_out (offset + c.size-size.result) 0 c.split_at.result.1.now
    ≡ pieces_from leave_out (offset + length piece.stood) 0 (drop (length piece.stood) rest) =
    ap (pieces_from leave_out (offset + c.size-size.result) 0) c.split_at.ensures.back
    ∙ ap (λ k. pieces_from leave_out (offset + k) 0 (drop k rest)) c.size-size.ensures in
    record {
      place = rw c.split_at.ensures.back (simp length-drop
          (omega (arith, first.1, c.size-size.ensures, c.loop-rest.invariant.place)));
      pieces =
          ap (λ l. with_pieces l (pieces_from leave_out (offset + c.size-size.result) 0
          c.split_at.result.1.now)) c.in_ok-push.ensures.items
          ∙ with_pieces-more c.loop-rest.pieces.items piece _ offset
          ∙ ap (with_pieces c.loop-rest.pieces.items)
          (ap (with_piece offset (Ok piece)) after ∙ sym first.2)
          ∙ c.loop-rest.invariant.pieces;
    }
