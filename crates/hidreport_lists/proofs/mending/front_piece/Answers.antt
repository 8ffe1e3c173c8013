use Rattle.std.proofs.Common.{◌∙◌, Ok, ap, sym}
use Rattle.hidreport_lists.proofs.MendingLemmas.{whole-front}
use Rattle.hidreport_lists.proofs.mending.front_piece.Goals as goal

pub returns-then-after-following-clause-piece : goal.returns-then-after-following-clause-piece
returns-then-after-following-clause-piece c =
    whole-front c.args.leave_out_cut_short c.args.offset c.args.bytes.now c.in-Some.header.now
    c.following-following.result c.in-Some.after.now c.in-Some.ensures.cases.0
    c.following-following.ensures.value c.if-after-following.true
    ∙ ap Ok (sym c.whole_piece.ensures)
