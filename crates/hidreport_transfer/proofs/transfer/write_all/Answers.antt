use Rattle.std.proofs.Common.{rules, arith, ◌<◌, length}
use Rattle.std.proofs.lemmas.Grind.{common_steps}
use Rattle.hidreport_transfer.proofs.TransferLemmas.{left_more, written_more}
use Rattle.hidreport_transfer.proofs.transfer.write_all.Goals as goal

pub loop-rest-preserved : goal.loop-rest-preserved
loop-rest-preserved g c =
    let i = c.loop-rest.invariant in
    let e = c.in-Ok.ensures in
    let s = c.split_at.ensures in
    let some : 0 < length c.loop-rest.rest.now = search rules in
    record {
      within = omega arith;
      left = left_more _ _ _ _ e.within i.within s.back i.left;
      written = written_more _ _ _ _ e.within i.within s.back _ _ _ i.left i.written e.bytes;
      untouched = λ none. absurd (omega arith);
      sound = λ _. grind (arith, common_steps, e.failed);
    }
