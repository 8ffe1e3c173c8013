use Rattle.std.proofs.Common.{[], refl, sym}
use Rattle.hidreport_c.proofs.ListsLemmas.{written-none}
use Rattle.hidreport_c.proofs.part.write.Goals as goal

pub returns-clause-written : goal.returns-clause-written
returns-clause-written g c =
    c.write_behind.ensures [] c.args.array.now refl (sym (written-none c.args.array.now))
